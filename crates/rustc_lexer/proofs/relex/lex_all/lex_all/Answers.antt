use Rattle.std.proofs.Common.{◌≡◌, ◌+◌, ◌-◌, ◌≤◌, List, [], ◌++◌, length, length-append, length-drop, drop, take, refl}
use Rattle.std.proofs.Common.{sym, ap, ◌∙◌, subst, arith, rules, append_assoc}
use Rattle.std.proofs.lemmas.{Grind.{common_steps}, List.{append-nil, drop-append-le, drop_all}}
use Rattle.rustc_lexer.specs.{Token, Tokens.{bound, tokens_by}, Classes.{IsText}}
use Rattle.rustc_lexer.proofs.lemmas.edits.ManyTokens.{block_more}
use Rattle.rustc_lexer.proofs.lemmas.tokens.Progress.{IsLexedTo, lexed_offset, lexed_whole, same_first}
use Rattle.rustc_lexer.proofs.relex.lex_all.lex_all.Goals as goal

-- Appending to a list does not make it shorter.
grown : (old now : List Token) → now ≡ old ++ drop (length old) now → length old ≤ length now
grown old now e = omega (arith, ap (λ (ts : List Token). length ts) e, length-append old (drop (length old) now))

pub left-init : goal.left-init
left-init g c =
    let old : List Token = c.args.tokens.now.items in
    let none : drop (length old) old ≡ [] = drop_all (length old) old (omega arith) in
    let begun : IsLexedTo (g.S.Stepper.grammar c.args.stepper.now).first c.args.text.now [] 0 = search rules in (
      sym (ap (λ ts. old ++ ts) none ∙ append-nil old),
      subst (λ (ts : List Token). IsLexedTo (g.S.Stepper.grammar c.args.stepper.now).first c.args.text.now ts 0)
          (sym none) begun,
      refl,
      omega (arith, ap (λ (ts : List Token). length ts) none),
      c.new-checkpoints.ensures _,
    )

pub overflow_sub-index : goal.overflow_sub-index
overflow_sub-index g c = omega (arith, grown c.args.tokens.now.items c.left.tokens.items c.left.invariant.0)

pub range_from-requires : goal.range_from-requires
range_from-requires g c = grind (arith, common_steps, lexed_offset)

pub returns-clause-tokens : goal.returns-clause-tokens
returns-clause-tokens g c =
    let is : IsText c.args.text.now = record { utf8 = c.utf8.text; fits = c.requires.fits } in
    c.left.invariant.0
    ∙ ap (λ ts. c.args.tokens.now.items ++ ts)
    (lexed_whole (g.S.Stepper.law c.args.stepper.now) _ _ _ is c.left.invariant.1 (omega arith))

pub returns-clause-count : goal.returns-clause-count
returns-clause-count g c =
    let is : IsText c.args.text.now = record { utf8 = c.utf8.text; fits = c.requires.fits } in
    omega (
      arith,
      c.left.invariant.3,
      ap (λ (ts : List Token). length ts)
          (lexed_whole (g.S.Stepper.law c.args.stepper.now) _ _ _ is c.left.invariant.1 (omega arith)),
    )

pub overflow_add-offset : goal.overflow_add-offset
overflow_add-offset g c =
    let is : IsText c.args.text.now = record { utf8 = c.utf8.text; fits = c.requires.fits } in
    let next = block_more (g.S.Stepper.law c.args.stepper.now) is (same_first c.left.invariant.2) c.left.invariant.1
    (omega arith)
    c.range_from.ensures.value (omega arith) (omega arith) c.fill-count.ensures.filled c.fill-count.ensures.bytes in
    omega (arith, next.few)

pub left-smaller : goal.left-smaller
left-smaller g c =
    let is : IsText c.args.text.now = record { utf8 = c.utf8.text; fits = c.requires.fits } in
    let next = block_more (g.S.Stepper.law c.args.stepper.now) is (same_first c.left.invariant.2) c.left.invariant.1
    (omega arith)
    c.range_from.ensures.value (omega arith) (omega arith) c.fill-count.ensures.filled c.fill-count.ensures.bytes in
    omega (arith, next.some, next.few)

pub left-preserved : goal.left-preserved
left-preserved g c =
    let is : IsText c.args.text.now = record { utf8 = c.utf8.text; fits = c.requires.fits } in
    let next = block_more (g.S.Stepper.law c.args.stepper.now) is (same_first c.left.invariant.2) c.left.invariant.1
    (omega arith)
    c.range_from.ensures.value (omega arith) (omega arith) c.fill-count.ensures.filled c.fill-count.ensures.bytes in
    let old : List Token = c.args.tokens.now.items in
    let behind : List Token = drop (length old) c.left.tokens.items in
    let written : List Token = take c.fill-count.result.0 c.fill-count.new.buffer in
    let long : length old ≤ length c.left.tokens.items =
    grown c.args.tokens.now.items c.left.tokens.items c.left.invariant.0 in
    let added : c.extend_from_slice.new.self.items ≡ c.left.tokens.items ++ written =
    c.in_ok-extend_from_slice.ensures.items ∙ ap (λ ts. ts ++ written) c.make_room.ensures in
    let more : drop (length old) c.extend_from_slice.new.self.items ≡ behind ++ written = ap (drop (length old)) added
    ∙ drop-append-le (length old) c.left.tokens.items written long in
    let number : c.len.result - c.len-old_count.result ≡ length behind =
    omega (arith, length-drop (length old) c.left.tokens.items, long) in (
      added ∙ (ap (λ ts. ts ++ written) c.left.invariant.0
          ∙ (append_assoc old behind written ∙ ap (λ ts. old ++ ts) (sym more))),
      subst (λ (ts : List Token). IsLexedTo (g.S.Stepper.grammar c.args.stepper.now).first c.args.text.now ts
          (c.left.offset + c.fill-count.result.1)) (sym more) next.more,
      c.fill-count.ensures.grammar ∙ c.left.invariant.2,
      omega (
        arith,
        ap (λ (ts : List Token). length ts) more,
        next.number,
        c.fill-count.ensures.count,
        c.left.invariant.3,
        length-append behind written,
      ),
      c.remember.ensures _ c.left.invariant.4 (
        omega (arith, number, c.left.invariant.1.number),
        c.left.invariant.1.offset_is
            ∙ ap (bound (tokens_by (g.S.Stepper.grammar c.args.stepper.now).first c.args.text.now)) (sym number),
      ),
    )
