use Rattle.std.proofs.Common.{◌≡◌, ◌-◌, ℕ, map, take, List, length, drop, refl, sym, ap, ap₂, ◌∙◌, arith, rules}
use Rattle.std.proofs.Common.{string_bytes}
use Rattle.std.proofs.lemmas.List.{length-map, take_rest}
use Rattle.rustc_lexer.specs.{Relexer.{IsMadeOf}, model.Document.{IsPut, body_change, body_insert}}
use Rattle.rustc_lexer.specs.{declared.relex.counts.Relexed.{Relexed}, Token, LexedText.{layout_in}}
use Rattle.rustc_lexer.specs.Partition.{tokens_by}
use Rattle.rustc_lexer.proofs.lemmas.edits.DocumentEdits.{bounds_move, counted_are, counted_few, counted_refused}
use Rattle.rustc_lexer.proofs.lemmas.edits.DocumentEdits.{made_here, made_read, near_behind, new_are, new_behind}
use Rattle.rustc_lexer.proofs.lemmas.edits.DocumentEdits.{old_behind, left_back, refused}
use Rattle.rustc_lexer.proofs.lemmas.edits.{FrontAndBack.{edited}, WholeEdits.{few_by, relexed_as, steps_by}}
use Rattle.rustc_lexer.proofs.lemmas.edits.{ByLengths.{made_change}, UnderWay.{counts_exact, few_lexed}}
use Rattle.rustc_lexer.proofs.lemmas.tokens.Progress.{same_first}
use Rattle.rustc_lexer.proofs.relex.lexed.parts.update.{Given.{Over}, Goals.{After-nearest-near}}
use Rattle.rustc_lexer.proofs.relex.lexed.parts.update.Goals as goal

module _ (g : Over) (c : After-nearest-near g) where
  change : c.body_change-change.result
      ≡ body_change c.between-head.result.keeps c.args.parts.now.head.body c.find_head-now.result.body c.args.edit
  change = rw (c.between-head.ensures.before, c.between-head.ensures.after) at c.body_change-change.ensures

  -- The body is the result of its change.
  made : {before insert : List ℕ}
      → IsPut (layout_in g.E.Extent.whole) (g.S.Stepper.grammar c.args.parts.now.stepper).first before insert
      c.args.edit (string_bytes c.args.parts.now.text) c.args.parts.now.tokens.items c.args.parts.now.head
      c.args.parts.now.checkpoints
      → let slice : List Token = c.as_slice.result.now in
      let body : List ℕ = c.range_from-text.result.now in
      IsMadeOf (g.S.Stepper.grammar c.args.parts.now.stepper).first (drop c.args.parts.now.head.body before)
      (map (λ (t : Token). t.len) (take (length slice - c.count.result) (drop c.count.result slice)))
      c.body_change-change.result (body_insert c.between-head.result.keeps c.body_change-change.result insert body) body
  made p = made_read (g.S.Stepper.law c.args.parts.now.stepper) p c.as_str-made.ensures.value
      c.find_head-now.ensures.head c.between-head.ensures.keeps c.count.ensures c.range_from-text.ensures.value change
      c.as_slice.ensures.value

pub lex_replacement-requires-clause-is_text : goal.lex_replacement-requires-clause-is_text
lex_replacement-requires-clause-is_text g c =
    (edited (made g (goal.at.lex_replacement-requires-clause-is_text g c).After-nearest-near c.requires.put.2).edit_of).text_is

pub lex_replacement-requires-clause-change : goal.lex_replacement-requires-clause-change
lex_replacement-requires-clause-change g c =
    made_change (made g (goal.at.lex_replacement-requires-clause-change g c).After-nearest-near c.requires.put.2).edit_of

pub checkpoints-checkpoints-requires-clause-movable : goal.checkpoints-checkpoints-requires-clause-movable
checkpoints-checkpoints-requires-clause-movable g c =
    let p = c.requires.put.2 in
    let law = g.S.Stepper.law c.args.parts.now.stepper in
    let at = (goal.at.checkpoints-checkpoints-requires-clause-movable g c).After-nearest-near in
    let text = c.as_str-made.ensures.value in
    let l = rw (change g at, c.range_from-text.ensures.value, text) at
    (c.in_ok-lexed.ensures.lexed _ _ (made g at p) (near_behind law p c.nearest-near.ensures)) in
    (bounds_move law p (rw text at c.find_head-now.ensures.head) c.between-head.ensures.keeps l refl).0

pub document_counts-requires-clause-front : goal.document_counts-requires-clause-front
document_counts-requires-clause-front g c =
    let p = c.requires.put.2 in
    let law = g.S.Stepper.law c.args.parts.now.stepper in
    let at = (goal.at.document_counts-requires-clause-front g c).After-nearest-near in
    let text = c.as_str-made.ensures.value in
    let l = rw (change g at, c.range_from-text.ensures.value, text) at
    (c.in_ok-lexed.ensures.lexed _ _ (made g at p) (near_behind law p c.nearest-near.ensures)) in
    rw c.counts-counts.ensures
    (counted_few law p (rw text at c.find_head-now.ensures.head) c.between-head.ensures.keeps l refl)

pub returns-clause-renewed : goal.returns-clause-renewed
returns-clause-renewed g c before insert p =
    let law = g.S.Stepper.law c.args.parts.now.stepper in
    let at = (goal.at.returns-clause-renewed g c).After-nearest-near in
    let text = c.as_str-made.ensures.value in
    let now_is = rw text at c.find_head-now.ensures.head in
    let near = near_behind law p c.nearest-near.ensures in
    let l = rw (change g at, c.range_from-text.ensures.value, text) at
    (c.in_ok-lexed.ensures.lexed _ _ (made g at p) near) in
    let put = rw (c.between-head.ensures.before, c.between-head.ensures.after) at c.in_ok-splice_into.ensures.put in
    let stays = c.between-head.ensures.keeps in
    let n = c.count.result in
    let slice : List Token = c.as_slice.result.now in
    let old : List Token = tokens_by (g.S.Stepper.grammar c.args.parts.now.stepper).first
    (drop c.args.parts.now.head.body before) in
    let size : length (take (length slice - n) (drop n slice)) ≡ length old =
    ap (λ (ts : List Token). length ts)
    (take_rest slice n ∙ (ap₂ drop c.count.ensures c.as_slice.ensures.value ∙ old_behind law p)) in
    let many = size ∙ sym (length-map old (λ (t : Token). t.len)) in
    let found =
    (counts_exact law (made_here law p now_is stays) l.under_way _ many c.counts-counts.ensures l.met).0 in
    let moved = bounds_move law p now_is stays l put in
    let all = rw (c.between-head.ensures.before, c.between-head.ensures.after) at c.document_counts.ensures in
    let new = new_are law p now_is stays l put in (
      (
        (edited p.edit_of).text_is,
        rw (same_first c.lex_replacement.ensures.grammar) new,
        now_is,
        rw text at c.find_head-now.ensures.boundary,
        rw (new_behind law p now_is stays l put)
            (c.checkpoints-checkpoints.ensures _ _ moved.1 (rw (old_behind law p) at p.kept.4)
            (rw (c.range_from-text.ensures.value, text) at
            (c.in_ok-lexed.ensures.bounds _ _ (made g at p) near (c.new-lexed_bounds.ensures _)))),
      ),
      record {
        text = p.edit_of.made;
        from_scratch = new;
        relexed = rw all (relexed_as law p.edit_of p.kept.2 now_is stays c.counts-counts.result found);
        kept = rw (← rw size at c.counts-counts.ensures, ← all) at (counted_are law p now_is stays l put);
        same_text = search rules;
        same_tokens = search rules;
      },
      record {
        count = rw (← p.edit_of.made, all)
            (omega (
              arith,
              steps_by law p.edit_of p.kept.2 now_is stays c.counts-counts.result found,
              ap (λ (x : Relexed). x.lexed) c.counts-counts.ensures,
              l.lexed,
              c.in_ok-lexed.ensures.count,
            ));
        rose = c.lex_replacement.ensures.rose;
        few = search rules;
      },
    )

pub returns-in_err-lexed-clause-renewed : goal.returns-in_err-lexed-clause-renewed
returns-in_err-lexed-clause-renewed g c before insert p =
    let law = g.S.Stepper.law c.args.parts.now.stepper in
    let at = (goal.at.returns-in_err-lexed-clause-renewed g c).After-nearest-near in
    let text = c.as_str-made.ensures.value in
    let r = c.from_residual in
    let few = few_by law p.edit_of p.kept.2 (rw text at c.find_head-now.ensures.head) c.between-head.ensures.keeps _ _
    (rw (change g at, c.range_from-text.ensures.value, text) at
    (c.in_err-lexed.ensures.few _ _ (made g at p) (near_behind law p c.nearest-near.ensures))) in
    let back = left_back r.result (string_bytes c.args.parts.now.text) before r.ensures.0 in (
      rw (back, c.lex_replacement.ensures.grammar) p.kept,
      refused r.result r.ensures.0 p.kept.1 back refl,
      counted_refused r.result r.ensures.0 c.lex_replacement.ensures.rose few,
    )

pub returns-in_err-splice_into-clause-renewed : goal.returns-in_err-splice_into-clause-renewed
returns-in_err-splice_into-clause-renewed g c before insert p =
    let law = g.S.Stepper.law c.args.parts.now.stepper in
    let at = (goal.at.returns-in_err-splice_into-clause-renewed g c).After-nearest-near in
    let text = c.as_str-made.ensures.value in
    let now_is = rw text at c.find_head-now.ensures.head in
    let l = rw (change g at, c.range_from-text.ensures.value, text) at
    (c.in_ok-lexed.ensures.lexed _ _ (made g at p) (near_behind law p c.nearest-near.ensures)) in
    let few = few_by law p.edit_of p.kept.2 now_is c.between-head.ensures.keeps _ _
    (λ x counts. omega (
      arith,
      l.lexed,
      c.in_ok-lexed.ensures.count,
      few_lexed law (made_here law p now_is c.between-head.ensures.keeps) l.under_way x counts,
    )) in
    let r = c.from_residual-in_err-splice_into in
    let back = left_back r.result (string_bytes c.args.parts.now.text) before r.ensures.0 in (
      rw (back, c.lex_replacement.ensures.grammar, c.in_err-splice_into.ensures.same) p.kept,
      refused r.result r.ensures.0 p.kept.1 back c.in_err-splice_into.ensures.same,
      counted_refused r.result r.ensures.0 c.lex_replacement.ensures.rose few,
    )
