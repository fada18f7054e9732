use Rattle.std.proofs.Common.{refl, sym, ◌∙◌, arith}
use Rattle.rustc_lexer.proofs.lemmas.tokens.Editions.{first_by, guard_by}
use Rattle.rustc_lexer.proofs.lemmas.tokens.Hashes.{no_hash, no_hash-empty, no_hash-wide, prefix_first, hash_alone}
use Rattle.rustc_lexer.proofs.lemmas.tokens.Hashes.{hash_older}
use Rattle.rustc_lexer.proofs.lemmas.tokens.Quick.{word_first, space_first, symbol_by}
use Rattle.rustc_lexer.proofs.lexemes.quick.quick_token.Goals as goal
use Rattle.rustc_lexer.proofs.lexemes.quick.quick_token.Goals.{else-reserves_guards-via-then-reserves_guards+else-begins_guarded}
use Rattle.rustc_lexer.proofs.lexemes.quick.quick_token.Goals.{else-reserves_guards-via-else-reserves_guards}

pub returns-then-ends_word : goal.returns-then-ends_word
returns-then-ends_word c =
    first_by c.args.reserves_guards _ _
    (word_first c.requires.utf8 c.in_ok-first.ensures.cases.0 c.in_ok-family_of_byte.ensures.0 (sym c.in-Word.is ∙ c.in_ok-family_of_byte.ensures.1) c.run_end-end.ensures.value (sym c.if-ends_word.ensures))
    refl

pub returns-then-ends_space : goal.returns-then-ends_space
returns-then-ends_space c =
    first_by c.args.reserves_guards _ _
    (space_first c.requires.utf8 c.in_ok-first.ensures.cases.0 c.in_ok-family_of_byte.ensures.0 (sym c.in-Space.is ∙ c.in_ok-family_of_byte.ensures.1)
    c.short_run_end-end.ensures.value (sym c.if-ends_space.ensures)) refl

pub returns-in-Symbol : goal.returns-in-Symbol
returns-in-Symbol c =
    symbol_by c.requires.utf8 c.in_ok-first.ensures.cases.0 c.in_ok-family_of_byte.ensures.0 c.args.reserves_guards (sym c.in-Symbol.is ∙ c.in_ok-family_of_byte.ensures.1) c.symbol_kind.ensures

pub returns-then-begins_guarded : goal.returns-then-begins_guarded
returns-then-begins_guarded c =
    rw c.if-reserves_guards.true
    (guard_by c.args.text.now
    (prefix_first _ c.requires.utf8 c.in_ok-first.ensures.cases.0 c.in_ok-family_of_byte.ensures.0
    (sym c.in-Hash.is ∙ c.in_ok-family_of_byte.ensures.1) (sym c.if-begins_guarded.ensures)))

pub returns-else-reserves_guards : goal.returns-else-reserves_guards
returns-else-reserves_guards c =
    let family = sym c.in-Hash.is ∙ c.in_ok-family_of_byte.ensures.1 in
    elim c.else-reserves_guards.branch [
      | else-reserves_guards-via-then-reserves_guards+else-begins_guarded w ↦
          hash_alone c.requires.utf8 c.in_ok-first.ensures.cases.0 c.in_ok-family_of_byte.ensures.0 family
          c.args.reserves_guards (sym w.if-begins_guarded.ensures)
      | else-reserves_guards-via-else-reserves_guards w ↦ rw w.if-reserves_guards.false
          (hash_older c.requires.utf8 c.in_ok-first.ensures.cases.0 c.in_ok-family_of_byte.ensures.0 family)
    ]

pub returns-in_err-first : goal.returns-in_err-first
returns-in_err-first c = rw c.from_residual.ensures (no_hash-empty _ (omega (arith, c.in_err-first.ensures.cases)))

pub returns-in_err-family_of_byte : goal.returns-in_err-family_of_byte
returns-in_err-family_of_byte c =
    rw c.from_residual-in_err-family_of_byte.ensures
    (no_hash-wide c.requires.utf8 c.in_ok-first.ensures.cases.0 c.in_err-family_of_byte.ensures)

pub returns-else-ends_word : goal.returns-else-ends_word
returns-else-ends_word c =
    no_hash c.requires.utf8 c.in_ok-first.ensures.cases.0 (λ e. let f = c.in_ok-family_of_byte.ensures.1 in
    cc c.in-Word.is)

pub returns-else-ends_space : goal.returns-else-ends_space
returns-else-ends_space c =
    no_hash c.requires.utf8 c.in_ok-first.ensures.cases.0 (λ e. let f = c.in_ok-family_of_byte.ensures.1 in
    cc c.in-Space.is)

pub returns-in_default : goal.returns-in_default
returns-in_default c =
    no_hash c.requires.utf8 c.in_ok-first.ensures.cases.0
    (λ e. c.in_default.not-Hash (c.in_ok-family_of_byte.ensures.1 ∙ e))
