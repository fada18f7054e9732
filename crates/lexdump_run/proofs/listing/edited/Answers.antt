use Rattle.std.proofs.{Common.{List, ℕ, arith, ap, ◌∙◌}, lemmas.Grind.{common_steps}}
use Rattle.rustc_lexer.specs.declared.relex.{edit.Edit.{Edit as TextEdit}, edit_error.EditStop.{EditStop}}
use Rattle.lexdump_run.specs.{Fault.{stop_fault}, Outcome.{IsRefused, StopsAt}}
use Rattle.lexdump_run.proofs.listing.edited.Goals as goal
use Rattle.rustc_lexer.specs.{LanguageText.{part}, Locality.{Grammar}}
use Rattle.rustc_lexer.specs.Tokens.{tokens_by, tokens_of}

refused : (text : List ℕ) (edits : List TextEdit) (stop : EditStop) → StopsAt stop text edits
    → IsRefused text edits (stop_fault stop)
refused text edits w2 stops = grind (arith, common_steps)

pub returns-in-Err-clause-err : goal.returns-in-Err-clause-err
returns-in-Err-clause-err c =
    let stop = c.in-Err.ensures.made in
    rw (c.stop_fault.ensures, ← c.in_ok-lexed.ensures.text)
    (refused _ _ _ (
      stop.stop_accepted,
      rw stop.stop_text at stop.stop,
    ))

pub returns-in-Ok-clause-ok : goal.returns-in-Ok-clause-ok
returns-in-Ok-clause-ok c =
    rw (← c.in_ok-lexed.ensures.text) (
      c.in-Ok.ensures.made.accepted,
      c.in-Ok.ensures.made.from_scratch
          ∙ (ap (λ (grammar : Grammar). tokens_by grammar.first c.edit_all.new.self.text) c.in_ok-lexed.ensures.grammar
          ∙ ap (tokens_of (part c.args.edition)) c.in-Ok.ensures.made.text),
    )
