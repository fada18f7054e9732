use Rattle.std.proofs.Common.{◌≡◌, ℕ, ◌-◌, List, length, arith, ap, ◌∙◌}
use Rattle.rustc_lexer.specs.{Document.{tokens_start}, State.{State}}
use Rattle.rustc_lexer.proofs.lemmas.tokens.Places.{document_start}
use Rattle.rustc_lexer_highlight.proofs.HighlightedLemmas.{past_piece, writes_past, writes_token}
use Rattle.rustc_lexer_highlight.proofs.LiteralStretchLemmas.{strings_highlighted}
use Rattle.rustc_lexer_highlight.proofs.highlighted.write_highlighted.Goals as goal

pub loop-token-preserved : goal.loop-token-preserved
loop-token-preserved g c =
    let step = c.in-Some.ensures.steps in
    let wrote = c.in_ok-rest.ensures in
    let next = past_piece _ _ _ _ _ c.loop-token.invariant.utf8 c.loop-token.invariant.place step wrote.next in
    record {
      utf8 = next.0;
      place = next.1;
      left = λ w more. c.loop-token.invariant.left w
          (writes_token g.W.Write.write_str_gives _ _ _ _ w _ _ _ _ _ step.first wrote.next wrote.written more);
    }

pub loop-token-init : goal.loop-token-init
loop-token-init g c =
    let text : List ℕ = c.args.text.now in
    let tokens = c.tokenize_document-tokens in
    let state = c.into_iter-token-iterator.ensures.into_iter_gives ∙ tokens.ensures.state in
    let rest : c.as_str-rest.result.now ≡ c.into_iter-token-iterator.result.rest =
    rw c.into_iter-token-iterator.ensures.into_iter_gives c.as_str-rest.ensures.rest in
    let left = ap (λ (s : State). s.rest) state in
    let begins = document_start _ _ c.into_iter-token-iterator.result tokens.ensures.boundary rest left in
    let size : length text - length c.as_str-rest.result.now - 0 ≡ tokens_start text = omega (arith, begins) in
    let before = rw size at c.range.ensures.value in
    record {
      utf8 = c.as_str-rest.utf8;
      place = rest;
      left = λ w more. writes_past g.W.Write.write_str_gives _ _ _ _ w text (rw before at c.in_ok-write_start.ensures)
          (rw (rest, state) at more);
    }

pub returns-in_err-write_start-clause-strings : goal.returns-in_err-write_start-clause-strings
returns-in_err-write_start-clause-strings g c = strings_highlighted

pub returns-in_err-rest-clause-strings : goal.returns-in_err-rest-clause-strings
returns-in_err-rest-clause-strings g c = strings_highlighted

pub returns-clause-strings : goal.returns-clause-strings
returns-clause-strings g c = strings_highlighted
