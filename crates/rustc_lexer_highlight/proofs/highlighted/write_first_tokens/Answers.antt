use Rattle.std.proofs.Common.{◌≡◌, ℕ, ◌-◌, ◌<◌, arith, take, List, ◌∷◌, zero, suc, refl}
use Rattle.rustc_lexer.specs.declared.token.Token.{Token}
use Rattle.rustc_lexer_highlight.proofs.HighlightedLemmas.{past_piece, writes_token}
use Rattle.rustc_lexer_highlight.proofs.highlighted.write_first_tokens.Goals as goal

-- The first n tokens are the first token, and n - 1 of the rest.
one_less : (n : ℕ) (all others : List Token) (token : Token) → 0 < n → all ≡ token ∷ others
    → take n all ≡ token ∷ take (n - 1) others
one_less zero all others token some is = absurd (omega (arith, some))
one_less (suc n) all others token some is =
    let same : suc n - 1 ≡ n = omega arith in rw (is, same) refl

pub loop-left-preserved : goal.loop-left-preserved
loop-left-preserved g c =
    let step = c.in-Some.ensures.steps in
    let wrote = c.in_ok-rest.ensures in
    let next = past_piece _ _ _ _ _ c.loop-left.invariant.utf8 c.loop-left.invariant.place step wrote.next in
    record {
      utf8 = next.0;
      place = next.1;
      left = λ w more. c.loop-left.invariant.left w
          (writes_token g.W.Write.write_str_gives _ _ _ _ w _ _ _ _ _ (one_less c.loop-left.left _ _ _
          (omega (arith, c.loop-left-test.true)) step.first) wrote.next wrote.written more);
    }
