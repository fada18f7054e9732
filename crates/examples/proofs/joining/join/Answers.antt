use Rattle.std.proofs.Common.{◌≡◌, ◌+◌, ◌<◌, ◌≤◌, ◌∙◌, Bor, List, [], ◌∷◌, ◌++◌, ℕ, arith, get_or, length, map}
use Rattle.std.proofs.Common.{take, take_all}
use Rattle.std.proofs.lemmas.{Grind.{common_steps}, List.{take_more}}
use Rattle.rustc_lexer.specs.{declared.edition.Edition.{Edition}, Joined.{IsJoined}}
use Rattle.examples.specs.Joining as the
use Rattle.examples.specs.Joining.{AreJoined}
use Rattle.examples.proofs.JoiningLemmas.{tokens_of_joined}
use Rattle.examples.proofs.joining.join.Goals as goal

one_more : (pieces : List (Bor (List ℕ))) (i : ℕ) (d : Bor (List ℕ)) → i < length pieces
    → map (λ (p : Bor (List ℕ)). p.now) (take (i + 1) pieces) ≡ map (λ (p : Bor (List ℕ)). p.now) (take i pieces)
    ++ (get_or pieces i d).now ∷ []
one_more pieces i d less = grind (arith, common_steps, take_more)

more : (edition now_in : Edition) (pieces : List (Bor (List ℕ))) (i : ℕ) (d : Bor (List ℕ)) (text new : List ℕ)
    → i < length pieces → now_in ≡ edition
    → AreJoined edition (map (λ (p : Bor (List ℕ)). p.now) (take i pieces)) text
    → IsJoined now_in text (get_or pieces i d).now new
    → AreJoined edition (map (λ (p : Bor (List ℕ)). p.now) (take (i + 1) pieces)) new
more edition now_in pieces i d text new less same are is =
    rw (one_more pieces i d less) (the.more are (rw same at is))

pub loop-piece-init : goal.loop-piece-init
loop-piece-init c = record {
  edition = c.new-joined.ensures.edition;
  joined = rw c.new-joined.ensures.text the.none;
}

pub loop-piece-preserved : goal.loop-piece-preserved
loop-piece-preserved c = record {
  edition = c.push.ensures.edition ∙ c.loop-piece.invariant.edition;
  joined = more _ _ _ _ _ _ _ c.loop-piece-test.true c.loop-piece.invariant.edition
      c.loop-piece.invariant.joined c.in_ok-push.ensures.joined;
}

-- After the loop, all pieces are joined.
whole : (edition : Edition) (pieces : List (Bor (List ℕ))) (i : ℕ) (text made : List ℕ) → length pieces ≤ i
    → made ≡ text
    → AreJoined edition (map (λ (p : Bor (List ℕ)). p.now) (take i pieces)) text
    → AreJoined edition (map (λ (p : Bor (List ℕ)). p.now) pieces) made
whole edition pieces i text made all same are =
    rw same (rw (take_all i pieces all) at are)

pub returns-clause-joined : goal.returns-clause-joined
returns-clause-joined c = whole _ _ _ _ _ c.loop-piece-test.false c.into_string.ensures c.loop-piece.invariant.joined

pub returns-clause-tokens : goal.returns-clause-tokens
returns-clause-tokens c = tokens_of_joined c.args.edition (returns-clause-joined c)
