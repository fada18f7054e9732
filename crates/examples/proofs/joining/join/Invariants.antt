use Rattle.std.proofs.Common.{◌≡◌, Bor, List, ℕ, map, take}
use Rattle.examples.specs.Joining.{AreJoined}
use Rattle.examples.proofs.joining.join.Given as goal

abbrev pub invariant-loop-piece : goal.invariant-loop-piece
invariant-loop-piece l = record {
  edition : l.joined.edition ≡ l.fn.edition;
  joined : AreJoined l.fn.edition (map (λ (p : Bor (List ℕ)). p.now) (take l.piece-index l.pieces)) l.joined.text;
}
