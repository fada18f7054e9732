-- Consequences of the agreement of two texts, and of splitting one.
use Rattle.std.proofs.Common.{◌≡◌, ℕ, zero, suc, ◌≤◌, true, List, [], ◌∷◌, length, take, drop, refl, ap, arith}
use Rattle.std.proofs.Common.{length-drop, length-take, IsUtf8}
use lib.Utf8.{scalars, scalar}
use Rattle.std.proofs.lemmas.{Str.{IsCharBoundary-from_take, IsUtf8-drop}, Bool.{and_parts}, Grind.{common_steps}}
use Rattle.rustc_lexer.specs.Classes.{IsText}
use Rattle.rustc_lexer.specs.Locality.{AgreePast}

-- An offset in bounds of one text is in bounds of the other.
pub agree_inside : (offset : ℕ) (text other : List ℕ) → offset ≤ length text → AgreePast offset text other
    → offset ≤ length other
agree_inside offset text other inside agree = let same = ap length agree.below in
    omega (arith, same, length-take offset text, length-take offset other)

-- The text after a prefix that can be cut off is a text.
pub left_text : (other : List ℕ) (n : ℕ) → IsText other → n ≤ length other → IsUtf8 (take n other)
    → IsText (drop n other)
left_text other n is inside front = grind (arith, common_steps, IsUtf8-drop, IsCharBoundary-from_take, length-drop)

pub scalars-take : (n : ℕ) (cs : List ℕ) → scalars cs ≡ true → scalars (take n cs) ≡ true
scalars-take zero cs is = refl
scalars-take (suc n) [] is = refl
scalars-take (suc n) (c ∷ cs) is = let b = and_parts (scalar c) (scalars cs) is in rw b.0 (scalars-take n cs b.1)

pub scalars-drop : (n : ℕ) (cs : List ℕ) → scalars cs ≡ true → scalars (drop n cs) ≡ true
scalars-drop zero cs is = is
scalars-drop (suc n) [] is = refl
scalars-drop (suc n) (c ∷ cs) is = scalars-drop n cs (and_parts (scalar c) (scalars cs) is).1
