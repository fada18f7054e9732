-- A sequence of writes into a caller's buffer.
use Rattle.std.proofs.Common.{◌≡◌, ◌≤◌, ◌+◌, ◌-◌, ℕ, List, [], ◌∷◌, length, take, drop, ◌++◌, refl, sym, ap, subst, ◌∙◌}
use Rattle.std.proofs.Common.{arith, append_assoc, append-nil}
use Rattle.std.proofs.lemmas.{Grind.{common_steps}, List.{drop-drop, length-take-le}}
use Rattle.std.proofs.lemmas.Slice.{drop-put_mid, take-put_mid}
use borrow.Rule.Slice.PartMut.{put_mid}
use Rattle.std.specs.{Fmt.{WritesInCalls}, List.{concat, FoldsTo}}
use Rattle.rustc_lexer_c.specs.{declared.buffer.Buffer.{Buffer}, Highlighted.{IsFront}, Buffer.{Appends}}

-- A list after its items from `a` on were overwritten.
module _ (a : ℕ) (xs ys : List ℕ) (low : a ≤ length xs) where
  abbrev filled : List ℕ
  filled = put_mid a (a + length ys - a) xs ys

  pub filled_within : a + length ys ≤ length filled
  filled_within = grind (arith, common_steps, length-take-le)

  pub filled_front : take (a + length ys) filled ≡ take a xs ++ ys
  filled_front = take-put_mid a (a + length ys - a) xs ys (a + length ys) refl low

  pub filled_rest : drop (a + length ys) filled ≡ drop (a + length ys) xs
  filled_rest = drop-put_mid a (a + length ys - a) xs ys (a + length ys) (omega arith) low (omega arith)

-- Lists that are equal after m items are equal after any more items.
drop_later : (m n : ℕ) (xs ys : List ℕ) → m ≤ n → drop m xs ≡ drop m ys → drop n xs ≡ drop n ys
drop_later m n xs ys low same =
    let whole : n ≡ m + (n - m) = omega arith in
    rw whole (sym (drop-drop (n - m) m xs) ∙ (ap (drop (n - m)) same ∙ drop-drop (n - m) m ys))

-- A sequence of writes is one write of all the bytes.
appends_all : (s : Buffer) (parts : List (List ℕ)) (t : Buffer) → s.len ≤ length s.bytes.now → FoldsTo Appends s parts t
    → Appends s (concat parts) t
appends_all s [] t low is =
    subst (Appends s []) is record {
      same_reference = refl;
      within = low;
      more = omega arith;
      written = sym (append-nil _);
      rest = refl;
    }
appends_all s (x ∷ xs) t low p =
    grind (arith, common_steps, append_assoc, drop_later, appends_all p.0 xs t (p.1).within p.2)

-- Writing into an empty buffer puts exactly these bytes at its start, and it is still the same buffer of the caller.
pub written_front : (s : Buffer) (bytes : List ℕ) (t : Buffer) → s.len ≡ 0 → WritesInCalls Appends s bytes t
    → (t.bytes.ghost_name ≡ s.bytes.ghost_name) × IsFront bytes s.bytes.now t.bytes.now t.len
written_front s bytes t none writes = grind (arith, common_steps, appends_all)
