-- The escaped output, read back between double quotes.
use Rattle.std.proofs.Common.{Bool, ◌≡◌, ℕ, suc, ◌<◌, ◌==◌, true, false, List, [], ◌∷◌, ◌++◌, length, map, Result, Ok}
use Rattle.std.proofs.Common.{refl, sym, ap, ◌∙◌, arith, get_or, length-append, ◌+◌, subst, take}
use Rattle.std.specs.Char.{is_ascii, IsScalar, Escape.{escape_ascii, escape_default}}
use Rattle.std.specs.{List.{AllByRecursion, flat_map, list_all, list_any, slice_index}, Prelude.{String}}
use Rattle.std.specs.{String.{string_bytes}, Str.{all_scalars, chars, encode_utf8_all, IsAscii, IsCharBoundary, IsUtf8}}
use Rattle.std.proofs.lemmas.{List.{append-nil, map-id}, Bool.{and_from, and_parts, lt-ltb, ltb-true, or_parts}}
use Rattle.std.proofs.{Math.Seq.{take-append_seam}, lemmas.{List.{Recursion.{and_at}, Folds.{list_all-append}}}}
use Rattle.std.proofs.lemmas.Str.{chars-IsAscii, encodes-IsAscii, IsCharBoundary-from_take, IsUtf8-string_bytes}
use Rattle.std.proofs.lemmas.Str.{scalars-chars}
use Rattle.std.proofs.lemmas.{Str.Ascii.{IsAscii-from_reads}, Grind.{common_steps}}
use Rattle.rustc_literal_escaper.specs.declared.{element.Element.{Element}, error.EscapeError.{EscapeError}}
use Rattle.rustc_literal_escaper.specs.{Grammar.{Item}, model.Elements.{front, items_from, place, StartsWithOne}}
use Rattle.rustc_literal_escaper.specs.Meaning.{byte_of, char_of, unit_of, unit_of_byte}
use Rattle.rustc_literal_escaper.specs.Written.{Grows, StandsFor, written_bytes, written_text}
use Rattle.rustc_literal_escaper.specs.laws.Elements.{items-cons, nothing}
use Rattle.rustc_literal_escaper.proofs.RoundTripLemmas.{IsSpelled, byte-spelled, char-spelled}

-- If all elements pass a test, they pass a weaker test.
pub all-weaker : (p q : ℕ → Bool) → ((c : ℕ) → p c ≡ true → q c ≡ true) → (cs : List ℕ) → list_all p cs ≡ true
    → list_all q cs ≡ true
all-weaker p q weaker [] e = refl
all-weaker p q weaker (c ∷ cs) e = grind (arith, common_steps, and_parts, and_from, all-weaker p q weaker cs)

pub is-ascii : (xs : List ℕ) → list_all is_ascii xs ≡ true → IsAscii xs
is-ascii xs e = IsAscii-from_reads xs (length xs) (omega arith)
    (λ k l. ltb-true (get_or xs k 0) 128 (and_at (list_all is_ascii) is_ascii refl (λ x ys. refl) xs k 0 l e))

-- ---- the output for a list is ASCII, and has the values of the list

module _ {U : Type 0} (meaning : Element → Result U EscapeError) (written : ℕ → List ℕ) (unit : ℕ → U) where
  abbrev pub AreSpelled : List ℕ → Type 0
  AreSpelled cs = AllByRecursion (λ c. IsSpelled meaning (unit c) (written c)) cs

  pub all-ascii : (cs : List ℕ) → AreSpelled cs → list_all is_ascii (flat_map written cs) ≡ true
  all-ascii [] all = refl
  all-ascii (c ∷ cs) all = list_all-append is_ascii (written c) (flat_map written cs)
      ∙ rw (all.0.ascii) (all-ascii cs all.1)

  abbrev units_in : List Item → List (Result U EscapeError)
  units_in items = map (λ (item : Item). meaning item.1) items

  read-first : (total : ℕ) (e : Element) (u : U) (xs s : List ℕ) → StartsWithOne false xs e s → meaning e ≡ Ok u
      → units_in (items_from front total xs) ≡ Ok u ∷ units_in (items_from front total s)
  read-first total e u [] s starts means = absurd starts
  read-first total e u (c ∷ t) s starts means = grind (arith, common_steps, items-cons false (place total) c t)

  read-all : (total : ℕ) (cs : List ℕ) → AreSpelled cs → units_in (items_from front total (flat_map written cs)) ≡
      map Ok (map unit cs)
  read-all total [] all = ap units_in (nothing front (place total))
  read-all total (c ∷ cs) all = grind (arith, common_steps, read-first, read-all total cs)

  pub stands_for : (cs : List ℕ) → AreSpelled cs → StandsFor meaning (flat_map written cs) (map unit cs)
  stands_for cs all = grind (arith, common_steps, chars-IsAscii, is-ascii, all-ascii, read-all)

-- The output for a text.
text-spelled : (cs : List ℕ) → all_scalars cs ≡ true → AreSpelled char_of escape_default (λ c. c) cs
text-spelled [] e = tt
text-spelled (c ∷ cs) e = let p = and_parts _ (all_scalars cs) e in (char-spelled c p.0, text-spelled cs p.1)

pub char-encodes : (c : ℕ) → IsScalar c → encode_utf8_all (escape_default c) ≡ escape_default c
char-encodes c is = encodes-IsAscii (escape_default c) (is-ascii (escape_default c) (char-spelled c is).ascii)

pub text-comes_back : (text : List ℕ) → IsUtf8 text → StandsFor char_of (written_text text) (chars text)
text-comes_back text is =
    stands_for char_of escape_default (λ c. c) (chars text) (text-spelled (chars text) (scalars-chars text is))
    ∙ ap (map Ok) (map-id (chars text))

-- The output for bytes, in a byte string and in a C string.
bytes-spelled : (bytes : List ℕ) → ((i : ℕ) → slice_index bytes i < 256)
    → AreSpelled byte_of escape_ascii (λ b. b) bytes
bytes-spelled [] small = tt
bytes-spelled (b ∷ bs) small = (
  byte-spelled byte_of (λ n. n) b (small 0) refl (λ l. rw (lt-ltb b 128 (omega arith)) refl),
  bytes-spelled bs (λ i. small (suc i)),
)

pub bytes-come_back : (bytes : List ℕ) → ((i : ℕ) → slice_index bytes i < 256)
    → StandsFor byte_of (written_bytes bytes) bytes
bytes-come_back bytes small = stands_for byte_of escape_ascii (λ b. b) bytes (bytes-spelled bytes small)
    ∙ ap (map Ok) (map-id bytes)

units-spelled : (bytes : List ℕ) → ((i : ℕ) → slice_index bytes i < 256) → list_any (λ b. b == 0) bytes ≡ false
    → AreSpelled unit_of escape_ascii unit_of_byte bytes
units-spelled [] small none = tt
units-spelled (b ∷ bs) small none =
    let p = or_parts (b == 0) (list_any (λ b. b == 0) bs) none in (
      byte-spelled unit_of unit_of_byte b (small 0) (rw p.0 refl) (λ l. rw p.0 (rw (lt-ltb b 128 (omega arith)) refl)),
      units-spelled bs (λ i. small (suc i)) p.1,
    )

pub units-come_back : (bytes : List ℕ) → ((i : ℕ) → slice_index bytes i < 256) → list_any (λ b. b == 0) bytes ≡ false
    → StandsFor unit_of (written_bytes bytes) (map unit_of_byte bytes)
units-come_back bytes small none = stands_for unit_of escape_ascii unit_of_byte bytes (units-spelled bytes small none)

-- ---- appending piece by piece

-- Holds if `now` is `old` with a part of `all` appended, and `left` is the rest of `all`.
pub record Writing (all old now left : List ℕ) : Type 0 where
  pub grown : Grows old now
  pub whole : now ++ left ≡ old ++ all

pub writing-start : (all old : List ℕ) → Writing all old old all
writing-start all old = record { grown = ([], sym (append-nil old)); whole = refl }

-- The end of the old text is a char boundary of the new text, so the appended part can be removed.
pub boundary : {Z : Type 0} (old new : String Z) → Grows (string_bytes old) (string_bytes new)
    → IsCharBoundary (string_bytes new) (length (string_bytes old))
boundary old new g =
    let l : length (string_bytes new) ≡ length (string_bytes old) + length g.0 =
    ap length g.1 ∙ length-append (string_bytes old) g.0 in
    IsCharBoundary-from_take (string_bytes new) (length (string_bytes old)) (IsUtf8-string_bytes new) (omega arith)
    (subst IsUtf8 (sym (ap (take (length (string_bytes old))) g.1 ∙ take-append_seam (string_bytes old) g.0))
    (IsUtf8-string_bytes old))

pub ruleset written_lemmas = (bytes-come_back, units-come_back, text-comes_back, char-encodes, writing-start)
