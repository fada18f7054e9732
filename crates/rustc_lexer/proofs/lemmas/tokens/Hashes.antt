-- A hash, decided by the byte after it.
use Rattle.std.proofs.Common.{◌≡◌, ◌≢◌, ℕ, ◌<◌, ◌≤◌, Bool, refl, true, false, List, [], ◌∷◌}
use Rattle.std.proofs.Common.{length, ap, arith}
use Rattle.std.specs.Str.{IsUtf8}
use Rattle.std.proofs.lemmas.Bool.{eqb-true, or_cases}
use Rattle.std.proofs.lemmas.Str.{chars-nil, encode_ascii, encodes-chars, IsCharBoundary-from_drop}
use Rattle.std.proofs.lemmas.Grind.{common_steps}
use Rattle.rustc_lexer.specs.{GuardedStrPrefix, Pound, laws.Choice.{by_either}}
use Rattle.rustc_lexer.proofs.lemmas.tokens.Editions.{first_by, pound_by}
use Rattle.rustc_lexer.specs.{declared.lexemes.family.Family.TheVariants.{Hash}, model.Hash.{opens_guarded}}
use Rattle.rustc_lexer.specs.model.{Lexeme.{family_of, past_first}, Quick.{BeginsWithNoHash, IsFirstBy, IsFirstToken}}
use Rattle.rustc_lexer.specs.model.{Raw.{is_hash}, Scan.{next_is, scanned}}
use Rattle.rustc_lexer.proofs.lemmas.tokens.{AsciiRuns.{next_byte, IsUtf8-ascii, past-ascii}, Families.{by_family}}
use Rattle.rustc_lexer.specs.laws.Past.{past-zero}
use Rattle.rustc_lexer.proofs.lemmas.tokens.Quick.{first}

opens_guarded-small : (c : ℕ) → opens_guarded c ≡ true → c < 128
opens_guarded-small c e = grind (arith, common_steps, or_cases, eqb-true)

pub hash-small : (c : ℕ) → is_hash c ≡ true → c < 128
hash-small c e = grind (arith, common_steps, eqb-true)

-- The hash is the only character of its family.
hash-code : (c : ℕ) → family_of c ≡ Hash → c ≡ 35
hash-code c e = grind arith

-- The first byte decides that a text does not start with a hash.
pub no_hash : {text : List ℕ} {b : ℕ} {rest : List ℕ} → IsUtf8 text → text ≡ b ∷ rest → family_of b ≢ Hash
    → BeginsWithNoHash text
no_hash {text} {b} {rest} is e other first cs read family =
    let code : first ≡ 35 = hash-code first family in
    let whole = rw (read, encode_ascii first (omega arith)) at (encodes-chars text is) in
    let same : b ≡ first = cc in
    other (rw same family)

pub no_hash-wide : {text : List ℕ} {b : ℕ} {rest : List ℕ} → IsUtf8 text → text ≡ b ∷ rest → 128 ≤ b
    → BeginsWithNoHash text
no_hash-wide {b = b} is e wide = no_hash is e (λ family. let code = hash-code b family in omega arith)

pub no_hash-empty : (text : List ℕ) → length text ≡ 0 → BeginsWithNoHash text
no_hash-empty text w1 = grind (arith, common_steps, first, chars-nil)

-- A hash before a quote or a hash is the prefix of a guarded string.
pub prefix_first : {text : List ℕ} {b : ℕ} (rest : List ℕ) → IsUtf8 text → text ≡ b ∷ rest → b < 128
    → Hash ≡ family_of b → next_is opens_guarded rest ≡ true
    → IsFirstToken text record { kind = GuardedStrPrefix; len = 2 }
prefix_first [] is e small family opens = absurd (cc)
prefix_first {text} {b} (d ∷ ds) is e small family opens =
    first is e small GuardedStrPrefix 1 (omega arith) decided
  where
    decided : IsUtf8 (d ∷ ds) → (GuardedStrPrefix, ds) ≡ scanned (past_first b) (d ∷ ds)
    decided inner =
        by_family Hash b (d ∷ ds) _ family
        (grind (
          arith,
          common_steps,
          next_byte opens_guarded opens_guarded-small (d ∷ ds) inner,
          past-ascii d ds inner (opens_guarded-small d opens),
        ))

module _ {text : List ℕ} {b : ℕ} {rest : List ℕ} (is : IsUtf8 text) (e : text ≡ b ∷ rest) (small : b < 128)
    (family : Hash ≡ family_of b) where
  -- A hash before any other character is a token of one byte, in each edition.
  pub hash_alone : (guards : Bool) → next_is opens_guarded rest ≡ false
      → IsFirstBy guards text record { kind = Pound; len = 1 }
  hash_alone guards none = first_by guards text _ (first is e small Pound 0 (omega arith) decided) refl
    where
      decided : IsUtf8 rest → (Pound, rest) ≡ scanned (past_first b) rest
      decided inner = by_family Hash b rest _ family
          (grind (arith, common_steps, next_byte opens_guarded opens_guarded-small rest inner, past-zero rest inner))

  pub hash_older : IsFirstBy false text record { kind = Pound; len = 1 }
  hash_older =
      by_either (next_is opens_guarded rest)
      (λ opens. pound_by text (prefix_first rest is e small family opens)
      (IsCharBoundary-from_drop text 1 (omega (arith, ap length e)) (rw e (IsUtf8-ascii b rest (rw e at is) small))))
      (hash_alone false)
