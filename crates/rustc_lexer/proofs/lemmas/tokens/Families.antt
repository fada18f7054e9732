-- The family of a character: from the table for ASCII, and from the classes for other characters.
use Rattle.std.proofs.Common.{◌≡◌, ℕ, ◌<◌, ◌≤◌, ◌==◌, not, true, false, List, [], ◌∷◌, get_or, refl, sym}
use Rattle.std.proofs.Common.{◌∙◌, arith}
use Rattle.std.proofs.lemmas.{Bool.{ne_eqb}, List.FromFn.{get_or-map-range_with_len}}
use Rattle.unicode_ident.specs.Ident.{is_xid_start}
use Rattle.unicode_ident.proofs.Computing.{unicode_ident}
use Rattle.rustc_lexer.specs.declared.lexemes.family.{TheConstants.{FAMILIES}, Family.{Family}}
use Rattle.rustc_lexer.specs.{declared.lexemes.family.Family.TheVariants.{Slash, Word}, TokenKind}
use Rattle.rustc_lexer.specs.{Classes.{is_id_start, is_whitespace}, Tables.{is_emoji}, laws.Choice.{by_either}}
use Rattle.rustc_lexer.specs.{laws.LanguageRuns.{among}, model.Lexeme.{family_of, past_first, read_by}}
use Rattle.rustc_lexer.specs.{model.Scan.{scanned}, laws.Scan.{scanned-same}}

-- The family of the first character decides how the text is read.
pub by_family : (f : Family) (c : ℕ) (tail : List ℕ) (read : TokenKind × List ℕ) → f ≡ family_of c
    → read ≡ scanned (read_by f c) tail → read ≡ scanned (past_first c) tail
unfolding past_first
by_family f c tail read g e = e ∙ sym (scanned-same (past_first c) (read_by f c) tail (rw g refl))

-- ---- the table of families

pub table : (c : ℕ) → c < 128 → get_or FAMILIES.now c Slash ≡ family_of c
unfolding is_emoji unicode_ident
table c small = get_or-map-range_with_len family_of 0 128 c c Slash small (omega arith)

-- ---- outside ASCII

-- No word starts with whitespace.
no_start : (d : ℕ) → is_whitespace d ≡ true → not (is_xid_start d) ≡ true
unfolding unicode_ident
no_start d e = among (λ x. not (is_xid_start x))
    (0x9 ∷ 0xA ∷ 0xB ∷ 0xC ∷ 0xD ∷ 0x20 ∷ 0x85 ∷ 0x200E ∷ 0x200F ∷ 0x2028 ∷ 0x2029 ∷ []) refl d e

no_space : (c : ℕ) → is_xid_start c ≡ true → is_whitespace c ≡ false
no_space c e = by_either (is_whitespace c)
    (λ f. absurd (cc (no_start c f)))
    (λ f. f)

module _ (c : ℕ) (wide : 128 ≤ c) where
  other : (n : ℕ) → n < 128 → (c == n) ≡ false
  other n l = ne_eqb c n (omega arith)

  begins : is_id_start c ≡ is_xid_start c
  begins = rw (other 95 (omega arith)) refl

  pub wide_word : is_xid_start c ≡ true → Word ≡ family_of c
  wide_word e = rw (other 47 (omega arith), no_space c e, begins ∙ e) refl
