-- The tokens of an edition, if they differ from the newest edition.
use Rattle.std.proofs.Common.{◌≡◌, ◌≢◌, ◌<◌, ℕ, suc, Bool, true, false, List, [], ◌∷◌, length, ◌⊎◌, refl, codes, ap}
use Rattle.std.proofs.Common.{◌∙◌, IsCharBoundary, arith}
use Rattle.rustc_lexer.specs.{Edition, Token, TokenKind, E2015, E2018, E2021, E2024, Pound, GuardedStrPrefix}
use Rattle.rustc_lexer.specs.{RawLifetime, UnknownPrefix, UnknownPrefixLifetime}
use Rattle.rustc_lexer.specs.laws.{Edition.{edition_grammar}, Language.{lexeme-sound}, LanguageIn.{unhashed}}
use Rattle.rustc_lexer.specs.{declared.lexemes.family.Family.TheVariants.{Hash}, Tables.{is_emoji}}
use Rattle.unicode_ident.proofs.Computing.{unicode_ident}
use Rattle.rustc_lexer.specs.model.Lexeme.{family_of, first_token, lexeme, past_first}
use Rattle.rustc_lexer.specs.model.{Quick.{BeginsWithNoHash, IsFirstBy, IsFirstToken}, Scan.{bytes_of}}
use Rattle.rustc_lexer.specs.{model.Edition.{token, before_2024, changed, first_token_in}, Classes.{IsText}}
use Rattle.std.proofs.lemmas.Grind.{common_steps}
use Rattle.std.specs.Fmt.{decimal, digits}

-- The years have these decimal digits.
pub year_words : (decimal 2015 ≡ codes "2015") × (decimal 2018 ≡ codes "2018") × (decimal 2021 ≡ codes "2021")
    × (decimal 2024 ≡ codes "2024")
unfolding digits
year_words = (refl, refl, refl, refl)

-- Whether an older edition can have another token instead of one of this kind.
abbrev pub is_newer : TokenKind → Bool
is_newer GuardedStrPrefix = true
is_newer RawLifetime = true
is_newer UnknownPrefix = true
is_newer UnknownPrefixLifetime = true
is_newer kind = false

pub older : (edition : Edition) (cs : List ℕ) (t : Token) → is_newer t.kind ≡ false → changed edition cs t ≡ t
older edition cs t old = grind (arith, common_steps)

-- The first token of a text in an edition ends at a char boundary.
pub boundary-of : (edition : Edition) (text : List ℕ) (token : Token) → IsText text → 0 < length text
    → token ≡ first_token_in edition text → IsCharBoundary text token.len
boundary-of edition text token is some e =
    grind (arith, common_steps, e, (edition_grammar edition).boundary text is some)

-- ---- tokens that the newest edition shares with another edition

hash_family : family_of 35 ≡ Hash
unfolding is_emoji unicode_ident
hash_family = refl

kept_first : (cs : List ℕ) → ((first : ℕ) (s : List ℕ) → cs ≡ first ∷ s → family_of first ≢ Hash)
    → before_2024 (lexeme cs).0 (bytes_of (lexeme cs).1 cs) ≡ token (lexeme cs).0 (bytes_of (lexeme cs).1 cs)
kept_first [] none = refl
kept_first (c ∷ s) none =
    unhashed (lexeme-sound (c ∷ s)) (λ e. none c s refl (ap family_of e ∙ hash_family))
    (bytes_of (suc (past_first c s).1) (c ∷ s))

-- A text that does not start with a hash has the same first token in 2021 and 2024.
pub first_newer : (edition : Edition) (text : List ℕ) → BeginsWithNoHash text → (edition ≡ E2024) ⊎ (edition ≡ E2021)
    → first_token text ≡ first_token_in edition text
unfolding first_token
first_newer edition text w2 w3 = grind (arith, common_steps, kept_first)

-- The two oldest editions have the same tokens.
pub first_oldest : (edition : Edition) (text : List ℕ) → (edition ≡ E2018) ⊎ (edition ≡ E2015)
    → first_token_in E2018 text ≡ first_token_in edition text
first_oldest edition text w2 = grind (arith, common_steps)

-- A token whose kind is in all editions is the first token in each of them.
pub first_by : (guards : Bool) (text : List ℕ) (t : Token) → IsFirstToken text t → is_newer t.kind ≡ false
    → IsFirstBy guards text t
first_by guards text t is old = grind (arith, common_steps, older)

-- A hash before a quote or a hash is a token of two bytes in an edition that reserves it.
pub guard_by : (text : List ℕ) → IsFirstToken text record { kind = GuardedStrPrefix; len = 2 }
    → IsFirstBy true text record { kind = GuardedStrPrefix; len = 2 }
guard_by text is =
    record { token = λ edition e. rw e is.token; inside = is.inside; boundary = is.boundary; suffix = is.suffix }

pub pound_by : (text : List ℕ) → IsFirstToken text record { kind = GuardedStrPrefix; len = 2 } → IsCharBoundary text 1
    → IsFirstBy false text record { kind = Pound; len = 1 }
pound_by text is bound = grind (arith, common_steps)
