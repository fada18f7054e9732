-- The grammar of whole texts: the tokens of a text in an edition, lexed as the source of a file or as a fragment of a
-- file (`part`). `w` and `next` are as in Language.antt, which defines the tokens of the newest edition. Older editions
-- have other tokens instead of guarded strings, raw lifetimes and reserved prefixes. rustc's lexer leaves this
-- difference to its caller (in the Rust Reference, see "2021 Edition differences" and "2024 Edition differences" of
-- these tokens). C strings and `k#` are the same tokens in all editions, although Rust has C strings only since 2021
-- (docs/EDITIONS.md, "What is left to a compiler").
use Rattle.std.specs.Prelude.{◌≡◌, ◌<◌, ◌≤◌, ℕ, true, false, List, ◌∷◌, codes, ◌+◌, Bool, [], ◌++◌, ◌↔◌}
use Rattle.std.specs.Str.{byte}
use Rattle.rustc_lexer.specs.{Edition, FrontmatterAllowed, Token, TokenKind, E2015, E2018, E2021, E2024, Yes, No, Ident}
use Rattle.rustc_lexer.specs.{UnknownPrefix, Lifetime, UnknownPrefixLifetime, Pound, RawLifetime, GuardedStrPrefix}
use Rattle.rustc_lexer.specs.{Whitespace, Frontmatter}
use Rattle.rustc_lexer.specs.Classes.{Chars, begins_ident_after, is_whitespace, next_is, bytes, is_bad_name}
use Rattle.rustc_lexer.specs.FrontmatterGrammar.{IsOpeningBefore, OpensNone, endings, IsBodyBefore}
use Rattle.rustc_lexer.specs.Language.{IsTokenBefore}

-- Returns the year that names an edition.
abbrev pub year : Edition → ℕ
year E2015 = 2015
year E2018 = 2018
year E2021 = 2021
year E2024 = 2024

abbrev pub newest : Edition
newest = E2024

-- Returns the year of the first edition that lexes tokens of this kind as Language.antt defines them. In older editions
-- such a text is split into several tokens or has another kind. A C string, which Rust has since 2021, is the same
-- token in all editions.
abbrev pub lexed_since : TokenKind → ℕ
lexed_since GuardedStrPrefix = 2024
lexed_since RawLifetime = 2021
lexed_since UnknownPrefix = 2021
lexed_since UnknownPrefixLifetime = 2021
lexed_since kind = 2015

-- Holds if w is the text of a token of this kind in the edition when `next` is the text after it.
pub data IsTokenIn (edition : Edition) (next : Chars) : TokenKind → Chars → Type 0 where
  kept : {kind : TokenKind} {w : Chars}
      → lexed_since kind ≤ year edition
      → IsTokenBefore next kind w
      → IsTokenIn edition next kind w
  -- `#` is a token of its own, whatever follows it, such as `"a"`
  pound :
      year edition < lexed_since GuardedStrPrefix
      → IsTokenIn edition next Pound (codes "#")
  -- a prefix in newer editions is an identifier or a lifetime: `z` before `"a"`, `'a` before `#`
  ident : {w : Chars}
      → year edition < lexed_since UnknownPrefix
      → IsTokenBefore next UnknownPrefix w
      → IsTokenIn edition next Ident w
  lifetime : {c : ℕ} {w : Chars}
      → year edition < lexed_since UnknownPrefixLifetime
      → IsTokenBefore next UnknownPrefixLifetime (byte "'" ∷ c ∷ w)
      → IsTokenIn edition next (Lifetime (is_bad_name (c ∷ w))) (byte "'" ∷ c ∷ w)
  -- the first two characters of a raw lifetime in newer editions are a lifetime: `'r` before `#a`
  lifetime_r :
      year edition < lexed_since RawLifetime
      → begins_ident_after (codes "#") next ≡ true
      → IsTokenIn edition next (Lifetime false) (codes "'r")

-- ---- how a text is lexed

-- A text is lexed in an edition, either as source or as a fragment (`part`). Source is a file after its shebang line,
-- and can start with a frontmatter. A fragment is part of a file.
pub data Mode : Type 0 where
  source : Edition → Mode
  part : Edition → Mode

-- Returns the mode for the `FrontmatterAllowed` flag and the edition of a call. A call without an edition uses the
-- newest.
abbrev pub mode_in : FrontmatterAllowed → Edition → Mode
mode_in Yes edition = source edition
mode_in No edition = part edition

-- Returns the edition of a mode.
abbrev pub mode_edition : Mode → Edition
mode_edition (source edition) = edition
mode_edition (part edition) = edition

abbrev pub is_source : Mode → Bool
is_source (source edition) = true
is_source (part edition) = false

-- Returns the mode of the text after a token of this kind. After whitespace, source is still lexed as source. After any
-- other token, the rest is lexed as a fragment.
abbrev pub mode_after : Mode → TokenKind → Mode
mode_after (part edition) kind = part edition
mode_after (source edition) Whitespace = source edition
mode_after (source edition) kind = part edition

-- ---- the tokens of a text

-- Returns the token of a frontmatter with this opening and this body. Its two flags are errors: whitespace before the
-- dashes, and an invalid infostring.
abbrev pub frontmatter_token : Chars → Bool → Chars → Token
frontmatter_token opening bad_label body =
    record {
      kind = Frontmatter (next_is is_whitespace opening) bad_label;
      len = bytes opening + bytes body;
    }

-- Holds if these are the tokens of a text, given as its characters. An empty text has no tokens. If source starts with
-- a frontmatter, this is the first token, and the text after it is lexed as a fragment. Otherwise the first token is a
-- token of the edition, followed by the tokens of the text after it.
pub data AreTokens : Mode → Chars → List Token → Type 0 where
  nothing : {mode : Mode} → AreTokens mode [] []
  something : {mode : Mode} {kind : TokenKind} {c : ℕ} {w next : Chars} {tokens : List Token}
      → IsTokenIn (mode_edition mode) next kind (c ∷ w)
      → (is_source mode ≡ true → OpensNone (c ∷ w ++ next))
      → AreTokens (mode_after mode kind) next tokens
      → AreTokens mode (c ∷ w ++ next) (record { kind = kind; len = bytes (c ∷ w) } ∷ tokens)
  frontmatter_first : {edition : Edition} {n : ℕ} {bad_label : Bool} {opening next : Chars}
      {tokens : List Token} (body : Chars)
      → IsOpeningBefore (body ++ next) n bad_label opening
      → IsBodyBefore next (endings n) body
      → AreTokens (part edition) next tokens
      → AreTokens (source edition) (opening ++ (body ++ next))
      (frontmatter_token opening bad_label body ∷ tokens)

-- Holds if, under the premise, `answer` is allowed and nothing else is.
pub record TheOnly {A : Type 0} (premise : Type 0) (Allows : A → Type 0) : Type 0 where
  pub answer : A
  pub only : premise → (other : A) → Allows other ↔ (other ≡ answer)
