-- The grammar of Rust's tokens, as rustc's lexer defines them: the texts that are tokens of each kind, and what can
-- follow them. There is one rule for each form, and no rule describes how a text is lexed. docs/LEXEMES.md explains the
-- rules in prose.
--
-- Names in capitals are productions of the Rust Reference for Rust 1.95, except SHEBANG, which is from 1.97. A rule
-- accepts every text of the productions that its comment names. A character that only has to follow a token (a newline,
-- or the quote or hash after a prefix) is in `next`. The grammar accepts more than the Reference. Unterminated and
-- empty forms, and words with emoji, are tokens too, so that a compiler can report them. The contents of comments and
-- quotes are not checked (escapes, carriage returns, the length of a character literal). If such a form has its own
-- rule, the rule is marked "not in the Reference".
--
-- Notation. `w` is the text of a token, and `next` is all of the text after it. Both are lists of characters (type
-- `Chars`), and `next` is [] at the end of the text. The offset of a suffix is in bytes. NUL is an ordinary character.
-- `P → ⊥` is the negation of P. No rule negates the relation that it defines, so each relation is the smallest that
-- satisfies its rules. The fields of a kind are in the order of src/token.rt: LineComment doc_style, BlockComment
-- doc_style terminated, Lifetime starts_with_number, Literal kind suffix_start, Frontmatter
-- has_invalid_preceding_whitespace invalid_infostring.
use Rattle.std.specs.Prelude.{◌≡◌, ℕ, ◌||◌, Bool, true, false, List, [], ◌∷◌, ◌++◌, take, codes, Option, Some, None}
use Rattle.std.specs.{Char.is_ascii_digit, List.list_any, Str.byte}
use Rattle.rustc_lexer.specs.{DocStyle, LiteralKind, TokenKind, Outer, Inner, Whitespace, Eof, LineComment}
use Rattle.rustc_lexer.specs.{BlockComment, Ident, InvalidIdent, RawIdent, ForcedKeywordIdent, Lifetime, UnknownPrefix}
use Rattle.rustc_lexer.specs.{RawLifetime, UnknownPrefixLifetime, Literal, GuardedStrPrefix, Slash, Pound}
use Rattle.rustc_lexer.specs.Classes.{is_among, is_whitespace, is_id_continue, is_ident, Chars, begins, AreAll, NextIs}
use Rattle.rustc_lexer.specs.Classes.{NextIsNot, NextIn, NextNotIn, bytes, is_inline, is_word_start, is_word_continue}
use Rattle.rustc_lexer.specs.Classes.{is_name_start, is_bad_name, ends_prefix, begins_ident_after}
use Rattle.rustc_lexer.specs.LiteralGrammar.{IsLiteralBefore, IsSuffixBefore}
use Rattle.rustc_lexer.specs.Tables.{symbol_kind}

-- ---- comments

-- Holds if a comment has this doc style, where w is the text after `//` or `/*`. The style is Inner if w starts with
-- `!` (INNER_LINE_DOC, INNER_BLOCK_DOC). It is Outer if w starts with one more `/` or `*` (`again`) that is not
-- followed by a character of `undocs` (OUTER_LINE_DOC, OUTER_BLOCK_DOC). Otherwise it is None: `////`, `/***` and
-- `/**/` do not start doc comments.
pub data IsStyle (again : ℕ) (undocs : Chars) : Option DocStyle → Chars → Type 0 where
  inner : {w : Chars} → IsStyle again undocs (Some Inner) (byte "!" ∷ w)
  outer : {w : Chars} → NextNotIn undocs w → IsStyle again undocs (Some Outer) (again ∷ w)
  no_outer : {w : Chars} → NextIn undocs w → IsStyle again undocs None (again ∷ w)
  neither : {w : Chars} → NextNotIn (again ∷ codes "!") w → IsStyle again undocs None w

-- Holds if the text is the rest of a block comment (BLOCK_COMMENT_OR_DOC) after `/*`: nested comments and other
-- characters, and then the closing `*/`.
pub data IsCommentRest : Chars → Type 0 where
  closing : IsCommentRest (codes "*/")
  nested : {v w : Chars}
      → IsCommentRest v
      → IsCommentRest w
      → IsCommentRest (codes "/*" ++ v ++ w)
  other : {c : ℕ} {w : Chars}
      → begins (codes "*/") (c ∷ w) ≡ false
      → begins (codes "/*") (c ∷ w) ≡ false
      → IsCommentRest w
      → IsCommentRest (c ∷ w)

-- ---- words

-- Lists the known prefixes, each with the quote or hash after it. Literals and raw identifiers start with them, so the
-- productions RESERVED_TOKEN_POUND, RESERVED_TOKEN_DOUBLE_QUOTE and RESERVED_TOKEN_SINGLE_QUOTE exclude them.
abbrev pub known_prefixes : List Chars
known_prefixes =
    codes "r\"" ∷ codes "r#" ∷ codes "b'" ∷ codes "b\"" ∷ codes "br\"" ∷ codes "br#"
    ∷ codes "c\"" ∷ codes "cr\"" ∷ codes "cr#" ∷ []

-- Whether the text starts with a known prefix, or with `k#` and the start of an identifier, which is not in the
-- Reference.
abbrev pub begins_prefixed : Chars → Bool
begins_prefixed s =
    list_any (λ prefix. begins prefix s) known_prefixes || begins_ident_after (codes "k#") s

-- Whether tokens that start with this character have a rule other than `symbol`.
abbrev pub has_rule : ℕ → Bool
has_rule c = is_whitespace c || is_name_start c || is_among (codes "/'\"#") c

-- ---- tokens

-- Holds if w is the text of a token of this kind when `next` is the text after it.
pub data IsTokenBefore (next : Chars) : TokenKind → Chars → Type 0 where
  -- EOF
  end : next ≡ [] → IsTokenBefore next Eof []
  -- WHITESPACE, up to the first character that is not whitespace
  whitespace : {c : ℕ} {w : Chars}
      → AreAll is_whitespace (c ∷ w)
      → NextIsNot is_whitespace next
      → IsTokenBefore next Whitespace (c ∷ w)
  -- LINE_COMMENT, OUTER_LINE_DOC, INNER_LINE_DOC: `// a`, `/// a`, `//! a`, without the newline
  line_comment : {style : Option DocStyle} {w : Chars}
      → AreAll is_inline w
      → NextIsNot is_inline next
      → IsStyle (byte "/") (codes "/") style w
      → IsTokenBefore next (LineComment style) (codes "//" ++ w)
  -- BLOCK_COMMENT, OUTER_BLOCK_DOC, INNER_BLOCK_DOC: `/* a /* b */ c */`
  block_comment : {style : Option DocStyle} {w : Chars}
      → IsCommentRest w
      → IsStyle (byte "*") (codes "*/") style w
      → IsTokenBefore next (BlockComment style true) (codes "/*" ++ w)
  -- not in the Reference: an unterminated block comment, which extends to the end of the text: `/* /* */`
  open_comment : {style : Option DocStyle} {w : Chars}
      → next ≡ []
      → ((n : ℕ) → IsCommentRest (take n w) → ⊥)
      → IsStyle (byte "*") (codes "*/") style w
      → IsTokenBefore next (BlockComment style false) (codes "/*" ++ w)
  -- IDENTIFIER_OR_KEYWORD: `value`, `fn`, `_`; not `value` before a quote
  ident : {w : Chars}
      → is_ident w ≡ true
      → NextIsNot is_word_continue next
      → NextIsNot ends_prefix next
      → IsTokenBefore next Ident w
  -- RESERVED_TOKEN_POUND, RESERVED_TOKEN_DOUBLE_QUOTE, RESERVED_TOKEN_SINGLE_QUOTE, without the quote or hash: `z`
  -- before `"a"`, `k` before `#1`; not `b` before `"a"`, nor `k` before `#fn`
  unknown_prefix : {w : Chars}
      → is_ident w ≡ true
      → NextIs ends_prefix next
      → begins_prefixed (w ++ next) ≡ false
      → IsTokenBefore next UnknownPrefix w
  -- not in the Reference: a word that is not an identifier because of an emoji: `a😀`, `😀a`; not `ℹ`, which can start an
  -- identifier
  invalid_ident : {c : ℕ} {w : Chars}
      → is_word_start c ≡ true
      → AreAll is_word_continue w
      → is_ident (c ∷ w) ≡ false
      → NextIsNot is_word_continue next
      → IsTokenBefore next InvalidIdent (c ∷ w)
  -- RAW_IDENTIFIER, RESERVED_RAW_IDENTIFIER: `r#fn`, `r#self`
  raw_ident : {w : Chars}
      → is_ident w ≡ true
      → NextIsNot is_id_continue next
      → IsTokenBefore next RawIdent (codes "r#" ++ w)
  -- `k#fn`. In the Reference this is two tokens, RESERVED_TOKEN_POUND and `fn`
  forced_keyword : {w : Chars}
      → is_ident w ≡ true
      → NextIsNot is_id_continue next
      → IsTokenBefore next ForcedKeywordIdent (codes "k#" ++ w)
  -- LIFETIME_TOKEN that is not raw: `'a`; not `'a'`, nor `'a` before a hash. Not in the Reference: `'1`, also before a
  -- hash
  lifetime : {c : ℕ} {w : Chars}
      → is_name_start c ≡ true
      → AreAll is_word_continue w
      → NextIsNot is_word_continue next
      → NextNotIn (codes "'") next
      → (NextIn (codes "#") next → is_ascii_digit c ≡ true)
      → IsTokenBefore next (Lifetime (is_bad_name (c ∷ w))) (byte "'" ∷ c ∷ w)
  -- RESERVED_TOKEN_LIFETIME without its hash: `'a` before `#`; not `'r` before `#a`. Not in the Reference: `'r` before
  -- `#1`
  unknown_prefix_lifetime : {c : ℕ} {w : Chars}
      → is_word_start c ≡ true
      → AreAll is_word_continue w
      → NextIn (codes "#") next
      → begins_ident_after (codes "r#") (c ∷ w ++ next) ≡ false
      → IsTokenBefore next UnknownPrefixLifetime (byte "'" ∷ c ∷ w)
  -- RAW_LIFETIME, RESERVED_RAW_LIFETIME: `'r#a`. Not in the Reference: the same before a quote
  raw_lifetime : {w : Chars}
      → is_ident w ≡ true
      → NextIsNot is_id_continue next
      → IsTokenBefore next RawLifetime (codes "'r#" ++ w)
  -- a literal (see LiteralGrammar.antt) that cannot have a suffix. Its suffix_start is the end of the token: `'ab'`, or
  -- `"a` at the end of the text
  literal : {kind : LiteralKind} {w : Chars}
      → IsLiteralBefore next kind false w
      → IsTokenBefore next (Literal kind (bytes w)) w
  -- any other literal, with or without a SUFFIX: `1u8`, `"a"`, `"a"s`
  literal_with : {kind : LiteralKind} {w suffix : Chars}
      → IsLiteralBefore (suffix ++ next) kind true w
      → IsSuffixBefore next suffix
      → IsTokenBefore next (Literal kind (bytes w)) (w ++ suffix)
  -- PUNCTUATION
  slash : NextNotIn (codes "/*") next → IsTokenBefore next Slash (codes "/")
  pound : NextNotIn (codes "\"#") next → IsTokenBefore next Pound (codes "#")
  -- the first two characters of RESERVED_GUARDED_STRING_LITERAL and RESERVED_POUNDS: `#"`, `##`
  guarded_prefix : {c : ℕ} → is_among (codes "\"#") c ≡ true
      → IsTokenBefore next GuardedStrPrefix (byte "#" ∷ c ∷ [])
  -- PUNCTUATION, one character at a time: `+`, `;`. Not in the Reference: any other character, such as `\`, is Unknown
  symbol : {c : ℕ} → has_rule c ≡ false → IsTokenBefore next (symbol_kind c) (c ∷ [])
