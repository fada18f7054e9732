-- Whole documents: the tokens; the head, which is a byte order mark, a shebang line and a frontmatter; and the body,
-- which is the rest.
use Rattle.std.specs.Prelude.{ℕ, suc, ◌+◌, ◌==◌, if◌then◌else◌, slice_index, List, take, drop, Bool, true, false}
use Rattle.std.specs.Prelude.{unwrap_or}
use Rattle.std.specs.Str.{chars}
use Rattle.std.specs.{List.position, Option.option_map_or}
use Rattle.rustc_lexer.specs.{Edition, Token, TokenKind, Frontmatter}
use Rattle.rustc_lexer.specs.Answers.{shebang, tokens_of}
use Rattle.rustc_lexer.specs.LanguageText.{newest, source}
use Rattle.rustc_lexer.specs.Partition.{Layout, bound, tokens_by, tokens_in}

-- Returns the length in bytes of the byte order mark, U+FEFF, at the start of a text, or 0 if there is none.
abbrev pub byte_order_mark_len : List ℕ → ℕ
byte_order_mark_len text = if slice_index (chars text) 0 == 0xFEFF then 3 else 0

-- Returns the offset of the first token of a document. Only a byte order mark and a shebang line come before it.
abbrev pub tokens_start : List ℕ → ℕ
tokens_start text = byte_order_mark_len text + unwrap_or (shebang (drop (byte_order_mark_len text) text)) 0

-- Returns the tokens of a document in an edition.
abbrev pub document_tokens : Edition → List ℕ → List Token
document_tokens edition text = tokens_of (source edition) (drop (tokens_start text) text)

-- ---- head and body

-- Whether the kind is a frontmatter.
abbrev pub is_frontmatter : TokenKind → Bool
is_frontmatter (Frontmatter has_invalid_preceding_whitespace invalid_infostring) = true
is_frontmatter kind = false

-- Returns the number of tokens up to and including the frontmatter, or 0 if there is no frontmatter.
abbrev pub head_count : List Token → ℕ
head_count tokens =
    option_map_or (λ before. suc before) (position (λ token. is_frontmatter token.kind) tokens) 0

-- Returns the tokens of the head: the frontmatter, and the whitespace before it. They are the same in all editions.
abbrev pub head_tokens : List ℕ → List Token
head_tokens text = take (head_count (document_tokens newest text)) (document_tokens newest text)

-- Returns the offset where the body starts, after the tokens of the head.
abbrev pub body_start : List ℕ → ℕ
body_start text =
    tokens_start text + bound (document_tokens newest text)
    (head_count (document_tokens newest text))

-- Returns the layout of a document whose body is lexed with a grammar: a function that returns the first token of each
-- text.
abbrev pub document_by : (List ℕ → Token) → List ℕ → Layout
document_by first text =
    record {
      start = tokens_start text;
      head = head_tokens text;
      body = tokens_by first (drop (body_start text) text);
    }

-- Returns the tokens of a document whose body is lexed with a grammar.
abbrev pub document_tokens_by : (List ℕ → Token) → List ℕ → List Token
document_tokens_by first text = tokens_in (document_by first text)
