-- The shown pieces of a lexed text, and how an edit changes them.
use Rattle.std.specs.Prelude.{ℕ, ◌+◌, ◌-◌, List, [], ◌∷◌, ◌++◌, codes, length, map, take, drop}
use Rattle.rustc_lexer.specs.declared.token.TokenKind.{TokenKind}
use Rattle.rustc_lexer.specs.declared.token.TokenKind.TheVariants.{LineComment, BlockComment, Literal, Lifetime}
use Rattle.rustc_lexer.specs.declared.token.TokenKind.TheVariants.{RawLifetime, UnknownPrefixLifetime, Unknown}
use Rattle.rustc_lexer.specs.declared.relex.counts.Relexed.{Relexed}
use Rattle.rustc_lexer.specs.LexedText.{PieceModel}

-- The changed pieces of a new text are the pieces that were lexed.
abbrev pub changed : Relexed → List PieceModel → List PieceModel
changed relexed pieces = take relexed.lexed (drop relexed.kept_front pieces)

-- A piece after an edit moves by as many bytes as the text grew or shrank.
abbrev pub moved : ℕ → ℕ → PieceModel → PieceModel
moved added removed piece =
    record { start = piece.start + added - removed; token = piece.token; text = piece.text }

-- After an edit, the shown pieces are the pieces kept at the front, then the painted ones, then the pieces kept at the
-- back, moved by as many bytes as the text grew or shrank.
abbrev pub shown_after : Relexed → ℕ → ℕ → List PieceModel → List PieceModel → List PieceModel
shown_after relexed added removed shown painted =
    take relexed.kept_front shown
    ++ (painted ++ map (moved added removed) (drop (length shown - relexed.kept_back) shown))

-- This escape sequence before a token sets the terminal style of its kind; it is empty if the kind has no style.
abbrev pub open_style : TokenKind → List ℕ
open_style (LineComment doc_style) = 27 ∷ codes "[2m"
open_style (BlockComment doc_style terminated) = 27 ∷ codes "[2m"
open_style (Literal kind suffix_start) = 27 ∷ codes "[32m"
open_style (Lifetime starts_with_number) = 27 ∷ codes "[35m"
open_style RawLifetime = 27 ∷ codes "[35m"
open_style UnknownPrefixLifetime = 27 ∷ codes "[35m"
open_style Unknown = 27 ∷ codes "[31m"
open_style kind = []

-- If an escape sequence set a style, this one after the token resets it.
abbrev pub close_after : List ℕ → List ℕ
close_after [] = []
close_after (b ∷ bs) = 27 ∷ codes "[0m"

abbrev pub close_style : TokenKind → List ℕ
close_style kind = close_after (open_style kind)

-- Pieces are written one after another, each in the style of its kind.
abbrev pub styled : List PieceModel → List ℕ
styled [] = []
styled (piece ∷ pieces) =
    open_style piece.token.kind ++ (piece.text ++ (close_style piece.token.kind ++ styled pieces))
