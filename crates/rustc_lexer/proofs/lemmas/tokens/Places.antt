-- The offset of an iterator in its text, for callers.
use Rattle.std.proofs.Common.{◌≡◌, ℕ, ◌+◌, ◌-◌, ◌∙◌, List, length, take, drop, drop-drop, length-drop, ap}
use Rattle.std.proofs.Common.{IsCharBoundary, arith}
use Rattle.std.proofs.lemmas.{Str.{IsCharBoundary-from_rest}, Grind.{common_steps}}
use Rattle.rustc_lexer.specs.{Token, Document.{tokens_start}, laws.State.{StandsAt}, State.{State}, Tokens.{TakesToken}}

-- After a token, the offset is the end of the token.
pub stands_past : (text : List ℕ) (offset : ℕ) (s t : State) (token : Token) → StandsAt text offset s
    → TakesToken s token t → StandsAt text (offset + token.len) t
stands_past text offset s t token at takes = grind (arith, common_steps, IsCharBoundary-from_rest, drop-drop)

-- The slice from `start` to the end of the token is at the front of the remaining text.
pub piece_is : (text rest piece : List ℕ) (start n : ℕ) → piece ≡ take (start + n - start) (drop start text)
    → drop start text ≡ rest → piece ≡ take n rest
piece_is text rest piece start n e left = grind (arith, common_steps)

-- The length of the remaining text gives the offset of the first token of a document, before any token is read.
pub document_start : (text rest : List ℕ) (s : State) → IsCharBoundary text (tokens_start text) → rest ≡ s.rest
    → s.rest ≡ drop (tokens_start text) text → length text - length rest ≡ tokens_start text
document_start text rest s boundary left is =
    omega (arith, boundary.0, ap length (left ∙ is), length-drop (tokens_start text) text)

pub document_offset : (text rest : List ℕ) (s : State) → IsCharBoundary text (tokens_start text) → rest ≡ s.rest
    → s.rest ≡ drop (tokens_start text) text → StandsAt text (length text - length rest) s
document_offset text rest s boundary left is = grind (arith, common_steps, document_start)
