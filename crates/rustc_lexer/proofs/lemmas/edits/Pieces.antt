-- The pieces of a text, one at a time.
use Rattle.std.proofs.Common.{◌≡◌, ℕ, zero, suc, ◌+◌, ◌-◌, ◌≤◌, List, [], ◌∷◌, ◌++◌, length, take, drop, slice_range}
use Rattle.std.proofs.Common.{refl, ap, ◌∙◌, arith, length-append, length-take, length-take-le, length-drop}
use Rattle.std.proofs.Common.{take-take, IsCharBoundary, Option, Some, None, IfSome, IsSome}
use Rattle.std.proofs.lemmas.{Grind.{common_steps}, List.{take-append-le}}
use Rattle.rustc_lexer.specs.{declared.relex.{boundary.TokenStart.TokenStart, pieces.Piece.Piece}, Token, Tokens.{bound}}
use Rattle.rustc_lexer.specs.model.Pieces.{AreBoundariesFrom, AreCut}
use Rattle.rustc_lexer.specs.LexedText.{PieceModel, YieldsPiece, pieces_from, piece_model}
use Rattle.rustc_lexer.specs.Offsets.{ContainsByte}
use Rattle.rustc_lexer.proofs.lemmas.edits.{Bounds.{bound-end}, FrontAndBack.{bound-same, bound-take}}
use Rattle.rustc_lexer.proofs.lemmas.edits.KeptFront.{bound-shift}

-- The remaining tokens start and end at char boundaries.
pub cut_edges : (text : List ℕ) (start end : ℕ) (tokens : List Token) → AreCut text start end tokens
    → IsCharBoundary text start × IsCharBoundary text end
cut_edges text start end tokens are =
    let first : start + 0 ≡ start = omega arith in
    (rw first at (are.1 0 (omega arith)), rw are.2 (are.1 (length tokens) (omega arith)))

-- The tokens after the first one cut the rest of the range.
pub cut_tail : (text : List ℕ) (start end : ℕ) (all : List Token) (token : Token) (tokens : List Token)
    → all ≡ token ∷ tokens → AreCut text start end all → AreCut text (start + token.len) end tokens
cut_tail text start end all token tokens e are =
    let all = rw e at are in
    let same : (k : ℕ) → start + (token.len + bound tokens k) ≡ start + token.len + bound tokens k = λ k. omega arith in
    (all.0, λ k few. rw (← same k) (all.1 (suc k) (omega arith)), all.2 ∙ same (length tokens))

-- The tokens before the last one cut the range before it.
pub cut_front : (text : List ℕ) (start end : ℕ) (all tokens : List Token) (token : Token) → all ≡ tokens ++ token ∷ []
    → AreCut text start end all → (token.len ≤ end) × AreCut text start (end - token.len) tokens
cut_front text start end all tokens token e are =
    let all = rw e at are in
    let ends : end ≡ start + bound tokens (length tokens) + token.len = omega (arith, all.2, bound-end tokens token) in
    let cuts : (k : ℕ) → k ≤ length tokens → IsCharBoundary text (start + bound tokens k) =
    λ k few. rw (← bound-same k (tokens ++ token ∷ []) tokens (take-append-le k tokens (token ∷ []) few))
    (all.1 k (omega (arith, length-append tokens (token ∷ [])))) in
    (omega arith, (all.0, cuts, omega arith))

-- ---- the pieces of a range of tokens

pub length-pieces : (text : List ℕ) (start : ℕ) (ts : List Token) → length (pieces_from text start ts) ≡ length ts
length-pieces text start [] = refl
length-pieces text start (t ∷ ts) = ap suc (length-pieces text (start + t.len) ts)

-- As many pieces as tokens remain.
pub as_many_left : (text : List ℕ) (start : ℕ) (tokens : List Token) {left : List PieceModel}
    → pieces_from text start tokens ≡ left → length tokens ≡ length left
as_many_left text start tokens is = cc (length-pieces text start tokens)

-- The tokens between two boundaries extend from the first boundary to the second.
pub bound-part : (tokens items : List Token) (from to offset : ℕ) → from ≤ to → to ≤ length tokens
    → items ≡ slice_range tokens from to → offset ≡ bound tokens from
    → offset + bound items (length items) ≡ bound tokens to
bound-part tokens items from to offset le inside is at =
    let all : from + (to - from) ≡ to = omega arith in
    let enough : to - from ≤ length (drop from tokens) = omega (arith, length-drop from tokens) in
    let long = length-take-le (to - from) (drop from tokens) enough in
    cc (bound-take (to - from) (drop from tokens), bound-shift tokens from (to - from))

-- A range of the tokens cuts the part of the text between its boundaries.
pub cut_part : (text : List ℕ) (start end offset stop : ℕ) (tokens : List Token) (from to : ℕ) → from ≤ to
    → to ≤ length tokens → offset ≡ start + bound tokens from → stop ≡ start + bound tokens to
    → AreCut text start end tokens → AreCut text offset stop (take (to - from) (drop from tokens))
cut_part text start end offset stop tokens from to le few at until are =
    let part = bound-part tokens (take (to - from) (drop from tokens)) from to (bound tokens from) le few refl refl in
    (are.0, cuts, omega arith)
  where
    cuts : AreBoundariesFrom text offset (take (to - from) (drop from tokens))
    cuts k less =
        let n : ℕ = to - from in
        let within : k ≤ n = omega (arith, length-take n (drop from tokens)) in
        let short = bound-same k (take n (drop from tokens)) (drop from tokens) (take-take k n _ within) in
        let same : offset + bound (take n (drop from tokens)) k ≡ start + bound tokens (from + k) =
        omega (arith, bound-shift tokens from k) in
        rw same (are.1 (from + k) (omega arith))

pub drop-pieces : (text : List ℕ) (start k : ℕ) (ts : List Token) → drop k (pieces_from text start ts) ≡
    pieces_from text (start + bound ts k) (drop k ts)
drop-pieces text start zero ts = let e : start ≡ start + 0 = omega arith in cc
drop-pieces text start (suc k) [] = refl
drop-pieces text start (suc k) (t ∷ ts) = let e : start + t.len + bound ts k ≡ start + (t.len + bound ts k) =
    omega arith in cc (drop-pieces text (start + t.len) k ts)

pub take-pieces : (text : List ℕ) (start k : ℕ) (ts : List Token) → take k (pieces_from text start ts) ≡
    pieces_from text start (take k ts)
take-pieces text start zero ts = refl
take-pieces text start (suc k) [] = refl
take-pieces text start (suc k) (t ∷ ts) = cc (take-pieces text (start + t.len) k ts)

pub pieces-part : (text : List ℕ) (start offset : ℕ) (tokens : List Token) (from n : ℕ)
    → offset ≡ start + bound tokens from
    → pieces_from text offset (take n (drop from tokens)) ≡ take n (drop from (pieces_from text start tokens))
pieces-part text start offset tokens from n at = grind (arith, common_steps, drop-pieces, take-pieces)

-- Returns the piece with this start and length.
abbrev piece_at : List ℕ → Token → ℕ → ℕ → PieceModel
piece_at text token start long = record { start = start; token = token; text = take long (drop start text) }

pieces-last : (text : List ℕ) (start : ℕ) (ts : List Token) (t : Token) → pieces_from text start (ts ++ t ∷ []) ≡
    pieces_from text start ts ++ piece_at text t (start + bound ts (length ts)) t.len ∷ []
pieces-last text start [] t = let e : start ≡ start + 0 = omega arith in cc
pieces-last text start (u ∷ ts) t = grind (arith, common_steps, pieces-last text (start + u.len) ts t)

pub last_piece : (text : List ℕ) (start end : ℕ) (all tokens : List Token) (t : Token) → all ≡ tokens ++ t ∷ []
    → AreCut text start end all
    → pieces_from text start all ≡ pieces_from text start tokens ++ piece_at text t (end - t.len)
    (end - (end - t.len)) ∷ []
last_piece text start end all tokens t e are =
    let front = cut_front text start end all tokens t e are in
    let long : t.len ≡ end - (end - t.len) = omega (arith, front.0) in
    cc (front.1.2, pieces-last text start tokens t)

-- The first piece from this token on contains the byte.
pub piece_is : (piece : Option Piece) (text : List ℕ) (first offset : ℕ) (tokens : List Token) (at : TokenStart)
    (rest : List PieceModel)
    → ContainsByte first tokens offset at
    → YieldsPiece (pieces_from text at.offset (take (length tokens - at.index) (drop at.index tokens))) piece rest
    → IfSome piece (λ piece. (at : TokenStart) × ContainsByte first tokens offset at
    × (take 1 (drop at.index (pieces_from text first tokens)) ≡ piece_model piece ∷ []))
piece_is None text first offset tokens at rest is yields = tt
piece_is (Some piece) text first offset tokens at rest is yields =
    let n : ℕ = length tokens - at.index in
    let left : List PieceModel = drop at.index (pieces_from text first tokens) in
    let begin : take n left ≡ piece_model piece ∷ rest =
    cc (pieces-part text first at.offset tokens at.index n is.start, yields.0) in
    (at, is, cc (take-take 1 n left (omega arith), ap (take 1) begin))

pub piece_some : (piece : Option Piece) (text : List ℕ) (first offset : ℕ) (tokens : List Token) (at : TokenStart)
    (rest : List PieceModel)
    → ContainsByte first tokens offset at
    → YieldsPiece (pieces_from text at.offset (take (length tokens - at.index) (drop at.index tokens))) piece rest
    → IsSome piece
piece_some piece text first offset tokens at rest w7 w8 =
    grind (arith, common_steps, length-take-le, length-drop, length-pieces)
