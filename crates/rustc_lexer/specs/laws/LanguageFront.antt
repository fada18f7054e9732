-- Texts and their characters, and the grammar's token at the front of a text.
use Rattle.std.proofs.Common.{◌≡◌, ℕ, ◌<◌, ◌≤◌, List, [], ◌∷◌, ◌++◌, length, take, drop, refl, sym, ap, ◌∙◌, subst}
use Rattle.std.proofs.Common.{arith, take_at, drop_at, take-append-drop, length-append}
use lib.Utf8.{scalars}
use Rattle.std.proofs.Math.Seq.{take-append_seam, drop-append_seam}
use Rattle.std.proofs.lemmas.Str.{chars-append, chars-encodes, encodes-append, encodes-chars, length-le-encodes}
use Rattle.std.proofs.lemmas.Str.{scalars-chars, IsCharBoundary-from_take}
use Rattle.std.specs.Str.{chars, encode_utf8_all, IsCharBoundary, IsUtf8}
use Rattle.std.proofs.lemmas.Grind.{common_steps}
use Rattle.rustc_lexer.specs.{TokenKind}
use Rattle.rustc_lexer.specs.laws.Language.{token-read}
use Rattle.rustc_lexer.specs.laws.Texts.{scalars-take, scalars-drop}
use Rattle.rustc_lexer.specs.Language.{IsTokenBefore}
use Rattle.rustc_lexer.specs.Classes.{bytes, IsText}
use Rattle.rustc_lexer.specs.model.Lexeme.{first_token}

-- ---- texts and characters

pub empty-text : (text : List ℕ) → IsText text → chars text ≡ [] → text ≡ []
empty-text text is e = sym (encodes-chars text is.utf8) ∙ ap encode_utf8_all e

-- Holds if the text consists of the characters w and `next`, in characters and in bytes.
pub record Split (text w next : List ℕ) : Type 0 where
  pub left : drop (bytes w) text ≡ encode_utf8_all next
  pub front : take (bytes w) text ≡ encode_utf8_all w
  pub inside : bytes w ≤ length text
  pub front_utf8 : IsUtf8 (encode_utf8_all w)
  pub some : 0 < length w → 0 < length text
  pub again : chars (encode_utf8_all next) ≡ next
  pub again_front : chars (encode_utf8_all w) ≡ w

pub split : (text w next : List ℕ) → IsText text → chars text ≡ w ++ next → Split text w next
split text w next is e =
    let whole : text ≡ encode_utf8_all w ++ encode_utf8_all next = sym (encodes-chars text is.utf8)
    ∙ (ap encode_utf8_all e ∙ encodes-append w next) in
    record {
      left = ap (drop (bytes w)) whole ∙ drop_at (encode_utf8_all w) (encode_utf8_all next) _ refl;
      front = ap (take (bytes w)) whole ∙ take_at (encode_utf8_all w) (encode_utf8_all next) _ refl;
      again_front = chars-encodes w (ap scalars (sym (take-append_seam w next) ∙ ap (take (length w)) (sym e))
          ∙ scalars-take (length w) (chars text) (scalars-chars text is.utf8));
      inside = omega (arith, ap length whole, length-append (encode_utf8_all w) (encode_utf8_all next));
      front_utf8 = (
        w,
        (
          ap scalars (sym (take-append_seam w next) ∙ ap (take (length w)) (sym e))
              ∙ scalars-take (length w) (chars text) (scalars-chars text is.utf8),
          refl,
        ),
      );
      some = λ lt. omega (
        arith,
        ap length whole,
        length-append (encode_utf8_all w) (encode_utf8_all next),
        length-le-encodes w,
      );
      again = chars-encodes next (ap scalars (sym (drop-append_seam w next) ∙ ap (drop (length w)) (sym e))
          ∙ scalars-drop (length w) (chars text) (scalars-chars text is.utf8));
    }

-- The end of the first part is a char boundary.
pub split-boundary : {text w next : List ℕ} → IsText text → Split text w next → IsCharBoundary text (bytes w)
split-boundary {text} {w} is cut =
    IsCharBoundary-from_take text (bytes w) is.utf8 cut.inside (subst IsUtf8 (sym cut.front) cut.front_utf8)

-- A text that starts with the same bytes starts with the same characters.
pub split-same : {text w next : List ℕ} (other : List ℕ) → Split text w next
    → take (bytes w) text ≡ take (bytes w) other → chars other ≡ w ++ chars (drop (bytes w) other)
split-same {w = w} other cut same =
    grind (
      arith,
      common_steps,
      same,
      cut.front,
      take-append-drop (bytes w) other,
      chars-append,
      (sym same ∙ cut.front),
      cut.again_front,
    )

-- ---- the token at the front

pub first-is : {next : List ℕ} {kind : TokenKind} {c : ℕ} {w : List ℕ} → IsTokenBefore next kind (c ∷ w)
    → (text : List ℕ) → chars text ≡ c ∷ w ++ next → first_token text ≡ record { kind = kind; len = bytes (c ∷ w) }
unfolding first_token
first-is {next} {kind} {c} {w} p text e = grind (arith, common_steps, token-read, take-append_seam)
