-- The contents of a string have exactly one list of stretches.
use Rattle.std.proofs.Common.{◌≡◌, ℕ, ◌+◌, Bool, List, length, refl, sym, ap, subst, ◌∙◌, arith}
use Rattle.rustc_lexer.specs.Classes.{bytes}
use Rattle.rustc_literal_escaper.specs.Grammar.{AreItems, Item, TheOnly}
use Rattle.rustc_literal_escaper.specs.Meaning.{is_raw}
use Rattle.rustc_literal_escaper.specs.declared.mode.Mode.{Mode}
use Rattle.rustc_literal_escaper.specs.laws.Elements.{items-read, items-some}
use Rattle.rustc_literal_escaper.specs.laws.TheAnswers.{only-read}
use Rattle.rustc_lexer_highlight.specs.Literal.{ArePieces, AreStretches, Piece, Stretch, stretches_at}
use Rattle.rustc_lexer_highlight.specs.Literal as lit
use Rattle.rustc_lexer_highlight.specs.laws.Pieces.{pieces-read, pieces-some}
use Rattle.rustc_lexer_highlight.specs.model.Literal.{stretches_from}

items-same : {raw : Bool} {s : List ℕ} {a b : List Item} → AreItems raw 0 s a → AreItems raw 0 s b → a ≡ b
items-same {s = s} is also = let size : 0 + bytes s ≡ bytes s = omega arith in
    sym (items-read is (bytes s) size) ∙ items-read also (bytes s) size

-- The stretches of pieces are the stretches that the model finds in the items of the same text.
pub stretches-read : {mode : Mode} {raw : Bool} {s : List ℕ} {pieces : List Piece} {items : List Item}
    → ArePieces mode raw s pieces → AreItems raw 0 s items → (from close : ℕ) → from + bytes s ≡ close
    → stretches_from mode from from close items ≡ stretches_at from pieces
stretches-read {mode} {s = s} {pieces} are is from close ends =
    let read = pieces-read mode from close are 0 (omega arith) in
    let here : from + 0 ≡ from = omega arith in
    ap (stretches_from mode from from close) (items-same is read.are)
    ∙ subst (λ (n : ℕ). stretches_from mode from n close read.items ≡ stretches_at n pieces) here read.same

pub stretches-same : {mode : Mode} {begin : ℕ} {s : List ℕ} {a b : List Stretch} → AreStretches mode begin s a
    → AreStretches mode begin s b → a ≡ b
stretches-same {mode} {begin} {s} (lit.made are) (lit.made also) =
    let items = pieces-read mode begin (begin + bytes s) are 0 (omega arith) in
    sym (stretches-read are items.are begin (begin + bytes s) refl)
    ∙ stretches-read also items.are begin (begin + bytes s) refl

pub stretches-some : (mode : Mode) (begin : ℕ) (s : List ℕ) → (stretches : List Stretch)
    × AreStretches mode begin s stretches
stretches-some mode begin s =
    let pieces = (pieces-some mode (items-some (is_raw mode) (length s) s 0 (omega arith)).1).all in
    (stretches_at begin pieces.0, lit.made pieces.1)

abbrev pub the_stretches : (mode : Mode) (begin : ℕ) (s : List ℕ) → TheOnly (Unit {0}) (AreStretches mode begin s)
the_stretches mode begin s =
    let some = stretches-some mode begin s in
    record {
      answer = some.0;
      only = λ always. only-read (AreStretches mode begin s) some.0
          (λ other is. stretches-same some.1 is) some.0 some.1;
    }
