-- How each answer of the grammar is computed, and that it is the only one.
use Rattle.std.proofs.Common.{◌≡◌, ◌↔◌, ℕ, zero-add, ◌+◌, Bool, List, length, Result, refl, sym, ap, subst, ◌∙◌, arith}
use Rattle.std.specs.Str.{chars, IsUtf8}
use Rattle.std.proofs.lemmas.Str.{encodes-chars}
use Rattle.rustc_literal_escaper.specs.declared.element.Element.{Element}
use Rattle.rustc_literal_escaper.specs.declared.error.EscapeError.{EscapeError}
use Rattle.rustc_literal_escaper.specs.Grammar.{AreItems, IsSingle, TheOnly, bytes}
use Rattle.rustc_literal_escaper.specs.laws.Elements.{items-read, items-some}
use Rattle.rustc_literal_escaper.specs.laws.Single.{single-read, single-some}
use Rattle.rustc_literal_escaper.specs.model.Elements.{front_by, items_from}
use Rattle.rustc_literal_escaper.specs.model.Single.{read_single}

-- If something is allowed, and every allowed value equals the answer, then exactly the answer is allowed.
pub only-read : {A : Type 0} (Allows : A → Type 0) (answer : A) → ((other : A) → Allows other → answer ≡ other)
    → (some : A) → Allows some → (other : A) → Allows other ↔ (other ≡ answer)
only-read Allows answer reads some is other =
    (λ are. sym (reads other are), λ e. subst Allows (sym (e ∙ reads some is)) is)

abbrev pub the_single : {U : Type 0} (meaning : Element → Result U EscapeError) (s : List ℕ)
    → TheOnly (Unit {0}) (IsSingle meaning s)
the_single meaning s = record {
  answer = read_single (bytes s) meaning s;
  only = λ always. only-read (IsSingle meaning s) _ (λ other is. single-read meaning is) (single-some meaning s).0
      (single-some meaning s).1;
}

abbrev pub the_items : (raw : Bool) (text : List ℕ) → TheOnly (IsUtf8 text) (AreItems raw 0 (chars text))
the_items raw text = record {
  answer = items_from (front_by raw) (length text) (chars text);
  only = λ is.
      let ends : 0 + bytes (chars text) ≡ length text = zero-add (bytes (chars text))
      ∙ ap length (encodes-chars text is) in
      let some = items-some raw (length (chars text)) (chars text) 0 (omega arith) in
      only-read (AreItems raw 0 (chars text)) _ (λ other are. items-read are (length text) ends) some.0 some.1;
}

-- The grammar allows the answer.
pub items-are : (raw : Bool) (text : List ℕ) → IsUtf8 text → AreItems raw 0 (chars text) (the_items raw text).answer
items-are raw text is = ((the_items raw text).only is (the_items raw text).answer).1 refl
