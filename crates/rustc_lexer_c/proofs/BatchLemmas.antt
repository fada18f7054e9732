-- A batch, from the contract of `fill`.
use Rattle.std.proofs.Common.{◌≡◌, ℕ, ◌+◌, ◌-◌, ◌≤◌, List, length, drop, refl, ap, ◌∙◌, arith, length-drop}
use Rattle.std.proofs.Common.{IsCharBoundary}
use Rattle.std.proofs.lemmas.{Grind.{common_steps}, Str.{IsCharBoundary-from_rest, IsUtf8-drop}}
use Rattle.std.proofs.Math.Nat.{min-le_right}
use Rattle.rustc_lexer.specs.declared.{edition.Edition.{Edition}, token.FrontmatterAllowed.{FrontmatterAllowed}}
use Rattle.rustc_lexer.specs.{Tokens.{bound, tokens_of, tokens_left}, model.Tokens.{IsFilled}}
use Rattle.rustc_lexer.specs.{LanguageText.{Mode, mode_edition, mode_in}, Classes.{IsText}, State.{State}}
use Rattle.rustc_lexer.specs.laws.Tokens.{partitions}
use Rattle.rustc_lexer.proofs.lemmas.tokens.Fill.{past_fill, Leaves}
use Rattle.rustc_lexer_c.specs.declared.{batch.CPlace.{CPlace}, token.CToken.{CToken}}
use Rattle.rustc_lexer_c.specs.Batch.{IsBatch, allowed_of, allowed_number, mode_number, state_at, state_past}
use Rattle.rustc_lexer_c.specs.Numbers.{token_numbers}

allowed_back : (allowed : FrontmatterAllowed) → allowed_of (allowed_number allowed) ≡ allowed
allowed_back allowed = grind (arith, common_steps)

-- The number of a flag equals the number of its mode, in each edition.
number_of-mode : (allowed : FrontmatterAllowed) (edition : Edition)
    → allowed_number allowed ≡ mode_number (mode_in allowed edition)
number_of-mode allowed edition = grind (arith, common_steps)

mode_of-edition : (allowed : FrontmatterAllowed) (edition : Edition) → mode_edition (mode_in allowed edition) ≡ edition
mode_of-edition allowed edition = grind (arith, common_steps)

module _ (edition : Edition) (text : List ℕ) (is : IsText text) (place : CPlace)
    (boundary : IsCharBoundary text place.at) (s t : State) (buffer filled : List CToken) (count : ℕ)
    (begun : s ≡ state_at edition text place)
    (filling : IsFilled token_numbers (tokens_left s) buffer filled count) (past : t ≡ state_past count s) where
  abbrev cut : List ℕ
  cut = drop place.at text

  abbrev mode : Mode
  mode = mode_in (allowed_of place.frontmatter_allowed) edition

  cut_is : IsText cut
  cut_is = record {
    utf8 = IsUtf8-drop text place.at is.utf8 boundary;
    fits = omega (arith, is.fits, length-drop place.at text);
  }

  leaves : Leaves s t (length buffer) count
  leaves = past_fill s t (length buffer) count (rw begun cut_is) (rw begun refl) filling.as_many past

  here : IsFilled token_numbers (tokens_of mode cut) buffer filled count
  here = rw begun at filling

  few : count ≤ length (tokens_of mode cut)
  few = omega (arith, here.as_many, min-le_right (length buffer) (length (tokens_of mode cut)))

  abbrev end : ℕ
  end = bound (tokens_of mode cut) count

  inside : IsCharBoundary cut end
  inside = (partitions cut mode cut_is).boundaries count few

  rest_is : t.rest ≡ drop end cut
  rest_is = rw begun at leaves.rest

  pub left_within : length t.rest ≤ length text
  left_within = omega (arith, ap length rest_is, length-drop end cut, length-drop place.at text)

  place_is : length text - length t.rest ≡ place.at + end
  place_is =
      omega (arith, ap length rest_is, boundary.0, inside.0, length-drop end cut, length-drop place.at text)

  state_is : state_past count (state_at edition text place) ≡ t
  state_is = cc

  same_edition : mode_edition t.mode ≡ edition
  same_edition = (rw begun at leaves.edition) ∙ mode_of-edition (allowed_of place.frontmatter_allowed) edition

  pub batch_is : (place' : CPlace) (allowed : FrontmatterAllowed) → place'.at ≡ length text - length t.rest
      → t.mode ≡ mode_in allowed (mode_edition t.mode) → place'.frontmatter_allowed ≡ allowed_number allowed
      → IsBatch text (state_at edition text place) buffer place' filled count
  batch_is place' allowed at held number =
      grind (
        arith,
        common_steps,
        place_is,
        rest_is,
        same_edition,
        mode_of-edition,
        here,
        IsCharBoundary-from_rest,
        inside,
        state_is,
        number_of-mode,
        allowed_back,
        leaves,
      )
