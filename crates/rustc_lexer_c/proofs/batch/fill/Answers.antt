use Rattle.std.proofs.Common.{◌≡◌, ◌-◌, ℕ, List, length, ap, arith}
use Rattle.rustc_lexer.specs.declared.{edition.Edition.{Edition}, token.FrontmatterAllowed.{FrontmatterAllowed}}
use Rattle.rustc_lexer.specs.{LanguageText.{mode_in}, Classes.{IsText}, State.{State}, laws.State.{state}}
use Rattle.rustc_lexer_c.specs.Batch.{state_at}
use Rattle.rustc_lexer_c.proofs.BatchLemmas.{batch_is, left_within}
use Rattle.rustc_lexer_c.proofs.batch.fill.Goals as goal

begun : (edition : Edition) (rest cut : List ℕ) (allowed given : FrontmatterAllowed) (s : State)
    → s ≡ record { pending = 0; rest = rest; mode = mode_in allowed edition } → rest ≡ cut → allowed ≡ given
    → s ≡ record { pending = 0; rest = cut; mode = mode_in given edition }
begun edition rest cut allowed given s e f g =
    rw (← f, ← g) e

pub returns : goal.returns
returns c =
    let text : List ℕ = c.args.text.now in
    let is : IsText text = record { utf8 = c.utf8.text; fits = c.requires.fits } in
    let from : c.tokenize_as-tokens.result ≡ state_at c.args.edition text c.args.place.now =
    begun _ _ _ _ _ _ c.tokenize_as-tokens.ensures.state c.range_from.ensures.value c.allowed_of-allowed.ensures in
    batch_is _ _ is _ c.requires.boundary _ _ _ _ _ from
    (record { as_many = c.fill-count.ensures.count; tokens = c.fill-count.ensures.tokens }) c.fill-count.ensures.state _
    c.frontmatter_allowed.result
    (ap (λ (xs : List ℕ). length text - length xs) c.as_str.ensures.rest) c.frontmatter_allowed.ensures
    c.allowed_number.ensures

pub overflow_sub-place : goal.overflow_sub-place
overflow_sub-place c =
    let text : List ℕ = c.args.text.now in
    let is : IsText text = record { utf8 = c.utf8.text; fits = c.requires.fits } in
    let from : c.tokenize_as-tokens.result ≡ state_at c.args.edition text c.args.place.now =
    begun _ _ _ _ _ _ c.tokenize_as-tokens.ensures.state c.range_from.ensures.value c.allowed_of-allowed.ensures in
    omega (
      arith,
      ap length c.as_str.ensures.rest,
      left_within _ _ is _ c.requires.boundary _ _ _ _ _ from
          (record { as_many = c.fill-count.ensures.count; tokens = c.fill-count.ensures.tokens })
          c.fill-count.ensures.state,
    )
