-- The last line of a text, and runs of bytes.
use Rattle.std.proofs.Common.{◌≡◌, ℕ, ◌+◌, ◌-◌, suc, Bool, true, false, List, [], ◌∷◌, refl, drop, length, not, sym}
use Rattle.std.proofs.Common.{take, ap, arith, Some, None}
use Rattle.std.specs.{List.{list_any}, Str.{byte}}
use Rattle.std.proofs.lemmas.{Bool.{false_from_ne_true}, List.Elements.{All-from_get_or}}
use Rattle.std.proofs.lemmas.List.Folds.{list_any_none}
use Rattle.std.proofs.lemmas.List.Sums.{prefix_len-drop_all, prefix_len-drop_no, prefix_len-drop_yes}
use Rattle.std.proofs.lemmas.Grind.{common_steps}
use Rattle.memchr.specs.Find.{IsLastByte, is_byte}
use Rattle.rustc_lexer_errors.specs.declared.errors.TokenError.TheVariants.{UnclosedFrontmatter}
use Rattle.rustc_literal_escaper.specs.Grammar.{is_newline}
use Rattle.rustc_lexer_errors.specs.TextError.{dashes}
use Rattle.rustc_lexer_errors.specs.laws.Frontmatter.{last-line, skip_ends, skip_on}
use Rattle.rustc_lexer_errors.specs.model.Frontmatter.{closing_error, end_error, past_run}

module _ (bytes text : List ℕ) (same : bytes ≡ text) where
  pub ends_found : (n : ℕ) → IsLastByte (is_byte (byte "\n")) bytes (Some n)
      → closing_error (dashes bytes) (take (length bytes - (n + 1)) (drop (n + 1) bytes)) ≡ end_error text
  ends_found n last =
      let whole : take (length bytes - (n + 1)) (drop (n + 1) bytes) ≡ drop (n + 1) bytes =
      grind (arith, common_steps) in
      let past = last-line bytes n last in
      sym (rw (← same, past.0, past.1, whole) refl)

  pub ends_none : IsLastByte (is_byte (byte "\n")) bytes None → Some UnclosedFrontmatter ≡ end_error text
  ends_none none =
      let none_is : list_any is_newline bytes ≡ false =
      list_any_none is_newline bytes
      (All-from_get_or (λ x. is_newline x ≡ false) bytes 0
      (λ k less. false_from_ne_true _ (none k (omega arith) less))) in
      rw (← same, none_is) refl

pub ruleset run_lemmas = (prefix_len-drop_yes, prefix_len-drop_no, prefix_len-drop_all, common_steps)

pub skip_all : (p : ℕ → Bool) (s : List ℕ) → s ≡ [] → past_run p s ≡ s
skip_all p s none = rw none refl
