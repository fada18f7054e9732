-- Lemmas about the words that describe a job.
use Rattle.std.proofs.Common.{◌≡◌, ◌↔◌, true≢false, ℕ, ◌<◌, ◌≤◌, ◌≢◌, Bool, true, false, List, [], ◌∷◌, ◌++◌, length}
use Rattle.std.proofs.Common.{get_or, append_assoc, rules, refl, sym, ap, ◌∙◌, arith, Option, Some, None, Result}
use Rattle.std.proofs.lemmas.Grind.{common_steps}
use Rattle.std.specs.{Bool.{IsTrue}, Prelude.{is_some, IsSome}, Option.{option_map, option_zip}, Result.{result_ok}}
use Rattle.std.specs.Str.{all_ascii_digits, Parse.{ParsesUnsigned}}
use Rattle.std.proofs.lemmas.{List.{length-map}, Bool.Decides.{nat_tests}}
use Rattle.std.proofs.lemmas.Str.Parse.{IsNumeralModel, numerals_by_fold, tells_all_ascii_digits, parse_plain}
use Rattle.rustc_lexer.specs.declared.edition.Edition.{Edition}
use Rattle.lexdump_run.specs.Job.{edit, edit_job, AsksEdits, Replacement, number_after, number_of, place_of}
use Rattle.lexdump_run.specs.Job.{replacements_of, first_replacement}

numbers : IsNumeralModel (λ ds. all_ascii_digits ds ≡ true) number_of
numbers = numerals_by_fold _ tells_all_ascii_digits number_after (search rules)

-- For words without a plus sign and with at most ten characters, `parse` returns the offset that `place_of` defines.
pub place-parse : {E : Type 0} (word : List ℕ) (r : Result ℕ E) → length word ≤ 10 → get_or word 0 0 ≢ 43
    → ParsesUnsigned 32 10 word r → place_of word ≡ result_ok r
unfolding place_of
place-parse {E} word r short unsigned parses = grind (arith, common_steps, parse_plain, numbers, nat_tests)

-- Holds if the first three words describe the edit, and `after` is the list of the words after them.
abbrev pub FirstIs : List (List ℕ) → Replacement → List (List ℕ) → Type 0
FirstIs words e after = let p : Option (Replacement × List (List ℕ)) = Some (e, after) in p ≡ first_replacement words

abbrev Pair : Type 0
Pair = Replacement × List (List ℕ)

-- If the optional edit is `e`, the list of edits is `e`, followed by the edits of the remaining words.
by_first : (e : Replacement) (words after : List (List ℕ)) (o : Option Replacement) (r : Option (List Replacement))
    → (let p : Option Pair = Some (e, after) in
    p ≡ option_map (λ (edit : Replacement). let q : Pair = (edit, words) in q) o)
    → (after ≡ words)
    × (option_map (λ (edits : Replacement × List Replacement). edits.0 ∷ edits.1) (option_zip o r) ≡
    option_map (λ edits. e ∷ edits) r)
by_first e words after o r h = grind (arith, common_steps)

-- If the first three words describe an edit, it is the first of the edits.
pub replacements-first : (e : Replacement) (words after : List (List ℕ)) → FirstIs words e after
    → replacements_of words ≡ option_map (λ edits. e ∷ edits) (replacements_of after)
replacements-first e words after h = grind (arith, common_steps, by_first)

pub length-after : (e : Replacement) (words after : List (List ℕ)) → FirstIs words e after → length after < length words
length-after e words after h = grind (arith, common_steps, by_first)

-- The words describe edits exactly if the words after the first edit do.
pub some-after : (e : Replacement) (words after : List (List ℕ)) → FirstIs words e after
    → is_some (replacements_of words) ≡ is_some (replacements_of after)
some-after e words after h = grind (arith, common_steps, replacements-first)

-- Holds if the edits of all words are the edits that were read, followed by the edits of the remaining words.
abbrev pub ReadBefore : List (List ℕ) → List Replacement → List (List ℕ) → Type 0
ReadBefore words edits rest = replacements_of words ≡ option_map (λ more. edits ++ more) (replacements_of rest)

pub read_more : (words rest after : List (List ℕ)) (edits : List Replacement) (e : Replacement)
    → ReadBefore words edits rest → FirstIs rest e after → ReadBefore words (edits ++ e ∷ []) after
read_more words rest after edits e read first =
    read ∙ (ap (option_map (λ more. edits ++ more)) (replacements-first e rest after first)
    ∙ by_edits (replacements_of after))
  where
    by_edits : (r : Option (List Replacement)) → option_map (λ more. edits ++ more) (option_map (λ more. e ∷ more) r) ≡
        option_map (λ more. (edits ++ e ∷ []) ++ more) r
    by_edits None = refl
    by_edits (Some es) = ap (λ (xs : List Replacement). let r : Option (List Replacement) = Some xs in
        r) (sym (append_assoc edits (e ∷ []) es))

-- Words that do not describe edits describe no job after `edit`.
pub no_edits : (edition : Edition) (words : List (List ℕ)) (n : ℕ) (are : Bool) → length words ≡ n
    → (IsTrue are ↔ ((0 < n) × IsSome (replacements_of words))) → are ≡ false → edit_job edition words ≡ None
no_edits edition [] n are e is shut = refl
no_edits edition (start ∷ words) n are e is shut = by_edits (replacements_of (start ∷ words)) refl
  where
    by_edits : (r : Option (List Replacement)) → replacements_of (start ∷ words) ≡ r → option_map (edit edition) r ≡
        None
    by_edits None f = refl
    by_edits (Some es) f = let is_so : are ≡ true = is.1 (omega (arith, e), ap is_some f) in
        absurd (true≢false (sym is_so ∙ shut))

-- Words that describe edits describe a job with edits after `edit`.
pub asks_edits : (edition : Edition) (words : List (List ℕ)) (n : ℕ) (are : Bool) → length words ≡ n
    → (IsTrue are ↔ ((0 < n) × IsSome (replacements_of words))) → are ≡ true → AsksEdits (edit_job edition words)
asks_edits edition [] n are e is so = let p = is.0 so in absurd (omega (arith, e, p.0))
asks_edits edition (start ∷ words) n are e is so = by_edits (replacements_of (start ∷ words)) (is.0 so).1
  where
    by_edits : (r : Option (List Replacement)) → is_some r ≡ true → AsksEdits (option_map (edit edition) r)
    by_edits None f = absurd (true≢false (sym f))
    by_edits (Some es) f = tt

pub ruleset job_lemmas = (length-after, length-map, place-parse, common_steps)
