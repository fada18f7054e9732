use Rattle.std.proofs.Common.{◌≡◌, ◌<◌, List, ℕ, ◌++◌, length, map, take, drop, subst, true, ◌∙◌, Some}
use Rattle.std.proofs.lemmas.List.{length-map}
use Rattle.rustc_lexer.specs.{declared.relex.change.Change.{Change}, Classes.{IsText}, Relexer.{known}}
use Rattle.rustc_lexer.specs.{Relexer.{IsMadeOf, IsUnderWay, TakesSteps, is_done}}
use Rattle.rustc_lexer.specs.{LanguageCalls.{edition_of_year}, Locality.{Grammar}, Tokens.{tokens_by}}
use Rattle.rustc_lexer_c.specs.{declared.token.CToken.{CToken}, Numbers.{token_numbers}, Relex.{change_of}}
use Rattle.rustc_lexer_c.proofs.RelexLemmas.{none_some, relexed, stands_from}
use Rattle.rustc_lexer_c.proofs.relex.rustc_lexer_relex_unchecked.Goals as goal

pub returns : goal.returns
returns c =
    let text : List ℕ = c.in-Ok.text.now in
    let is : IsText text = rw c.in-Ok.ensures.0 c.in-Ok.ensures.1 in
    let change : Change = change_of c.args.edit.now in
    let lens : List ℕ = map (λ (t : CToken). t.len) c.args.old.now in
    let f = c.fill.ensures in
    let begin = c.in-Some-relex_at.relex in
    let now = c.fill.new.self in
    let some = c.in-Some-relex_at.ensures.some in
    let change_is : begin.change ≡ change = some.2 ∙ c.change_of.ensures in
    let a = f.fills.advances in
    let text_is : now.text ≡ text = a.same_text ∙ some.0 in
    let lens_are : now.lengths ≡ lens = a.same_lengths ∙ some.1 in
    let many : length lens ≡ length c.args.old.now = length-map c.args.old.now _ in
    let Fills : Grammar → List ℕ → List ℕ → Change → Type 0 =
    λ g t ls ch. TakesSteps g.first t ch.new_end begin.at c.fill.result now.at
    × (c.fill.new.buffer ≡ map token_numbers (take c.fill.result (tokens_by g.first (drop begin.at.at t)))
    ++ drop c.fill.result c.args.buffer.now)
    × ((before insert : List ℕ) → IsMadeOf g.first before ls ch insert t → IsUnderWay g.first before ch t begin.at
    → IsUnderWay g.first before ch t now.at
    × (tokens_by g.first (drop begin.at.at t) ≡ drop (known begin.at) (tokens_by g.first t)))
    × (c.fill.result < length c.args.buffer.now → is_done t now.at ≡ true) in
    let begun = subst (λ (g : Grammar). Fills g begin.text begin.lengths begin.change) c.new_in.ensures.grammar
    (a.steps, f.fills.tokens, stands_from a, f.over) in
    let fills = rw (change_is, some.1, some.0) at begun in
    let numbers = rw (text_is, lens_are, many) at c.relexing_numbers.ensures.numbers in
    let may = rw (text_is, lens_are, many) at c.relexing_numbers.ensures.can_continue in
    let passes = rw c.change_of.ensures at some.5 in
    let year_is : edition_of_year c.args.edition ≡ Some c.in-Some.edition = cc in
    let asked = rw c.change_of.ensures at c.in-Some-relex_at.ensures.none.1 in
    rw (← c.in-Ok.ensures.0, numbers)
    (relexed _ _ _ _ _ _ _ _ _ _ f.fills.within fills.0 fills.1 may fills.3 some.3 some.4 passes fills.2 is _ year_is
    (λ not. none_some (asked not)))
