use Rattle.std.proofs.Common.{arith, refl, sym, ◌∙◌}
use Rattle.std.proofs.lemmas.Str.{IsUtf8-drop}
use Rattle.rustc_lexer.proofs.lemmas.tokens.Tokens.{goes, none_left, takes_next}
use Rattle.rustc_lexer.proofs.lemmas.tokens.Classified.{left_is, still, takes_left, takes_classified}
use Rattle.rustc_lexer.proofs.entry.TokensIterator.next.Goals as goal

pub returns-in-Some : goal.returns-in-Some
returns-in-Some c =
    let taken = takes_classified _ _ c.self.inside.text.now c.args.self.now _ _ c.self.view_is c.self.invariant
    c.in-Some.token c.in-Some.ensures in
    record { steps = taken; goes = goes _ _ _ taken }

pub returns-then-self-clause-steps : goal.returns-then-self-clause-steps
returns-then-self-clause-steps c = let same =
    still _ _ c.self.inside.text.now c.args.self.now _ _ c.self.view_is c.in_default.ensures in
    (none_left _ c.self.inside.text.now c.take.new.self.at c.args.self.now same (omega arith), same)

pub quick_token-requires-clause-utf8 : goal.quick_token-requires-clause-utf8
quick_token-requires-clause-utf8 c =
    rw (left_is _ _ c.take.new.self.at c.as_bytes.ensures.value) (IsUtf8-drop c.self.inside.text.now c.take.new.self.at
    (rw c.as_bytes.ensures.value at c.as_bytes.ensures.utf8) c.in_default.ensures.tells.bound)

pub choose_in-chosen-requires-clause-no_hash : goal.choose_in-chosen-requires-clause-no_hash
choose_in-chosen-requires-clause-no_hash c =
    let rest = left_is c.self.inside.text.now c.as_bytes.result.now c.take.new.self.at c.as_bytes.ensures.value
    ∙ sym c.as_str.ensures.rest in
    rw rest at c.in_default-quick_token.ensures

pub returns-then-not-matches : goal.returns-then-not-matches
returns-then-not-matches c =
    let taken = takes_left _ _ c.self.inside.text.now c.args.self.now _ _ c.self.view_is c.in_default.ensures _ _
    c.classify_next.new.self.at
    c.in-Some-quick_token.quick c.as_bytes.ensures.utf8 c.as_bytes.ensures.value
    (left_is _ _ _ c.as_bytes.ensures.value) (omega arith) c.in-No.is
    (c.in-Some-quick_token.ensures.token c.self.inside.edition (sym c.reserves_guards.ensures))
    c.classify_next.ensures.at in
    record { steps = taken; goes = goes _ _ _ taken }

pub returns-else-not-matches : goal.returns-else-not-matches
returns-else-not-matches c =
    let taken = takes_left _ _ c.self.inside.text.now c.args.self.now _ _ c.self.view_is c.in_default.ensures _ _ _
    c.in-Some-quick_token.quick
    c.as_bytes.ensures.utf8 c.as_bytes.ensures.value (left_is _ _ _ c.as_bytes.ensures.value) (omega arith) c.in-No.is
    (c.in-Some-quick_token.ensures.token c.self.inside.edition (sym c.reserves_guards.ensures)) refl in
    record { steps = taken; goes = goes _ _ _ taken }

pub returns-in-No : goal.returns-in-No
returns-in-No c =
    let taken = takes_left _ _ c.self.inside.text.now c.args.self.now _ _ c.self.view_is c.in_default.ensures _ _ _
    c.choose_in-chosen.result
    c.as_bytes.ensures.utf8 c.as_bytes.ensures.value c.as_str.ensures.rest
    (omega arith) c.in-No.is c.choose_in-chosen.ensures.token refl in
    record { steps = taken; goes = goes _ _ _ taken }

pub returns : goal.returns
returns c =
    let taken = takes_next _ c.self.inside.text.now c.take.new.self.at c.args.self.now
    (still _ _ _ _ _ _ c.self.view_is c.in_default.ensures) _ _ c.token_at-token.result
    record {
      utf8 = rw c.as_bytes.ensures.value at c.as_bytes.ensures.utf8;
      fits = c.in_default.ensures.tells.fits;
    }
    c.in_default.ensures.tells.bound (omega arith)
    (rw c.as_str-2.ensures.rest at c.token_at-token.ensures.token) refl
    (c.next_allowed-self-inside.ensures c.self.inside.edition) in
    record { steps = taken; goes = goes _ _ _ taken }
