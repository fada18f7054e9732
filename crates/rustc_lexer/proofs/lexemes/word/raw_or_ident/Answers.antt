use Rattle.std.proofs.{lemmas.Grind.{common_steps}, Common.{arith, rules}}
use Rattle.std.proofs.Common.{◌≡◌, ◌∙◌, Bool, true, List, ℕ, sym, codes}
use Rattle.std.specs.Str.{chars, IsUtf8}
use Rattle.rustc_lexer.specs.model.{Ident.{ident_or_unknown_prefix}, Lexeme.{opens_raw, begins_raw}, Raw.{raw_literal}}
use Rattle.rustc_lexer.specs.{model.Scan.{after, begins, next_is, past}, laws.Past.{chars-past}}
use Rattle.rustc_lexer.specs.laws.Scan.{scanned-after, scanned-yes, scanned-no}
use Rattle.rustc_lexer.proofs.lexemes.word.raw_or_ident.Goals as goal

-- An `r` before a hash or a quote starts a raw string.
raw-is : (tail rest : List ℕ) (b : Bool) → IsUtf8 tail → begins (codes "r") (chars tail) ≡ true → rest ≡ past 1 tail
    → b ≡ next_is opens_raw (chars rest) → begins_raw (chars tail) ≡ b
raw-is tail rest b is r e f = rw (r, f, e, chars-past 1 tail is)

pub returns-then-begins_raw : goal.returns-then-begins_raw
returns-then-begins_raw c =
    let opens : begins_raw (chars c.args.tail.now) ≡ true =
    raw-is _ _ true c.utf8.tail c.in-Some.ensures.0 c.in-Some.ensures.1 c.if-begins_raw.ensures in
    c.raw_literal.ensures
    ∙ sym (scanned-yes begins_raw (after 1 (raw_literal c.args.prefix)) ident_or_unknown_prefix _ opens
    ∙ scanned-after 1 (raw_literal c.args.prefix) _ _ c.utf8.tail c.in-Some.ensures.1)

pub returns-else-begins_raw : goal.returns-else-begins_raw
returns-else-begins_raw c = grind (arith, common_steps, rules, raw-is, scanned-no)
