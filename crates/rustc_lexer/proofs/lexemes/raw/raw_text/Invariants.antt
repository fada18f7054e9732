use Rattle.std.proofs.Common.{length}
use denote.Text.{Utf8}
use denote.Shadow.{shadow}
use Rattle.rustc_lexer.proofs.lemmas.tokens.Raw.{Searching}
use Rattle.rustc_lexer.proofs.lexemes.raw.raw_text.Given as goal

abbrev pub invariant-loop-tail : goal.invariant-loop-tail
invariant-loop-tail l = shadow (Utf8 l.rest)
    × Searching l.n_hashes l.before l.text l.rest l.found l.possible_terminator_offset

abbrev pub decreases-loop-tail : goal.decreases-loop-tail
decreases-loop-tail l = length l.rest
