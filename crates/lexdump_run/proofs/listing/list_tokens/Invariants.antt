use Rattle.std.proofs.Common.{◌-◌, ◌≤◌, length}
use Rattle.rustc_lexer.specs.{LanguageText.{mode_in}, Tokens.{tokens_of, tokens_left}}
use Rattle.lexdump_run.specs.Listing.{listing, listing_from}
use Rattle.lexdump_run.proofs.PushLemmas.{Pushing}
use Rattle.lexdump_run.proofs.listing.list_tokens.Given as goal

abbrev pub invariant-left : goal.invariant-left
invariant-left g l = record {
  within : length l.tokens.rest ≤ length l.text;
  lines : Pushing g.W.Write.contents l.fn.lines l.lines
      (listing (tokens_of (mode_in l.fn.frontmatter_allowed l.fn.edition) l.text))
      (listing_from (length l.text - length l.tokens.rest) (tokens_left l.tokens));
}

abbrev pub decreases-left : goal.decreases-left
decreases-left g l = length l.tokens.rest
