use Rattle.std.proofs.Common.{◌+◌, ◌<◌, ◌≤◌, suc, length}
use denote.Text.{Utf8}
use denote.Shadow.{shadow}
use Rattle.rustc_lexer.proofs.lemmas.tokens.BlockCommentLoop.{Commenting}
use Rattle.rustc_lexer.proofs.lexemes.block_comment.past_comment.Given as goal

abbrev pub invariant-comment : goal.invariant-comment
invariant-comment l = shadow (Utf8 l.rest) × Commenting l.body l.rest l.depth × (0 < l.depth)
    × (l.depth + length l.rest ≤ suc (length l.body))

abbrev pub decreases-comment : goal.decreases-comment
decreases-comment l = length l.rest
