use Rattle.std.proofs.{Common.{arith, ◌++◌}, lemmas.{Grind.{common_steps}, Str.{IsCharBoundary-at_seam, IsUtf8-append}}}
use Rattle.rustc_lexer.proofs.relex.joined.append.Goals as goal

pub separates-separated-requires-clause-boundary : goal.separates-separated-requires-clause-boundary
separates-separated-requires-clause-boundary c =
    IsCharBoundary-at_seam _ c.as_str-at.result.now (c.args.separator.now ++ c.args.piece.now)
    (grind (arith, common_steps)) (IsUtf8-append _ _ c.utf8.separator c.utf8.piece)

pub separates-separated-requires-clause-end : goal.separates-separated-requires-clause-end
separates-separated-requires-clause-end c =
    IsCharBoundary-at_seam _ c.args.separator.now c.args.piece.now (grind (arith, common_steps)) c.utf8.piece

pub truncate-requires : goal.truncate-requires
truncate-requires c =
    let here = IsCharBoundary-at_seam _ c.as_str-at.result.now (c.args.separator.now ++ c.args.piece.now)
    (rw c.as_str-at.ensures.value c.append_both.ensures.text) (IsUtf8-append _ _ c.utf8.separator c.utf8.piece) in
    λ le. (here.0, λ some. here.1)
