use Rattle.std.proofs.Common.{subst, sym}
use Rattle.rustc_lexer.specs.model.Checkpoints.{IsReplaced}
use Rattle.rustc_lexer.proofs.lemmas.edits.Checkpoints.{kept_stays}
use Rattle.rustc_lexer.proofs.relex.replacement.Replacement.checkpoints.Goals as goal

pub returns-then-at-le-BUFFER_LEN : goal.returns-then-at-le-BUFFER_LEN
returns-then-at-le-BUFFER_LEN c =
    λ old new replaced are lexed. c.remember.ensures new
    (c.after-moved.ensures old new
    (subst (IsReplaced old new c.args.self.now.at.front c.args.self.now.at.back) (sym c.end_of.ensures) replaced) are)
    (kept_stays old new _ _ _ replaced)

pub returns-then-at-eq0 : goal.returns-then-at-eq0
returns-then-at-eq0 c =
    λ old new replaced are lexed. c.joined-all.ensures new
    (c.after-moved.ensures old new
    (subst (IsReplaced old new c.args.self.now.at.front c.args.self.now.at.back) (sym c.end_of.ensures) replaced) are)
    lexed

pub returns : goal.returns
returns c = λ old new replaced are lexed. c.remember-2.ensures new
    (c.joined-all.ensures new
    (c.after-moved.ensures old new
    (subst (IsReplaced old new c.args.self.now.at.front c.args.self.now.at.back) (sym c.end_of.ensures) replaced) are)
    lexed) (kept_stays old new _ _ _ replaced)
