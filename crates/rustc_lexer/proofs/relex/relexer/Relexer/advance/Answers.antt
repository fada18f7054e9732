use Rattle.std.proofs.Common.{refl, subst, List, ℕ, ◌+◌, map, IsCharBoundary}
use Rattle.rustc_lexer.specs.{Relexer.{Advances, RelexerModel}, model.Relexer.{IsNext}}
use Rattle.rustc_lexer.proofs.lemmas.edits.ManyTokens.{advanced}
use Rattle.rustc_lexer.proofs.relex.relexer.Relexer.advance.Goals as goal

pub returns : goal.returns
returns g c first end law =
    let r = c.self.inside in
    let to = c.follow-to.result in
    let f = c.follow-to.ensures in
    let lengths : List ℕ = map g.T.TextLen.bytes r.old_tokens.now in
    let new : RelexerModel = record {
      text = r.text.now;
      lengths = lengths;
      change = r.change;
      at = record {
        front = r.at.front;
        lexed = r.at.lexed + c.args.count;
        back = to.at;
        at = r.at.at + c.args.bytes;
        met = to.met;
      };
    } in
    subst (λ (old : RelexerModel). IsCharBoundary old.text (old.at.at + c.args.bytes)
    → IsNext first old c.args.count c.args.bytes end → Advances first old c.args.count new) c.self.view_is
    (λ inside next. advanced law (record new { at = r.at }) _ _ end to c.self.invariant.0 c.self.invariant.2.boundary
    inside c.requires.few next _ refl f.stays f.early f.followed) c.requires.boundary
