use Rattle.std.proofs.{Common.{arith, subst, string_bytes, chars, List, ℕ}, lemmas.Grind.{common_steps}}
use Rattle.std.proofs.lemmas.Str.{IsUtf8-string_bytes}
use Rattle.rustc_lexer.specs.{Answers.{first_in, tokens_of}, Joined.{AreWellFormed, AreInseparable, Joined, RunsOn}}
use Rattle.rustc_lexer.specs.{LanguageText.{part}, model.Joined.{IsFinalBoundary}}
use Rattle.rustc_lexer.proofs.lemmas.joined.{FinalBoundary.{grown, joined-only, settled_joined}, Separators.{runs-on}}
use Rattle.rustc_lexer.proofs.relex.joined.JoinedText.push.Goals as goal

pub returns-then-not-append_separated-clause-closed : goal.returns-then-not-append_separated-clause-closed
returns-then-not-append_separated-clause-closed c =
    let apart : AreInseparable c.self.inside.edition (string_bytes c.self.inside.text) c.args.piece.now =
    subst (λ (text : List ℕ). AreInseparable c.self.inside.edition text c.args.piece.now) c.reserve.ensures.bytes
    (c.append_separated.ensures.apart c.if-not-append_separated.true) in
    λ e. subst (λ (j : Joined). AreWellFormed (tokens_of (part j.edition) j.text)
    → RunsOn (tokens_of (part j.edition) j.text) (chars c.args.piece.now)) c.self.view_is
    (λ closed. runs-on c.self.inside.edition (string_bytes c.self.inside.text) c.args.piece.now c.self.invariant.0
    c.utf8.piece (omega arith) closed apart)

pub settled_later-self-inside-requires : goal.settled_later-self-inside-requires
settled_later-self-inside-requires c =
    let joined = rw c.reserve.ensures.bytes at (c.append_separated.ensures.joined c.if-not-append_separated.false) in
    let g = grown c.self.inside.edition c.self.inside.settled joined c.self.invariant.0 c.self.invariant.1 (omega arith)
    (IsUtf8-string_bytes c.append_separated.new.text) in
    let value = c.as_str-text.ensures.value in
    record {
      fits = rw value g.0.fits;
      settled = c.settled_joined-settled.ensures _ (rw value g.1)
          (settled_joined c.self.inside.edition joined c.self.invariant.0 value (omega arith));
    }

pub invariant_of-self-2 : goal.invariant_of-self-2
invariant_of-self-2 c =
    let g = grown c.self.inside.edition c.self.inside.settled (rw c.reserve.ensures.bytes at
    (c.append_separated.ensures.joined c.if-not-append_separated.false)) c.self.invariant.0 c.self.invariant.1
    (omega arith)
    (IsUtf8-string_bytes c.append_separated.new.text) in (
      g.0,
      subst (λ (xs : List ℕ). IsFinalBoundary (first_in c.self.inside.edition) xs c.settled_later-self-inside.result)
          c.as_str-text.ensures.value
          c.settled_later-self-inside.ensures,
    )

pub returns-clause-only : goal.returns-clause-only
returns-clause-only c = grind (arith, common_steps, joined-only)
