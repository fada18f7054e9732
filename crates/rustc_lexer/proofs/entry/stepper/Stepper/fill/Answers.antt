use Rattle.std.proofs.Common.{◌≡◌, ◌<◌, List, ℕ, length, drop, ap, ◌∙◌, arith}
use Rattle.rustc_lexer.specs.{Token, Classes.{IsText}, Tokens.{tokens_by}}
use Rattle.rustc_lexer.proofs.lemmas.tokens.Buffers.{begun_more, one_written, stands, next_token, next_offset}
use Rattle.rustc_lexer.proofs.lemmas.tokens.Progress.{same_first, stepped}
use Rattle.rustc_lexer.proofs.entry.stepper.Stepper.fill.Goals as goal

pub range_from-requires : goal.range_from-requires
range_from-requires g c =
    λ some. (stands (g.Self.Stepper.law c.args.self.now) c.args.text.now record
    { utf8 = c.utf8.text; fits = c.requires.fits } c.places.written c.places.at c.places.invariant.offset).boundary

pub places-preserved : goal.places-preserved
places-preserved g c =
    let law = g.Self.Stepper.law c.args.self.now in
    let first : List ℕ → Token = (g.Self.Stepper.grammar c.args.self.now).first in
    let text : List ℕ = c.args.text.now in
    let is : IsText text = record { utf8 = c.utf8.text; fits = c.requires.fits } in
    let inv = c.places.invariant in
    let more : c.places.at < length text = omega arith in
    let buffer : c.places.written < length c.places.buffer = omega arith in
    let token : c.step-token.result ≡ first (drop c.places.at text) =
    stepped text c.places.at c.step-token.ensures.token (same_first inv.grammar) c.range_from.ensures.value in
    record {
      written = one_written g.R.FromToken.written (tokens_by first text) _ c.args.buffer.now c.places.buffer
          c.places.written (first (drop c.places.at text)) inv.written
          (next_token law text is c.places.written c.places.at inv.offset more) buffer c.from_token.result
          (c.from_token.ensures ∙ ap g.R.FromToken.written token);
      begun = begun_more (tokens_by first text) c.places.written c.places.at c.args.end inv.offset
          (omega arith) inv.begun;
      offset = rw token (next_offset law text is c.places.written c.places.at inv.offset more);
      count = omega (arith, c.step-token.ensures.count, inv.count);
      grammar = c.step-token.ensures.grammar ∙ inv.grammar;
    }
