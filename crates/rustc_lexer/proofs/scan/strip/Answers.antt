use Rattle.std.proofs.{lemmas.Grind.{common_steps}, Common.{rules, sym, arith, ◌∙◌}}
use Rattle.memchr.specs.Find.{is_byte}
use Rattle.rustc_lexer.proofs.lemmas.tokens.{AsciiRuns.{front_small}, ByteSearch.{begins_small, byte_small}}
use Rattle.rustc_lexer.proofs.scan.strip.Goals as goal

pub range_from-requires : goal.range_from-requires
range_from-requires c =
    λ some. (front_small (is_byte c.args.byte) (λ b. byte_small c.args.byte b c.requires.ascii) c.args.rest.now
    c.utf8.rest (sym (begins_small c.args.byte c.args.rest.now c.requires.ascii c.utf8.rest)
    ∙ sym c.if-begins_with.ensures)).0

pub returns-then-begins_with : goal.returns-then-begins_with
returns-then-begins_with c = grind (arith, common_steps, rules, front_small, byte_small, begins_small)
