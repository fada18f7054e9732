-- How far identifiers look ahead.
use Rattle.std.proofs.{Common.{arith}, lemmas.Grind.{common_steps}}
use Rattle.rustc_lexer.specs.model.Ident.{begins_hash_ident}
use Rattle.rustc_lexer.specs.laws.Reach.{IsDecidedBy}

-- The first two characters decide whether the text starts with a hash and an identifier.
pub begins_hash_ident-decided : IsDecidedBy 2 begins_hash_ident
begins_hash_ident-decided w0 = grind (arith, common_steps)
