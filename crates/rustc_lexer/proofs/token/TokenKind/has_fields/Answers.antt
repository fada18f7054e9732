use Rattle.std.proofs.{Common.{◌≡◌, ◌<◌, ◌/◌, ◌^◌, nat_eq, bit_and, arith}, lemmas.Grind.{common_steps}}
use Rattle.rustc_lexer.specs.{TokenKind, declared.token.TheConstants.{WITH_FIELDS}, Kinds.{has_fields, kind_entry}}
use Rattle.rustc_lexer.proofs.token.TokenKind.has_fields.Goals as goal

small : (kind : TokenKind) → (kind_entry kind).0 < 64
unfolding kind_entry
small kind = grind (arith, common_steps)

told : (kind : TokenKind) → nat_eq (bit_and (WITH_FIELDS / 2 ^ (kind_entry kind).0) 1) 1 ≡ has_fields kind
unfolding kind_entry has_fields
told kind = grind (arith, common_steps)

pub overflow_shr-result : goal.overflow_shr-result
overflow_shr-result c = let e = c.number.ensures in let s = small c.args.self in omega (arith, e, s)

pub returns : goal.returns
returns c = rw c.number.ensures (told c.args.self)
