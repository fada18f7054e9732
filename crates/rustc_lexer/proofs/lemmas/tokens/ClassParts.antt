-- The ASCII parts of classes.
use Rattle.std.proofs.Common.{◌≡◌, ℕ, ◌<◌, ◌&&◌, Bool, true, refl, nat_lt, arith}
use Rattle.std.proofs.lemmas.{Bool.{agree_below_at, and_parts, ltb-true, lt-ltb}, Grind.{common_steps}}
use Rattle.unicode_ident.proofs.IdentLemmas.{is_xid_continue-ascii, is_xid_start-ascii}
use Rattle.rustc_lexer.specs.{model.ByteRuns.{is_continue_byte, is_space_byte}, Classes.{is_id_continue, is_whitespace}}
use Rattle.rustc_lexer.proofs.lemmas.tokens.AsciiRuns.{IsPart}

small : (p : ℕ → Bool) (b : ℕ) → (nat_lt b 128 && p b) ≡ true → b < 128
small p b e = ltb-true b 128 (and_parts (nat_lt b 128) (p b) e).0

pub continue_part : IsPart is_continue_byte is_id_continue
continue_part = grind (arith, common_steps, small, lt-ltb, is_xid_continue-ascii)

pub space_part : IsPart is_space_byte is_whitespace
space_part = record {
  small = λ b e. ltb-true b 128 (and_parts _ _ e).0;
  same = λ b l. agree_below_at is_space_byte is_whitespace 128 b refl l;
}

-- ASCII letters can start an identifier.
pub ruleset start_lemmas = (is_xid_start-ascii)
