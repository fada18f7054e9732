use Rattle.rustc_lexer.proofs.lemmas.tokens.Identifiers.{hash_ident-none, hash_ident-by, past-hash_ident}
use Rattle.rustc_lexer.proofs.lexemes.ident.eat_hash_ident.Goals as goal

pub returns-in_err-first : goal.returns-in_err-first
returns-in_err-first c =
    rw c.from_residual-in_err-first.ensures
    (hash_ident-none _ _ c.utf8.tail c.in_ok-strip.ensures.1 c.in_ok-strip.ensures.0 c.in_err-first.ensures)

pub returns-then-not-is_id_start : goal.returns-then-not-is_id_start
returns-then-not-is_id_start c =
    hash_ident-by _ _ c.utf8.tail c.in_ok-strip.ensures.1 c.in_ok-strip.ensures.0 _ _ _ c.in_ok-first.ensures.0
    c.if-not-is_id_start.ensures

pub returns : goal.returns
returns c = (
  hash_ident-by _ _ c.utf8.tail c.in_ok-strip.ensures.1 c.in_ok-strip.ensures.0 _ _ _ c.in_ok-first.ensures.0
      c.if-not-is_id_start.ensures,
  past-hash_ident _ _ c.utf8.tail c.in_ok-strip.ensures.1 c.in_ok-strip.ensures.0 _ _ c.in_ok-first.ensures.1
      (c.eat_continue.ensures.past),
)
