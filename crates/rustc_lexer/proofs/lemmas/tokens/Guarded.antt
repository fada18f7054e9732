-- Guarded strings: the part of a text that is read.
use Rattle.std.proofs.Common.{◌≡◌, ℕ, suc, ◌+◌, ◌-◌, Bool, true, false, if◌then◌else◌, List, [], ◌∷◌, length, drop, sym}
use Rattle.std.proofs.Common.{ap, ◌∙◌, arith, Option, Some, None}
use Rattle.std.specs.Str.{chars, IsUtf8, IsCharBoundary}
use Rattle.std.proofs.lemmas.{Str.{IsCharBoundary-from_drop}, Grind.{common_steps}}
use Rattle.rustc_lexer.specs.{model.Guarded.{guarded_body, string_past, guarded_by, take_guarded}}
use Rattle.rustc_lexer.specs.model.{Raw.{hash_run, is_quote}, Scan.{after, begins, bytes_of, next_is, past, scanned}}
use Rattle.rustc_lexer.specs.{LanguageText.{Mode}, State.{State}}
use Rattle.rustc_lexer.specs.laws.Past.{past-past, past-drop, chars-past, IsUtf8-past, length-past}
use Rattle.rustc_lexer.proofs.lemmas.tokens.{ByteSearch.{begins-byte}, Raw.{hash_cut}}
use Rattle.rustc_lexer.specs.laws.{Scan.{scanned-after}, State.{state}}

-- The text after the n hashes at the front.
module _ (rest front : List ℕ) (n : ℕ) (is : IsUtf8 rest) (count : n ≡ hash_run (chars rest))
    (cut : front ≡ drop n rest) where
  front_is : front ≡ past n rest
  front_is = cut ∙ hash_cut rest is n (omega arith)

  quote_next : next_is is_quote (drop n (chars rest)) ≡ begins (34 ∷ []) (chars front)
  quote_next = cc (front_is, chars-past n rest is, begins-byte 34 (chars front))

  abbrev body_read : Bool × ℕ
  body_read = guarded_body n (drop (suc n) (chars rest))

  abbrev chosen : Bool → Option (Bool × ℕ)
  chosen b = if b then Some (body_read.0, bytes_of (suc n + body_read.1) (chars rest)) else None

  pub no_string : begins (34 ∷ []) (chars front) ≡ false → None ≡ string_past n (chars rest)
  no_string e = rw (quote_next, e)

  module _ (body left : List ℕ) (closed : Bool) (body_cut : body ≡ past 1 front)
      (read : (closed, left) ≡ scanned (guarded_body n) body) where
    body_is : body ≡ past (suc n) rest
    body_is = let one : n + 1 ≡ suc n = omega arith in
        cc (front_is, past-past 1 n rest is)

    whole_is : (closed, left) ≡ scanned (after (suc n) (guarded_body n)) rest
    whole_is = read ∙ sym (scanned-after (suc n) (guarded_body n) rest body is body_is)

    taken_is : bytes_of (suc n + body_read.1) (chars rest) ≡ length rest - length left
    taken_is = let l = length-past (suc n + body_read.1) rest is in
        let e = ap (λ (r : Bool × List ℕ). length r.1) whole_is in omega arith

    pub string_boundary : IsCharBoundary rest (length rest - length left)
    string_boundary =
        IsCharBoundary-from_drop rest (length rest - length left) (omega arith)
        (rw (past-drop (suc n + body_read.1) rest is, taken_is) at (IsUtf8-past (suc n + body_read.1) rest is))

    pub string_here : begins (34 ∷ []) (chars front) ≡ true → Some (closed, length rest - length left) ≡
        string_past n (chars rest)
    string_here e = grind (arith, common_steps, whole_is, taken_is, quote_next)

-- A cursor with pending bytes, if the remaining text starts with n hashes.
module _ (pending : ℕ) (left : List ℕ) (mode : Mode) (s : State) (rest : List ℕ) (view : state pending left mode ≡ s)
    (offset : rest ≡ s.rest) (n : ℕ) (count : n ≡ hash_run (chars rest)) where
  here : rest ≡ left
  here = rw (← view) at offset

  abbrev here_is : State
  here_is = state pending rest mode

  guarded-is : (o : Option (Bool × ℕ)) → o ≡ string_past n (chars rest) → take_guarded s ≡ guarded_by n o here_is
  unfolding take_guarded
  guarded-is o read = grind (arith, common_steps)

  pub none_here : None ≡ string_past n (chars rest) → take_guarded s ≡ (None, state (pending + n) (drop n left) mode)
  none_here read = rw (← here) (guarded-is None read)

  pub some_here : (closed : Bool) (t : ℕ) → Some (closed, t) ≡ string_past n (chars rest)
      → take_guarded s ≡
      (Some record { n_hashes = n; terminated = closed; token_len = pending + t }, state 0 (drop t left) mode)
  some_here closed t read = grind (arith, common_steps, guarded-is (Some (closed, t)) read, here)
