-- The iterator after `Tokens::fill`, from the clauses `count` and `state` and the contract of `as_str`.
use Rattle.std.proofs.Common.{◌≡◌, ℕ, zero, suc, ◌+◌, ◌<◌, ◌≤◌, length, drop, min, refl, arith}
use Rattle.std.proofs.Common.{length-drop, pos_of_ne-zero}
use Rattle.std.proofs.{lemmas.{List.{nil_from_length}, Str.{IsUtf8-drop}}, Math.Nat.{min-le_right}}
use Rattle.rustc_lexer.specs.{Token, Classes.{IsText}, LanguageText.{mode_edition}, State.{State}}
use Rattle.rustc_lexer.specs.Tokens.{advance, bound, state_past, tokens_left, TakesToken}
use Rattle.rustc_lexer.specs.{model.Taking.{token_at}, laws.State.{edition-after, past_token}}
use Rattle.rustc_lexer.specs.laws.Tokens.{partitions, tokens-nil}
use Rattle.rustc_lexer.proofs.lemmas.tokens.{Buffers.{left_more, rest_more, shorter_left}, Progress.{none_more}}
use Rattle.rustc_lexer.proofs.lemmas.tokens.Tokens.{takes_first}

record IsPast (s t : State) (count : ℕ) : Type 0 where
  text : IsText t.rest
  pending : t.pending ≡ 0
  left : tokens_left t ≡ drop count (tokens_left s)
  rest : t.rest ≡ drop (bound (tokens_left s) count) s.rest
  edition : mode_edition t.mode ≡ mode_edition s.mode

is_past : (s : State) → IsText s.rest → s.pending ≡ 0 → (count : ℕ) → count ≤ length (tokens_left s)
    → IsPast s (state_past count s) count
is_past s is none zero few = record { text = is; pending = none; left = refl; rest = refl; edition = refl }
is_past s is none (suc count) few =
    let before = is_past s is none count (omega arith) in
    let at : State = state_past count s in
    let token : Token = token_at at.mode at.rest in
    let some : 0 < length at.rest = pos_of_ne-zero (λ zero.
    let all = none_more (tokens_left s) count (cc (before.left, nil_from_length at.rest zero, tokens-nil at.mode)) in
    omega (arith, all, few)) in
    let first : TakesToken at token (past_token at.rest at.mode token) = takes_first at
    (past_token at.rest at.mode token) token before.pending before.text some refl refl in
    let next_is : (advance at).1 ≡ past_token at.rest at.mode token = cc (first.advances) in
    let takes : TakesToken at token (state_past (suc count) s) = rw next_is first in
    let more : count + 1 ≡ suc count = omega arith in
    record {
      text = rw takes.rest record {
        utf8 = IsUtf8-drop at.rest token.len before.text.utf8 takes.boundary;
        fits = omega (arith, length-drop token.len at.rest, before.text.fits);
      };
      pending = rw next_is refl;
      left = rw more at (left_more s at (state_past (suc count) s) count token refl before.left takes);
      rest = rw more at (rest_more s at (state_past (suc count) s) count token refl before.left takes before.rest);
      edition = cc (takes.mode, edition-after at.mode token.kind, before.edition);
    }

-- Holds if `fill` turned the iterator `s` into `t`: it returned `count` tokens, with room for `room` tokens in its
-- buffer.
pub record Leaves (s t : State) (room count : ℕ) : Type 0 where
  pub text : IsText t.rest
  pub pending : t.pending ≡ 0
  pub tokens : tokens_left t ≡ drop count (tokens_left s)
  pub rest : t.rest ≡ drop (bound (tokens_left s) count) s.rest
  pub edition : mode_edition t.mode ≡ mode_edition s.mode
  pub progress : 0 < room → 0 < length s.rest → length t.rest < length s.rest

pub past_fill : (s t : State) (room count : ℕ) → IsText s.rest → s.pending ≡ 0
    → count ≡ min room (length (tokens_left s)) → t ≡ state_past count s → Leaves s t room count
past_fill s t room count is none as_many past =
    let few : count ≤ length (tokens_left s) = omega (arith, as_many, min-le_right room (length (tokens_left s))) in
    let all = is_past s is none count few in
    let cut : t.rest ≡ drop (bound (tokens_left s) count) s.rest = rw past all.rest in
    record {
      text = rw past all.text;
      pending = rw past all.pending;
      tokens = rw past all.left;
      rest = cut;
      edition = rw past all.edition;
      progress = shorter_left s.rest t.rest (tokens_left s) (partitions s.rest s.mode is) room count as_many cut;
    }
