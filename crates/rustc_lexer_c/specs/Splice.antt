-- Splicing the tokens of an edit into the caller's list.
use Rattle.std.specs.Prelude.{ℕ, ◌≡◌, ◌≢◌, ◌+◌, ◌-◌, ◌<◌, ◌≤◌, List, ◌++◌, length, take, drop}
use Rattle.rustc_lexer_c.specs.declared.token.CToken.{CToken}
use Rattle.rustc_lexer_c.specs.declared.status.Refusal.TheVariants.{InvalidEdit, SmallBuffer}
use Rattle.rustc_lexer_c.specs.Status.{OK, refusal_number}

-- Holds if the list fits into the buffer, and its front and its back do not overlap.
abbrev pub MaySplice : ℕ → ℕ → ℕ → ℕ → Type 0
MaySplice places count kept_front kept_back = (count ≤ places) × (kept_front + kept_back ≤ count)

-- A call replaces the tokens between the front and the back of a list, which is the first `count` tokens of the buffer.
-- If the call fails, it changes nothing.
pub record Splices (buffer : List CToken) (count kept_front kept_back : ℕ)
    (lexed buffer' : List CToken) (count' status : ℕ) : Type 0 where
  pub list : status ≡ OK → take count' buffer'
      ≡ take kept_front (take count buffer)
      ++ (lexed ++ drop (count - kept_back) (take count buffer))
  pub count_is : status ≡ OK → count' ≡ kept_front + length lexed + kept_back
  pub refused : status ≢ OK → (buffer' ≡ buffer) × (count' ≡ count)
  pub ok : MaySplice (length buffer) count kept_front kept_back
      → kept_front + length lexed + kept_back ≤ length buffer → status ≡ OK
  pub invalid_edit : ¬ MaySplice (length buffer) count kept_front kept_back
      → status ≡ refusal_number InvalidEdit
  pub small_buffer : MaySplice (length buffer) count kept_front kept_back
      → length buffer < kept_front + length lexed + kept_back → status ≡ refusal_number SmallBuffer
