-- Relexing as C sees it: an edit, and how far the text has been relexed.
use Rattle.std.specs.Prelude.{ℕ, ◌≡◌, ◌≢◌, ◌+◌, ◌-◌, ◌≤◌, ◌<◌, ◌^◌, if◌then◌else◌, nat_eq, List, ◌++◌, length, map}
use Rattle.std.specs.Prelude.{take, drop, Some, None}
use Rattle.std.specs.Str.{IsUtf8}
use Rattle.rustc_lexer.specs.declared.edition.Edition.{Edition}
use Rattle.rustc_lexer.specs.declared.relex.boundary.TokenStart.{TokenStart}
use Rattle.rustc_lexer.specs.declared.relex.change.Change.{Change}
use Rattle.rustc_lexer.specs.declared.relex.counts.Relexed.{Relexed}
use Rattle.rustc_lexer.specs.declared.relex.relexer.RelexState.{RelexState}
use Rattle.rustc_lexer.specs.declared.token.Token.{Token}
use Rattle.rustc_lexer.specs.Tokens.{tokens_by}
use Rattle.rustc_lexer.specs.LanguageCalls.{edition_of_year}
use Rattle.rustc_lexer.specs.Answers.{first_in}
use Rattle.rustc_lexer.specs.Offsets.{IsBound}
use Rattle.rustc_lexer.specs.Edits.{IsRelexed, fragment_by}
use Rattle.rustc_lexer.specs.Relexer.{IsChange, IsMadeOf, IsUnderWay, CanContinue, is_done}
use Rattle.rustc_lexer.specs.Classes.{IsText}
use Rattle.rustc_lexer_c.specs.declared.relex.CEdit.{CEdit}
use Rattle.rustc_lexer_c.specs.declared.relex.CRelexing.{CRelexing}
use Rattle.rustc_lexer_c.specs.declared.token.CToken.{CToken}
use Rattle.rustc_lexer_c.specs.Numbers.{token_numbers}
use Rattle.rustc_lexer_c.specs.declared.status.Refusal.TheVariants.{InvalidEdit, InvalidEdition, NotUtf8, TooLong}
use Rattle.rustc_lexer_c.specs.Status.{OK, refusal_number}

-- The stages have the same names as in the header.
abbrev pub STAGE_BEGIN : ℕ
STAGE_BEGIN = 0

abbrev pub STAGE_MORE : ℕ
STAGE_MORE = 1

abbrev pub STAGE_DONE : ℕ
STAGE_DONE = 2

abbrev pub change_of : CEdit → Change
change_of c = record { start = c.start; old_end = c.old_end; new_end = c.new_end }

-- Returns the token boundary in the fields of the front.
abbrev pub front_of : CRelexing → TokenStart
front_of c = record { index = c.kept_front; offset = c.front_offset }

-- Returns the state of relexing in the fields, if there are `count` old tokens.
abbrev pub relexing_of : ℕ → CRelexing → RelexState
relexing_of count c = record {
  front = front_of c;
  lexed = c.lexed;
  back = record { index = count - c.kept_back; offset = c.back_offset };
  at = c.at;
  met = nat_eq c.stage STAGE_DONE;
}

-- Returns how many tokens the earlier calls have written.
abbrev pub lexed_before : CRelexing → ℕ
lexed_before c = if nat_eq c.stage STAGE_BEGIN then 0 else c.lexed

-- Holds if a call can continue from these numbers. Before the first call, any numbers are accepted.
abbrev pub MayRelex : List ℕ → ℕ → CRelexing → Type 0
MayRelex text count c =
    c.stage ≢ STAGE_BEGIN → (c.kept_back ≤ count) × CanContinue text count (relexing_of count c)

-- Holds if these numbers are valid input for a call. Before the first call, only `kept_front` and `front_offset` are
-- used, and they must be a token boundary of the old text. Later, the numbers must come from an earlier call.
pub record IsPassed (first : List ℕ → Token) (before : List ℕ) (change : Change) (text : List ℕ)
    (count : ℕ) (c : CRelexing) : Type 0 where
  pub near : c.stage ≡ STAGE_BEGIN → IsBound (tokens_by first before) (front_of c)
  pub under_way : c.stage ≢ STAGE_BEGIN → IsUnderWay first before change text (relexing_of count c)

-- Returns the first `lexed` tokens of the current text after the front, as numbers.
abbrev pub written : List Token → ℕ → ℕ → List CToken
written tokens front lexed = map token_numbers (take lexed (drop front tokens))

-- A call writes the tokens of the current text that follow the front and the tokens of earlier calls. When it is done,
-- the counts are the counts of the edit. If `old` contains the old tokens, the current text has the old tokens of the
-- front, then all written tokens, then the old tokens of the back.
pub record HasRelexed (first : List ℕ → Token) (before : List ℕ) (edit : CEdit)
    (insert text : List ℕ) (old : List CToken) (c : CRelexing) (buffer : List CToken)
    (c' : CRelexing) (filled : List CToken) (count : ℕ) : Type 0 where
  pub passed : IsPassed first before (change_of edit) text (length old) c'
  pub tokens : filled ≡ map token_numbers
      (take count (drop (c'.kept_front + lexed_before c) (tokens_by first text)))
      ++ drop count buffer
  pub more : written (tokens_by first text) c'.kept_front c'.lexed
      ≡ written (tokens_by first text) c'.kept_front (lexed_before c) ++ take count filled
  pub few : (r : Relexed) × IsRelexed (fragment_by first) before edit.start edit.old_end insert r
      × (c'.lexed ≤ r.lexed)
  pub counts : c'.stage ≡ STAGE_DONE → IsRelexed (fragment_by first) before edit.start edit.old_end
      insert (record { kept_front = c'.kept_front; lexed = c'.lexed; kept_back = c'.kept_back })
  pub list : c'.stage ≡ STAGE_DONE → old ≡ map token_numbers (tokens_by first before)
      → take c'.kept_front old ++ (written (tokens_by first text) c'.kept_front c'.lexed
      ++ drop (length old - c'.kept_back) old) ≡ map token_numbers (tokens_by first text)

-- A call has this effect. All clauses except `relexed` hold for any numbers. `relexed` holds for every old text that
-- has the old tokens in this edition and that the edit turned into the current text.
pub record IsRelexBatch (edition : Edition) (text : List ℕ) (old : List CToken) (edit : CEdit)
    (c : CRelexing) (buffer : List CToken) (c' : CRelexing) (filled : List CToken) (count : ℕ) :
    Type 0 where
  pub within : count ≤ length buffer
  pub rest : drop count filled ≡ drop count buffer
  pub lexed : c'.lexed ≡ lexed_before c + count
  pub goes_on : c'.stage ≢ STAGE_DONE → (c'.stage ≡ STAGE_MORE) × (count ≡ length buffer)
  pub front : c.stage ≢ STAGE_BEGIN → front_of c' ≡ front_of c
  pub may_relex : MayRelex text (length old) c'
  pub relexed : (before insert : List ℕ)
      → IsMadeOf (first_in edition) before (map (λ (t : CToken). t.len) old) (change_of edit) insert
      text → IsPassed (first_in edition) before (change_of edit) text (length old) c
      → HasRelexed (first_in edition) before edit insert text old c buffer c' filled count

-- Holds if a call that relexes returns this status.
pub record IsRelexStatus (bytes : List ℕ) (edit : CEdit) (year count : ℕ) (c : CRelexing)
    (status : ℕ) : Type 0 where
  pub ok : IsText bytes → (edition : Edition) → edition_of_year year ≡ Some edition
      → IsChange bytes (change_of edit) → MayRelex bytes count c → status ≡ OK
  pub not_utf8 : length bytes < 2 ^ 32 → ¬ (IsUtf8 bytes) → status ≡ refusal_number NotUtf8
  pub too_long : 2 ^ 32 ≤ length bytes → status ≡ refusal_number TooLong
  pub invalid_edition : IsText bytes → edition_of_year year ≡ None → status ≡ refusal_number InvalidEdition
  pub invalid_edit : IsText bytes → (edition : Edition) → edition_of_year year ≡ Some edition → ¬
      (IsChange bytes (change_of edit) × MayRelex bytes count c) → status ≡ refusal_number InvalidEdit

-- A call relexes in the edition of a year. If it fails, it changes nothing except the count, which is 0.
pub record Relexes (text : List ℕ) (old : List CToken) (edit : CEdit) (year : ℕ) (c c' : CRelexing)
    (buffer filled : List CToken) (count status : ℕ) : Type 0 where
  pub status_is : IsRelexStatus text edit year (length old) c status
  pub batch : status ≡ OK → (edition : Edition) → edition_of_year year ≡ Some edition
      → IsRelexBatch edition text old edit c buffer c' filled count
  pub refused : status ≢ OK → (c' ≡ c) × (filled ≡ buffer) × (count ≡ 0)

-- Returns the state of relexing as numbers.
abbrev pub numbers_of : List ℕ → ℕ → RelexState → CRelexing
numbers_of text count at = record {
  kept_front = at.front.index;
  front_offset = at.front.offset;
  lexed = at.lexed;
  kept_back = count - at.back.index;
  back_offset = at.back.offset;
  at = at.at;
  stage = if is_done text at then STAGE_DONE else STAGE_MORE;
}
