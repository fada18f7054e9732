-- Tokens with known lengths only: the token boundaries that are found, and where the search of the old boundaries ends.
use Rattle.std.proofs.Common.{◌≡◌, ℕ, ◌+◌, ◌-◌, ◌<◌, ◌≤◌, Bool, false, ◌||◌, eqb, eq-eqb, List, ◌++◌, length, map, take}
use Rattle.std.proofs.Common.{drop, ap, ◌∙◌, arith, length-drop, length-append, IsUtf8, drop-drop}
use Rattle.std.proofs.Common.{length-take-le, append_assoc, eq-or-lt_of_le, IsCharBoundary, max, true, get_or}
use Rattle.std.proofs.lemmas.Str.{IsUtf8-append, IsUtf8-drop, IsCharBoundary-at_seam, IsCharBoundary-from_drop}
use Rattle.std.proofs.lemmas.Str.{IsUtf8-take, IsCharBoundary-from_take}
use Rattle.std.proofs.lemmas.Grind.{common_steps}
use Rattle.rustc_lexer.specs.declared.relex.{boundary.TokenStart.{TokenStart}, change.Change.{Change}}
use Rattle.rustc_lexer.specs.{Token, Eof, Tokens.{bound, tokens_by}, Edits.{apply}, Offsets.{IsBound}}
use Rattle.rustc_lexer.specs.Relexer.{IsChange, IsEditOf, IsMadeOf}
use Rattle.rustc_lexer.specs.model.Relexer.{IsFollowed, IsFront, IsLast, HasLengths}
use Rattle.rustc_lexer.specs.{Locality.{IsGrammar, has_two}, Classes.{IsText}}
use Rattle.rustc_lexer.proofs.lemmas.edits.Bounds.{bound-last, bound_mono, cuts, rises}
use Rattle.rustc_lexer.proofs.lemmas.edits.FrontAndBack.{edited, has_two-late, has_two-same}
use Rattle.std.proofs.lemmas.{List.{get_or-map, length-map, take-take}, Bool.Decides.{leb_tells}}
use Rattle.rustc_lexer.proofs.lemmas.edits.KeptFront.{bound-next}

-- After the end of a list, this token is read.
pub no_token : Token
no_token = record { kind = Eof; len = 0 }

module _ {X : Type 0} (f : X → ℕ) (xs : List X) (ts : List Token) (are : HasLengths ts (map f xs)) where
  pub as_many : length xs ≡ length ts
  as_many = cc (length-map xs f, are, length-map ts (λ (t : Token). t.len))

  pub as_long : (i : ℕ) (x : X) (len : ℕ) → len ≡ f x → x ≡ get_or xs i x → i < length xs
      → len ≡ (get_or ts i no_token).len
  as_long i x len its at few =
      grind (arith, common_steps, as_many, its, at, get_or-map f xs i x 0 few, are, get_or-map, no_token)

-- The text up to `start` decides whether two characters are between an offset and `start`.
pub stand_alike : (old text : List ℕ) (offset start : ℕ) (two : Bool) → IsUtf8 old → IsUtf8 text
    → take start text ≡ take start old → start ≤ length text → IsCharBoundary old offset
    → (start ≤ offset → two ≡ false) → (IsCharBoundary text offset → two ≡ has_two text offset start)
    → two ≡ has_two old offset start
stand_alike old text offset start two is its same inside cut late here =
    grind (arith, common_steps, leb_tells, has_two-late, take-take, IsCharBoundary-from_take, IsUtf8-take, has_two-same)

-- After one more token there is a token boundary again, and the test decides whether two characters follow it.
pub next_stands : {X : Type 0} (f : X → ℕ) (xs : List X) {old text : List ℕ} {ts : List Token} {start : ℕ}
    → IsFront old ts (map f xs) text start → IsUtf8 text
    → start ≤ length text → (at : TokenStart) → IsBound ts at → at.index < length xs → (x : X) (len : ℕ) → len ≡ f x
    → x ≡ get_or xs at.index x
    → (two : Bool) → (start ≤ at.offset + len → two ≡ false)
    → (IsCharBoundary text (at.offset + len) → two ≡ has_two text (at.offset + len) start)
    → IsBound ts (record { index = at.index + 1; offset = at.offset + len })
    × (two ≡ has_two old (at.offset + len) start)
next_stands f xs {old} {text} {ts} {start} is its inside at here_is few x len len_is x_is two late here =
    let fewer : at.index < length ts = omega (arith, few, as_many f xs ts is.lengths_are) in
    let long = as_long f xs ts is.lengths_are at.index x len len_is x_is few in
    let next : at.offset + len ≡ bound ts (at.index + 1) =
    omega (arith, here_is.1, long, bound-next ts at.index no_token fewer) in (
      (omega arith, next),
      stand_alike old text _ start two is.utf8 its is.same inside
          (rw next (is.cuts (at.index + 1) (omega arith))) late here,
    )

-- An offset with two characters between it and `start` is at or before `start`.
pub stood_before : (offset start : ℕ) (two : Bool) → (start ≤ offset → two ≡ false) → two ≡ true → offset ≤ start
stood_before offset start two late hit = grind (arith, common_steps, leb_tells)

-- ---- relexing

module _ {first : List ℕ → Token} (law : IsGrammar first) {before lengths insert text : List ℕ} {change : Change}
    (is : IsMadeOf first before lengths change insert text) where
  abbrev old : List Token
  old = tokens_by first before

  pub made_front : IsFront before old lengths text change.start
  made_front = grind (arith, common_steps, cuts, edited is.edit_of)

  -- The end of the text, as an offset in the old text, is the end of the old tokens.
  end_last : (offset : ℕ) → offset ≡ length text → IsLast old (offset - change.new_end + change.old_end)
  end_last offset at =
      grind (arith, (edited is.edit_of).len, bound-last law before is.edit_of.is_text, rises, bound_mono)

  -- The old boundaries are followed up to an offset, from an earlier boundary on.
  pub follows : {from back : TokenStart} {met : Bool} (offset end : ℕ) → end ≡ length text → IsBound old from
      → ((k : ℕ) → k < from.index → bound old k + change.new_end < max change.new_end offset + change.old_end)
      → (lengths ≡ map (λ (t : Token). t.len) old → IsBound old from
      → ((k : ℕ) → k < from.index → bound old k + change.new_end < max change.new_end offset + change.old_end)
      → (offset ≡ end → IsLast old (offset - change.new_end + change.old_end))
      → IsFollowed old change.old_end change.new_end offset back met)
      → IsFollowed old change.old_end change.new_end offset back met
  follows offset end e at passed follow = follow is.lengths_are at passed (λ here. end_last offset (here ∙ e))

-- A step over a token advances by at least one byte, and ends at a char boundary.
pub step_offset : {first : List ℕ → Token} (law : IsGrammar first) (text : List ℕ) (at : ℕ) (token : Token)
    → IsText text → IsCharBoundary text at → at < length text → token ≡ first (drop at text)
    → (0 < token.len) × IsCharBoundary text (at + token.len)
step_offset law text at token is cut more token_is =
    grind (
      arith,
      length-drop at text,
      token_is,
      (ap (λ (t : Token). t.len) token_is),
      drop-drop token.len at text,
      IsUtf8-drop,
      IsCharBoundary-from_drop,
    )

-- If relexing is not done, some text is left.
pub not_over : (met : Bool) (at end : ℕ) → at ≤ end → (met || eqb at end) ≡ false → (met ≡ false) × (at < end)
not_over w0 at end le e = grind (arith, common_steps, eq-or-lt_of_le, eq-eqb)

-- A change that produced the text is a possible change.
pub made_change : {text insert new : List ℕ} {change : Change} → IsEditOf text change insert new → IsChange new change
unfolding apply
made_change {text} {insert} {new} {change} e =
    let inside = e.is_edit.inside in
    let front : List ℕ = take change.start text in
    let back : List ℕ = drop change.old_end text in
    let short : length front ≡ change.start = length-take-le change.start text (omega arith) in
    let back_utf8 : IsUtf8 back = IsUtf8-drop text change.old_end e.is_text.utf8 inside.stop_boundary in
    let next : length (front ++ insert) ≡ change.new_end =
    omega (arith, length-append front insert, short, e.new_end) in
    let stop_boundary : IsCharBoundary new change.new_end =
    rw next at (IsCharBoundary-at_seam new (front ++ insert) back (rw append_assoc e.made) back_utf8) in
    record {
      inserted = record {
        start_le_stop = (edited e).start_le_new;
        stop_inside = stop_boundary.0;
        start_boundary = rw short at (IsCharBoundary-at_seam new front (insert ++ back) e.made
            (IsUtf8-append insert _ e.inserted back_utf8));
        stop_boundary = stop_boundary;
      };
      start_le_old = inside.start_le_stop;
      old_short = omega (arith, e.is_text.fits);
    }
