-- The tokens that an edit keeps: in front because of locality, and in the back after a boundary of both texts.
use Rattle.std.proofs.Common.{◌≡◌, ℕ, zero, suc, ◌+◌, ◌-◌, ◌*◌, ◌<◌, ◌≤◌, true, false, List, [], ◌∷◌, ◌++◌, length}
use Rattle.std.proofs.Common.{take, drop, refl, sym, ap, arith, length-drop, length-append, drop-drop, take-take}
use Rattle.std.proofs.Common.{take-append-drop, take-add, take_at, drop_at, length-take-le, IsUtf8, IsCharBoundary}
use Rattle.std.proofs.Common.{chars, leb-true, le-leb, leb, is_some, slice_get, encode_utf8, slice_range, append_assoc}
use Rattle.std.proofs.Common.{Result, IfErr, OnOk, OnErr}
use Rattle.std.specs.List.{replace_range}
use Rattle.std.proofs.lemmas.{List.{drop-take, take-append-le}, Grind.{common_steps}}
use Rattle.std.proofs.lemmas.Str.{chars_past_char, chars-nil, IsUtf8-append, IsUtf8-take, IsUtf8-drop, IsUtf8-between}
use Rattle.std.proofs.lemmas.Str.{IsCharBoundary-from_drop, chars-append, length-encode, len_utf8_bounds, encodes-chars}
use Rattle.std.proofs.Math.Utf8.{encodes}
use Rattle.rustc_lexer.specs.{Token, Locality.{AgreePast, IsGrammar, has_two}, Classes.{IsText}}
use Rattle.rustc_lexer.specs.{Tokens.{bound, tokens_by}, Edits.{apply}, Relexer.{IsEditOf}}
use Rattle.rustc_lexer.specs.declared.relex.change.Change.{Change}
use Rattle.rustc_lexer.specs.laws.Cuts.{at_bound, tokens_local, look}

-- A proposition that always holds also holds for an error.
pub IfErr-always : {T E : Type 0} {P : Type 0} (r : Result T E) → P → IfErr r (λ _. P)
IfErr-always r w1 = grind (arith, common_steps)

-- Holds if `new` is the edited text: it has the same bytes as `text` before the edit and after it.
pub record IsEdited (text : List ℕ) (edit : Change) (new : List ℕ) : Type 0 where
  pub start_le_old : edit.start ≤ edit.old_end
  pub old_inside : edit.old_end ≤ length text
  pub start_le_new : edit.start ≤ edit.new_end
  pub len : length new + edit.old_end ≡ length text + edit.new_end
  pub front : take edit.start new ≡ take edit.start text
  pub back : drop edit.new_end new ≡ drop edit.old_end text
  pub text_is : IsText new

pub edited : {text insert new : List ℕ} {edit : Change} → IsEditOf text edit insert new → IsEdited text edit new
unfolding apply
edited {text} {insert} {new} {edit} e =
    let inside = e.is_edit.inside in
    let start : ℕ = edit.start in
    let front : List ℕ = take start text in
    let back : List ℕ = drop edit.old_end text in
    let first : length front ≡ start = length-take-le start text (omega arith) in
    let long : length new ≡ start + (length insert + (length text - edit.old_end)) =
    omega (arith, simp (length-append, length-drop) at (ap length e.made)) in
    record {
      start_le_old = inside.start_le_stop;
      old_inside = inside.stop_inside;
      start_le_new = omega (arith, e.new_end);
      len = omega (arith, e.new_end);
      front = rw e.made (take_at front (insert ++ back) start first);
      back = cc (
        drop-drop (length insert) start new,
        drop_at front (insert ++ back) start first,
        drop_at insert back (length insert) refl,
      );
      text_is = record {
        utf8 = rw e.made (IsUtf8-append _ _ (IsUtf8-take text start e.is_text.utf8 inside.start_boundary)
            (IsUtf8-append _ _ e.inserted (IsUtf8-drop text edit.old_end e.is_text.utf8 inside.stop_boundary)));
        fits = omega (arith, e.is_edit.short);
      };
    }

-- A prefix with two characters decides the first two characters of a text.
pub look-enough : (xs ys zs : List ℕ) → IsUtf8 xs → 2 ≤ length (chars xs) → look (xs ++ ys) ≡ look (xs ++ zs)
look-enough xs ys zs is two =
    let front = λ (vs : List ℕ). take-append-le 2 (chars xs) (chars vs) two in
    cc (chars-append xs ys is, chars-append xs zs is, front ys, front zs)

positive : (n : ℕ) (xs : List ℕ) → 2 ≤ length (chars (take n xs)) → 0 < n
positive n xs w2 = grind (arith, common_steps, chars-nil)

pub has_two-before : (text : List ℕ) (offset start : ℕ) → has_two text offset start ≡ true → offset < start
unfolding has_two
has_two-before text offset start two = grind (arith, common_steps, positive, leb-true)

pub has_two-count : (text : List ℕ) (offset to : ℕ) → has_two text offset to ≡ true
    → 2 ≤ length (chars (take (to - offset) (drop offset text)))
unfolding has_two
has_two-count text offset to two = leb-true 2 (length (chars (take (to - offset) (drop offset text)))) two

pub has_two-intro : (text : List ℕ) (offset to : ℕ) → 2 ≤ length (chars (take (to - offset) (drop offset text)))
    → has_two text offset to ≡ true
unfolding has_two
has_two-intro text offset to two = le-leb 2 (length (chars (take (to - offset) (drop offset text)))) two

-- If two characters are between an offset and the edit, both texts agree from the offset on.
pub has_two-agree : (text new : List ℕ) (offset start : ℕ) → IsUtf8 (take (start - offset) (drop offset text))
    → take start new ≡ take start text → has_two text offset start ≡ true → AgreePast offset text new
unfolding has_two
has_two-agree text new offset start is same two =
    let middle : List ℕ = take (start - offset) (drop offset text) in
    let enough : 2 ≤ length (chars middle) = leb-true 2 (length (chars middle)) two in
    let before : offset < start = omega (arith, positive (start - offset) (drop offset text) enough) in
    let there : offset + (start - offset) ≡ start = omega arith in
    let here : look (middle ++ drop (start - offset) (drop offset text)) ≡
    look (middle ++ drop (start - offset) (drop offset new)) = look-enough _ _ _ is enough in
    record {
      below = cc (take-take offset start text (omega arith), take-take offset start new (omega arith));
      past = cc (
        drop-take offset (start - offset) new,
        drop-take offset (start - offset) text,
        take-append-drop (start - offset) (drop offset text),
        take-append-drop (start - offset) (drop offset new),
      );
    }

pub bound-take : (k : ℕ) (ts : List Token) → bound (take k ts) k ≡ bound ts k
bound-take zero ts = refl
bound-take (suc k) [] = refl
bound-take (suc k) (t ∷ ts) = cc (bound-take k ts)

pub bound-same : (k : ℕ) (ts us : List Token) → take k ts ≡ take k us → bound ts k ≡ bound us k
bound-same k ts us e = cc (bound-take k ts, bound-take k us)

module _ {first : List ℕ → Token} (law : IsGrammar first) {text insert new : List ℕ} {edit : Change}
    (e : IsEditOf text edit insert new) where
  -- The tokens of the kept front are the same in both texts.
  pub kept_same : (k : ℕ) → k ≤ length (tokens_by first text)
      → (0 < k → has_two text (bound (tokens_by first text) k) edit.start ≡ true)
      → take k (tokens_by first new) ≡ take k (tokens_by first text)
  kept_same zero few two = refl
  kept_same (suc k) few two =
      let offset : ℕ = bound (tokens_by first text) (suc k) in
      let cut = at_bound law (suc k) text e.is_text in
      let has = two (omega arith) in
      let before = has_two-before text offset edit.start has in
      let middle = IsUtf8-between text offset edit.start e.is_text.utf8 (omega arith)
      (IsCharBoundary-from_drop text offset cut.inside cut.past.utf8) e.is_edit.inside.start_boundary in
      tokens_local law (suc k) text new e.is_text (edited e).text_is few
      (has_two-agree text new offset edit.start middle (edited e).front has)

  -- After the edit both texts have the same rest.
  pub same_rest : (p : ℕ) → edit.new_end ≤ p → drop p new ≡ drop (p - edit.new_end + edit.old_end) text
  same_rest p past =
      let n : ℕ = p - edit.new_end in
      let here : edit.new_end + n ≡ p = omega arith in
      let there : edit.old_end + n ≡ n + edit.old_end = omega arith in
      cc ((edited e).back, drop-drop n edit.new_end new, drop-drop n edit.old_end text)

  -- The meeting: after a boundary at or after the edit that is also a boundary of the old text, all tokens are old
  -- ones.
  pub met_rest : (j i : ℕ) → edit.new_end ≤ bound (tokens_by first new) j
      → bound (tokens_by first text) i + edit.new_end ≡ bound (tokens_by first new) j + edit.old_end
      → drop j (tokens_by first new) ≡ drop i (tokens_by first text)
  met_rest j i past met =
      let there : bound (tokens_by first new) j - edit.new_end + edit.old_end ≡ bound (tokens_by first text) i =
      omega arith in
      cc (
        same_rest (bound (tokens_by first new) j) past,
        (at_bound law j new (edited e).text_is).rest,
        (at_bound law i text e.is_text).rest,
      )

pub drop_of-take : (p n : ℕ) (xs : List ℕ) → drop p (take n xs) ≡ take (n - p) (drop p xs)
drop_of-take zero n xs = grind (arith, common_steps)
drop_of-take (suc p) zero xs = grind (arith, common_steps)
drop_of-take (suc p) (suc n) [] = grind (arith, common_steps)
drop_of-take (suc p) (suc n) (x ∷ xs) = grind (arith, common_steps, drop_of-take p n xs)

-- Whether two characters are between two offsets depends only on the text up to the second.
pub has_two-same : (text other : List ℕ) (offset to : ℕ) → take to text ≡ take to other
    → has_two text offset to ≡ has_two other offset to
unfolding has_two
has_two-same text other offset to same =
    grind (arith, common_steps, drop_of-take offset to text, same, drop_of-take offset to other)

pub has_two-late : (text : List ℕ) (offset to : ℕ) → to ≤ offset → has_two text offset to ≡ false
has_two-late text offset to late = grind (arith, common_steps, has_two-before)

-- An earlier offset has at least as many characters after it.
pub has_two-mono : (text : List ℕ) (offset later to : ℕ) → IsUtf8 text → offset ≤ later → IsCharBoundary text offset
    → IsCharBoundary text later → has_two text later to ≡ true → has_two text offset to ≡ true
has_two-mono text offset later to is le b c two =
    let before : later < to = has_two-before text later to two in
    let whole : to - offset ≡ (later - offset) + (to - later) = omega arith in
    let next : offset + (later - offset) ≡ later = omega arith in
    let xs : List ℕ = take (later - offset) (drop offset text) in
    let ys : List ℕ = take (to - later) (drop later text) in
    let split : take (to - offset) (drop offset text) ≡ xs ++ ys =
    cc (take-add (later - offset) (to - later) (drop offset text), drop-drop (later - offset) offset text) in
    has_two-intro text offset to
    (rw (split, chars-append xs ys (IsUtf8-between text offset later is le b c))
    (omega (arith, length-append (chars xs) (chars ys), has_two-count text later to two)))

-- The text from `from` to `to` has two characters exactly if a character follows the first one.
pub two_chars : (text : List ℕ) (from to : ℕ) (bs rest : List ℕ) (c : ℕ) → bs ≡ take (to - from) (drop from text)
    → IsUtf8 bs → bs ≡ encode_utf8 c ++ rest → is_some (slice_get (chars rest) 0) ≡ has_two text from to
unfolding has_two
two_chars text from to bs rest c e is split =
    cc (count (chars rest), chars_past_char bs rest c is split)
  where
    count : (cs : List ℕ) → is_some (slice_get cs 0) ≡ leb 2 (suc (length cs))
    count [] = refl
    count (x ∷ xs) = sym (le-leb 2 (suc (suc (length xs))) (omega arith))

length-encodes : (cs : List ℕ) → length (encodes cs) ≤ 4 * length cs
length-encodes [] = omega arith
length-encodes (c ∷ cs) =
    omega (arith, length-append (encode_utf8 c) (encodes cs), length-encode c, (len_utf8_bounds c).1, length-encodes cs)

-- A character has at most four bytes, so eight bytes contain two characters.
pub has_two-long : (text : List ℕ) (offset to : ℕ) → IsUtf8 text → IsCharBoundary text offset → IsCharBoundary text to
    → 8 ≤ to - offset → has_two text offset to ≡ true
has_two-long text offset to is from until long =
    let xs : List ℕ = take (to - offset) (drop offset text) in
    let its : IsUtf8 xs = IsUtf8-between text offset to is (omega arith) from until in
    let bytes = length-take-le (to - offset) (drop offset text) (omega (arith, until.0, length-drop offset text)) in
    has_two-intro text offset to (omega (arith, ap length (encodes-chars xs its), length-encodes (chars xs)))

-- The replacement gives the edited text, if there is room for it.
pub put_is : {E : Type 0} (result : Result Unit E) (text insert new : List ℕ) (start stop len room : ℕ)
    → len + length insert ≤ room
    → OnOk result (new ≡ replace_range text start stop insert) → OnErr result (room < len + length insert)
    → new ≡ apply text start stop insert
unfolding apply
put_is result text insert new start stop len room w8 w9 w10 = grind (arith, common_steps, append_assoc)

-- A text is the part before a range, the range, and the part after it.
pub three_parts : (text : List ℕ) (start stop : ℕ) → start ≤ stop
    → take start text ++ (slice_range text start stop ++ drop stop text) ≡ text
three_parts text start stop less =
    let turned : stop ≡ start + (stop - start) = omega arith in
    cc (
      drop-drop (stop - start) start text,
      take-append-drop (stop - start) (drop start text),
      take-append-drop start text,
    )

-- Replacing the inserted text with the removed text restores the old text.
pub put_back : {text insert new : List ℕ} {edit : Change} → IsEditOf text edit insert new
    → apply new edit.start edit.new_end (slice_range text edit.start edit.old_end) ≡ text
unfolding apply
put_back {text} {insert} {new} {edit} e =
    rw ((edited e).front, (edited e).back) (three_parts text edit.start edit.old_end (edited e).start_le_old)

pub OnOk-map : {X Y : Type 0} {P Q : Type 0} (r : Result X Y) → (P → Q) → OnOk r P → OnOk r Q
OnOk-map r w1 w2 = grind (arith, common_steps)

pub ruleset edit_lemmas = (has_two-late, has_two-long)
