-- The opening of a frontmatter, and the end of the token.
use Rattle.std.proofs.Common.{◌≡◌, ℕ, zero, suc, ◌+◌, ◌-◌, ◌<◌, ◌≤◌, ◌&&◌, ◌||◌, nat_lt, not, Bool, true, false}
use Rattle.std.proofs.Common.{if◌then◌else◌, List, [], ◌∷◌, ◌++◌, codes, length, take, drop, get_or, refl, sym, ap, ◌∙◌}
use Rattle.std.proofs.Common.{subst, arith, Some, None, length-append, length-drop, length-take, append_assoc}
use Rattle.std.specs.{Char.{encode_utf8}, Str.{chars, encode_utf8_all, IsUtf8, IsCharBoundary}}
use Rattle.std.proofs.Math.Seq.{drop-append_seam, take-append_seam}
use Rattle.std.proofs.lemmas.{Bool.{eqb-true, and_parts, lt-ltb, or_parts}, List.{get_or-drop}}
use Rattle.std.proofs.lemmas.Str.{encode_ascii, byte_from_char, inside_one, length-encode, len_utf8_bounds}
use Rattle.std.proofs.lemmas.Str.{length-le-encodes, IsCharBoundary-from_drop}
use Rattle.std.proofs.{Math.Bool.{and-false}, lemmas.Grind.{common_steps}}
use Rattle.rustc_lexer.specs.{Edition, Token, Frontmatter}
use Rattle.rustc_lexer.specs.Classes.{is_whitespace, is_id_start, is_info}
use Rattle.rustc_lexer.specs.LanguageText.{Mode}
use Rattle.rustc_lexer.specs.model.Edition.{first_token_in}
use Rattle.rustc_lexer.specs.FrontmatterGrammar as the
use Rattle.rustc_lexer.specs.FrontmatterGrammar.{fence, endings}
use Rattle.rustc_lexer.specs.model.Frontmatter.{closing_end, ends_line, fence_len, first, first_lone, frontmatter}
use Rattle.rustc_lexer.specs.model.Frontmatter.{if_found, infostring_len, is_dash, is_newline, label_len, line_end}
use Rattle.rustc_lexer.specs.model.Frontmatter.{newline, opening_len, opens, past_opening, spaces_len, then_len}
use Rattle.rustc_lexer.specs.laws.Reach.{run_len_le}
use Rattle.rustc_lexer.specs.model.Scan.{begins, bytes_of, next_is, past, run_len}
use Rattle.rustc_lexer.specs.model.Taking.{token_at}
use Rattle.rustc_lexer.specs.laws.CharSteps.{bytes_of-add}
use Rattle.rustc_lexer.specs.laws.Fences.{begins-enough, begins-few, begins-dashes}
use Rattle.rustc_lexer.specs.laws.LanguageClosing.{body-at, body-read, endings-patterns}
use Rattle.rustc_lexer.specs.laws.LanguageFrontmatter.{fence-length, run-fence}
use Rattle.rustc_lexer.specs.laws.Scan.{length-run, next_is-cons, next_is-nil}
use Rattle.rustc_lexer.specs.laws.Past.{past-zero, split_past, past-past, past-drop, chars-past, IsUtf8-past}
use Rattle.rustc_lexer.specs.laws.Past.{length-past}

-- Skipping one length and then another is skipping both.
pub past-then : (f g : List ℕ → ℕ) (text mid left : List ℕ) → IsUtf8 text → mid ≡ past (f (chars text)) text
    → left ≡ past (g (chars mid)) mid → left ≡ past (then_len f g (chars text)) text
past-then f g text mid left is e h = grind (arith, common_steps, chars-past, past-past)

module _ (rest : List ℕ) (is : IsUtf8 rest) where
  pub infostring-yes : (tail left : List ℕ) → next_is is_id_start (chars rest) ≡ true → tail ≡ past 1 rest
      → left ≡ past (run_len is_info (chars tail)) tail → left ≡ past (infostring_len (chars rest)) rest
  infostring-yes tail left e at f = grind (arith, common_steps, chars-past, past-past)

  pub infostring-no : next_is is_id_start (chars rest) ≡ false → rest ≡ past (infostring_len (chars rest)) rest
  infostring-no e =
      sym (past-zero rest is)
      ∙ ap (λ (b : Bool). past (if b then 1 + run_len is_info (drop 1 (chars rest)) else 0) rest) (sym e)

pub ruleset infostring_lemmas = (infostring-yes, infostring-no, next_is-cons, next_is-nil)

-- A text that starts with neither a dash nor whitespace opens no frontmatter.
pub opens-other : (s : List ℕ) → next_is (λ c. is_dash c || is_whitespace c) s ≡ false → opens s ≡ false
opens-other s w1 = grind (arith, common_steps, or_parts)

-- The byte before an offset is a newline exactly if the last character before it is a newline.
last_byte : (cs text rest : List ℕ) → text ≡ encode_utf8_all cs ++ rest
    → (nat_lt 0 (length (encode_utf8_all cs)) && is_newline (get_or text (length (encode_utf8_all cs) - 1) 0)) ≡
    ends_line cs
last_byte [] text rest e = refl
last_byte (c ∷ []) text rest e =
    grind (
      arith,
      common_steps,
      length-append,
      append_assoc,
      length-encode,
      len_utf8_bounds,
      eqb-true,
      inside_one,
      lt-ltb,
      encode_ascii,
      byte_from_char,
    )
last_byte (c ∷ d ∷ s) text rest e =
    let long : length (encode_utf8_all (c ∷ d ∷ s)) ≡ length (encode_utf8 c) + length (encode_utf8_all (d ∷ s)) =
    length-append (encode_utf8 c) (encode_utf8_all (d ∷ s)) in
    let some : 1 ≤ length (encode_utf8_all (d ∷ s)) = omega (arith, length-le-encodes (d ∷ s)) in
    let tail : List ℕ = encode_utf8_all (d ∷ s) ++ rest in
    let split : text ≡ encode_utf8 c ++ tail = e ∙ append_assoc (encode_utf8 c) (encode_utf8_all (d ∷ s)) rest in
    let tail_is : drop (length (encode_utf8 c)) text ≡ tail = ap (drop (length (encode_utf8 c))) split
    ∙ drop-append_seam (encode_utf8 c) tail in
    let there : get_or text (length (encode_utf8_all (c ∷ d ∷ s)) - 1) 0 ≡
    get_or tail (length (encode_utf8_all (d ∷ s)) - 1) 0 =
    ap (λ k. get_or text k 0)
    (let sum : length (encode_utf8_all (c ∷ d ∷ s)) - 1 ≡
    length (encode_utf8 c) + (length (encode_utf8_all (d ∷ s)) - 1) = omega (arith, long, some) in sum)
    ∙ (sym (get_or-drop (length (encode_utf8 c)) text (length (encode_utf8_all (d ∷ s)) - 1) 0)
    ∙ ap (λ xs. get_or xs (length (encode_utf8_all (d ∷ s)) - 1) 0) tail_is) in
    let both : nat_lt 0 (length (encode_utf8_all (c ∷ d ∷ s))) ≡ nat_lt 0 (length (encode_utf8_all (d ∷ s))) =
    lt-ltb 0 _ (omega (arith, long, some)) ∙ sym (lt-ltb 0 _ (omega (arith, some))) in
    ap (λ b. b && is_newline (get_or text (length (encode_utf8_all (c ∷ d ∷ s)) - 1) 0)) both
    ∙ (ap (λ k. nat_lt 0 (length (encode_utf8_all (d ∷ s))) && is_newline k) there ∙ last_byte (d ∷ s) tail rest refl)

-- Dashes have one byte each.
fence-encode : (n : ℕ) → encode_utf8_all (fence n) ≡ fence n
fence-encode zero = refl
fence-encode (suc n) = ap (λ (w : List ℕ). w ++ encode_utf8_all (fence n)) (encode_ascii 45 (omega arith))
    ∙ ap (λ (w : List ℕ). 45 ∷ w) (fence-encode n)

-- A text, the text after its leading whitespace, and the text after the dashes that follow.
module _ (text fence label : List ℕ) (is : IsUtf8 text) (fence_is : fence ≡ past (spaces_len (chars text)) text)
    (label_is : label ≡ past (run_len is_dash (chars fence)) fence) where
  count : run_len is_dash (chars fence) ≡ fence_len (chars text)
  count = ap (run_len is_dash) (ap chars fence_is ∙ chars-past (spaces_len (chars text)) text is)

  fence_utf8 : IsUtf8 fence
  fence_utf8 = subst IsUtf8 (sym fence_is) (IsUtf8-past (spaces_len (chars text)) text is)

  pub dashes_are : length fence - length label ≡ fence_len (chars text)
  dashes_are = length-run is_dash (λ c e. let f = eqb-true c 45 e in omega arith) fence label fence_utf8 label_is
      ∙ count

  pub dashes_fence : take (length fence - length label) fence ≡ the.fence (length fence - length label)
  dashes_fence =
      let n : ℕ = run_len is_dash (chars fence) in
      let dashes : encode_utf8_all (take n (chars fence)) ≡ the.fence n = ap encode_utf8_all (run-fence (chars fence))
      ∙ fence-encode n in
      let size : length fence - length label ≡ n = length-run is_dash (λ c e. let f = eqb-true c 45 e in
      omega arith) fence label fence_utf8 label_is in
      let whole : fence ≡ the.fence n ++ past n fence = split_past n fence fence_utf8
      ∙ ap (λ (w : List ℕ). w ++ past n fence) dashes in
      ap (λ (k : ℕ). take k fence) size
      ∙ (ap (take n) whole
      ∙ (ap (λ (k : ℕ). take k (the.fence n ++ past n fence)) (sym (fence-length n))
      ∙ (take-append_seam (the.fence n) (past n fence) ∙ ap the.fence (sym size))))

  spaces_are : length text - length fence ≡ bytes_of (spaces_len (chars text)) (chars text)
  spaces_are = grind (arith, common_steps, length-past)

  newline_before : (nat_lt 0 (length text - length fence) && is_newline
      (get_or text (length text - length fence - 1) 0)) ≡ ends_line (take (spaces_len (chars text)) (chars text))
  newline_before =
      ap (λ n. nat_lt 0 n && is_newline (get_or text (n - 1) 0)) spaces_are
      ∙ last_byte (take (spaces_len (chars text)) (chars text)) text fence (split_past (spaces_len (chars text)) text is
      ∙ ap (λ xs. encode_utf8_all (take (spaces_len (chars text)) (chars text)) ++ xs) (sym fence_is))

  pub opens-few : length fence - length label < 3 → opens (chars text) ≡ false
  opens-few few = rw (begins-few 3 (drop (spaces_len (chars text)) (chars text)) (omega (arith, dashes_are))) refl

  module _ (bytes : List ℕ) (read : bytes ≡ text) (offset : ℕ) (at : offset ≡ length text - length fence)
      (newline_there : Bool)
      (decided : newline_there ≡ (nat_lt 0 offset && is_newline (get_or bytes (offset - 1) 0))) where
    decided_so : newline_there ≡ ends_line (take (spaces_len (chars text)) (chars text))
    decided_so = decided
        ∙ (ap (λ xs. nat_lt 0 offset && is_newline (get_or xs (offset - 1) 0)) read
        ∙ (ap (λ n. nat_lt 0 n && is_newline (get_or text (n - 1) 0)) at ∙ newline_before))

    pub opens-line : newline_there ≡ true → opens (chars text) ≡ false
    opens-line before = ap (λ b. begins (the.fence 3) (drop (spaces_len (chars text)) (chars text)) && not b)
        (sym decided_so ∙ before) ∙ and-false (begins (the.fence 3) (drop (spaces_len (chars text)) (chars text)))

    pub opens-yes : newline_there ≡ false → 3 ≤ length fence - length label → opens (chars text) ≡ true
    opens-yes none enough =
        rw (
          begins-enough 3 (drop (spaces_len (chars text)) (chars text)) (omega (arith, dashes_are)),
          sym decided_so
              ∙ none,
        ) refl

  module _ (rest : List ℕ) (rest_is : rest ≡ past (label_len (chars label)) label) where
    pub past_opening-is : rest ≡ past_opening text
    unfolding past_opening
    past_opening-is = past-then (then_len spaces_len (run_len is_dash)) label_len text label rest is
        (past-then spaces_len (run_len is_dash) text fence label is fence_is label_is) rest_is

    pub frontmatter-is : (len end : ℕ) (space bad : Bool) → end ≡ closing_end (length fence - length label) rest
        → len ≡ length text - length rest + end → space ≡ next_is is_whitespace (chars text)
        → bad ≡ not (next_is is_newline (chars rest))
        → record { kind = Frontmatter space bad; len = len } ≡ frontmatter text
    unfolding frontmatter past_opening
    frontmatter-is len end space bad end_is len_is space_is bad_is =
        grind (arith, common_steps, past_opening-is, length-past, dashes_are)

pub if_found_some : (offset : ℕ) (end : ℕ → ℕ) (otherwise : ℕ) → if_found (Some offset) end otherwise ≡ end offset
if_found_some offset end otherwise = refl

pub if_found_none : (end : ℕ → ℕ) (otherwise : ℕ) → if_found None end otherwise ≡ otherwise
if_found_none end otherwise = refl

-- The results of the searches determine the end of the closing fence.
pub closing_end_is : (n : ℕ) (rest : List ℕ)
    → closing_end n rest ≡ if_found (first (newline ∷ fence n) rest) (λ offset. line_end (offset + 1) rest)
    (if_found (first (codes "\n---") rest) (λ offset. line_end (offset + 1) rest)
    (if_found (first (codes "\nuse ") rest) (λ offset. offset) (if_found (first (codes "\n//!") rest) (λ offset. offset)
    (if_found (first (codes "\n#![") rest) (λ offset. offset)
    (if_found (first_lone true 0 rest) (λ offset. line_end offset rest) (length rest))))))
unfolding closing_end
closing_end_is n rest = refl

-- Holds if the token is not empty, is in bounds, and ends at a char boundary, as a frontmatter does.
pub record IsCutOff (text : List ℕ) (token : Token) : Type 0 where
  pub not_empty : 0 < token.len
  pub inside : token.len ≤ length text
  pub boundary : IsCharBoundary text token.len

pub frontmatter-cut : (text : List ℕ) → IsUtf8 text → opens (chars text) ≡ true → IsCutOff text (frontmatter text)
unfolding frontmatter past_opening past
frontmatter-cut text is e =
    let s : List ℕ = chars text in
    let n : ℕ = opening_len s in
    let b = body-at (endings (fence_len s)) (drop n s) (endings-patterns (fence_len s)) in
    let k : ℕ = length b.body in
    let front : take k (drop n s) ≡ b.body = ap (take k) (sym b.whole) ∙ take-append_seam b.body b.next in
    let closes : closing_end (fence_len s) (past_opening text) ≡ bytes_of k (drop n s) =
    ap (λ (u : List ℕ). closing_end (fence_len s) (encode_utf8_all u)) (sym b.whole)
    ∙ (body-read (fence_len s) b.is ∙ ap (λ (u : List ℕ). length (encode_utf8_all u)) (sym front)) in
    let end : bytes_of n s + closing_end (fence_len s) (past_opening text) ≡ bytes_of (n + k) s =
    omega (arith, closes, bytes_of-add n k s) in
    let inside : bytes_of (n + k) s ≤ length text = omega (arith, length-past (n + k) text is) in
    let some : 3 ≤ fence_len s =
    begins-dashes 3 (drop (spaces_len s) s) (and_parts (begins (fence 3) (drop (spaces_len s) s)) _ e).0 in
    let chars_some : 3 ≤ length s =
    omega (arith, run_len_le is_dash (drop (spaces_len s) s), length-drop (spaces_len s) s) in
    record {
      not_empty = omega (arith, length-le-encodes (take n s), length-take n s);
      inside = omega (arith, end, inside);
      boundary = subst (IsCharBoundary text) (sym end)
          (IsCharBoundary-from_drop text (bytes_of (n + k) s) inside
          (subst IsUtf8 (past-drop (n + k) text is) (IsUtf8-past (n + k) text is)));
    }

pub ruleset cut_lemmas = (frontmatter-cut)

-- The token at the front of a text has a property if the frontmatter has it whenever one opens, and the token of each
-- edition has it.
pub token_at-either : (P : Token → Type 0) (mode : Mode) (text : List ℕ)
    → ((edition : Edition) → P (first_token_in edition text)) → (opens (chars text) ≡ true → P (frontmatter text))
    → P (token_at mode text)
token_at-either w0 w1 text lexeme opened = grind (arith, common_steps)
