-- Comments, whitespace and symbols: the scanners read exactly the language.
use Rattle.std.proofs.Common.{◌≡◌, ℕ, suc, ◌==◌, ◌&&◌, not, Bool, true, false, true≢false, if◌then◌else◌, List, [], ◌∷◌}
use Rattle.std.proofs.Common.{◌++◌, length, take, drop, codes, refl, sym, ap, ◌∙◌, subst, arith, take-append-drop}
use Rattle.std.proofs.Common.{take_all, Option, Some, None}
use Rattle.std.proofs.{Math.Seq.{take-append_seam, drop-length}, lemmas.Bool.{and_parts, eqb-true, or_parts, or_from}}
use Rattle.std.proofs.lemmas.{List.{append-nil}, Grind.{common_steps}}
use Rattle.rustc_lexer.specs.{DocStyle, Outer, Inner, LineComment, BlockComment, Whitespace, GuardedStrPrefix, Pound}
use Rattle.rustc_lexer.specs.{Slash}
use Rattle.rustc_lexer.specs.model.BlockComment.{block_doc_style, block_comment_to, block_comment, comment_end}
use Rattle.rustc_lexer.specs.Classes.{is_among, is_whitespace, NextNotIn, AreAll, NextIsNot, is_inline}
use Rattle.rustc_lexer.specs.model.Comment.{line_doc_style, line_comment, slash}
use Rattle.rustc_lexer.specs.model.Hash.{opens_guarded, hash}
use Rattle.rustc_lexer.specs.laws.BlockComment.{comment_end-found, comment_end-rest, rest-long, style_decided}
use Rattle.rustc_lexer.specs.laws.Choice.{by_found, by_test}
use Rattle.rustc_lexer.specs.laws.LanguageRuns.{run_len-here, run-stops, Sound, Read, read-first, sound-after}
use Rattle.rustc_lexer.specs.laws.LanguageRuns.{decided-front, begins-next, chooses-slash, chooses-space, chooses-hash}
use Rattle.rustc_lexer.specs.laws.LanguageRuns.{chooses-symbol, pair}
use Rattle.rustc_lexer.specs.laws.Reach.{run_all}
use Rattle.rustc_lexer.specs.Language as the
use Rattle.rustc_lexer.specs.Language.{IsStyle, inner, outer, no_outer, neither, IsCommentRest, IsTokenBefore, has_rule}
use Rattle.rustc_lexer.specs.model.Lexeme.{whitespace, symbol, symbol_kind}
use Rattle.rustc_lexer.specs.model.Scan.{after, begins, gives, next_is, run_len}

-- ---- whitespace and symbols

pub space-sound : (c : ℕ) → is_whitespace c ≡ true → (s : List ℕ) → Sound c s (whitespace s)
space-sound c e s = the.whitespace (rw e (run_all is_whitespace s)) (run-stops is_whitespace s)

pub space-read : (c : ℕ) (w next : List ℕ) → AreAll is_whitespace (c ∷ w) → NextIsNot is_whitespace next
    → Read Whitespace (suc (length w)) (c ∷ w ++ next)
space-read c w next all stop = grind (arith, common_steps, and_parts, read-first, chooses-space, run_len-here)

pub hash-sound : (s : List ℕ) → Sound 35 s (hash s)
hash-sound s = by_test (Sound 35 s) (next_is opens_guarded s) (after 1 (gives GuardedStrPrefix) s) (gives Pound s)
    (guarded_here s) (λ e. the.pound e)
  where
    guarded_here : (s : List ℕ) → next_is opens_guarded s ≡ true → Sound 35 s (after 1 (gives GuardedStrPrefix) s)
    guarded_here [] e = absurd (true≢false (sym e))
    guarded_here (d ∷ s) e = the.guarded_prefix e

pub pound-read : (next : List ℕ) → NextNotIn (codes "\"#") next → Read Pound 1 (35 ∷ next)
pound-read next stop = read-first 35 hash next Pound 0 1 chooses-hash (rw stop refl) refl

pub guarded-read : (c : ℕ) (next : List ℕ) → is_among (codes "\"#") c ≡ true → Read GuardedStrPrefix 2 (35 ∷ c ∷ next)
guarded-read c next is = read-first 35 hash (c ∷ next) GuardedStrPrefix 1 2 chooses-hash (rw is refl) refl

pub symbol-read : (c : ℕ) (next : List ℕ) → has_rule c ≡ false → Read (symbol_kind c) 1 (c ∷ next)
symbol-read c next e = read-first c (symbol c) next (symbol_kind c) 0 1 (chooses-symbol c e) refl refl

-- ---- the doc style of a comment

abbrev doc_style : ℕ → List ℕ → List ℕ → Option DocStyle
doc_style again undocs s =
    if begins (codes "!") s then Some Inner else
    (if begins (again ∷ []) s && not (next_is (is_among undocs) (drop 1 s)) then Some Outer else None)

styled : (again : ℕ) (undocs w : List ℕ) → IsStyle again undocs (doc_style again undocs w) w
styled again undocs [] = neither refl
styled again undocs (c ∷ s) = by_test (λ style. IsStyle again undocs style (c ∷ s)) (begins (codes "!") (c ∷ s))
    (Some Inner) _ inner_here (λ e. by_next e (c == again) (next_is (is_among undocs) s) refl refl)
  where
    inner_here : begins (codes "!") (c ∷ s) ≡ true → IsStyle again undocs (Some Inner) (c ∷ s)
    inner_here e = subst (λ (x : ℕ). IsStyle again undocs (Some Inner) (x ∷ s))
        (sym (eqb-true c 33 (and_parts (c == 33) true e).0)) inner

    by_next : begins (codes "!") (c ∷ s) ≡ false → (a b : Bool) → (c == again) ≡ a → next_is (is_among undocs) s ≡ b
        → IsStyle again undocs (if (a && true) && not b then Some Outer else None) (c ∷ s)
    by_next e true true f g = subst (λ (x : ℕ). IsStyle again undocs None (x ∷ s)) (sym (eqb-true c again f))
        (no_outer g)
    by_next e true false f g = subst (λ (x : ℕ). IsStyle again undocs (Some Outer) (x ∷ s)) (sym (eqb-true c again f))
        (outer g)
    by_next e false b f g = neither (rw f (sym (begins-next 33 (c ∷ s)) ∙ e))

style-is : {again : ℕ} {undocs w : List ℕ} {style : Option DocStyle} → (again == 33) ≡ false → (again == again) ≡ true
    → IsStyle again undocs style w → doc_style again undocs w ≡ style
style-is w0 w1 w2 = grind (arith, common_steps, or_parts)

-- ---- line comments

abbrev pub IsLineStyle : Option DocStyle → List ℕ → Type 0
IsLineStyle style w = IsStyle 47 (codes "/") style w

line-style : (w : List ℕ) → line_doc_style w ≡ doc_style 47 (codes "/") w
line-style w0 = grind (arith, common_steps)

-- The text of a line comment alone decides its style.
line_doc_style-own : (s : List ℕ) → line_doc_style (take (run_len is_inline s) s) ≡ line_doc_style s
line_doc_style-own w0 = grind (arith, common_steps, eqb-true)

-- The model's style is the style that the language defines.
line-styled : (w : List ℕ) → IsLineStyle (line_doc_style w) w
line-styled w = subst (λ (style : Option DocStyle). IsLineStyle style w) (sym (line-style w)) (styled 47 (codes "/") w)

line-sound : (s : List ℕ)
    → IsTokenBefore (drop (line_comment s).1 s) (line_comment s).0 (47 ∷ 47 ∷ take (line_comment s).1 s)
line-sound s =
    let n : ℕ = run_len is_inline s in
    the.line_comment (run_all is_inline s) (run-stops is_inline s)
    (subst (λ (style : Option DocStyle). IsLineStyle style (take n s)) (line_doc_style-own s)
    (line-styled (take n s)))

pub line-read : (style : Option DocStyle) (w next : List ℕ) → AreAll is_inline w → NextIsNot is_inline next
    → IsLineStyle style w → Read (LineComment style) (suc (suc (length w))) (47 ∷ 47 ∷ w ++ next)
line-read style w next all stop is =
    grind (
      arith,
      common_steps,
      run_len-here,
      take-append_seam,
      line_doc_style-own,
      read-first,
      chooses-slash,
      pair,
      line-style,
      style-is,
    )

-- ---- block comments

abbrev pub IsBlockStyle : Option DocStyle → List ℕ → Type 0
IsBlockStyle style w = IsStyle 42 (codes "*/") style w

block-style : (w : List ℕ) → block_doc_style w ≡ doc_style 42 (codes "*/") w
block-style w0 = grind (arith, common_steps)

block-styled : (w : List ℕ) → IsBlockStyle (block_doc_style w) w
block-styled w = subst (λ (style : Option DocStyle). IsBlockStyle style w) (sym (block-style w))
    (styled 42 (codes "*/") w)

block-style-is : {style : Option DocStyle} {w : List ℕ} → IsBlockStyle style w → block_doc_style w ≡ style
block-style-is {w = w} is = block-style w ∙ style-is refl refl is

block-sound : (s : List ℕ) → IsTokenBefore (drop (block_comment s).1 s) (block_comment s).0
    (47 ∷ 42 ∷ take (block_comment s).1 s)
block-sound s = by_end (comment_end s) refl
  where
    by_end : (o : Option ℕ) → comment_end s ≡ o
        → IsTokenBefore (drop (block_comment_to o s).1 s) (block_comment_to o s).0
        (47 ∷ 42 ∷ take (block_comment_to o s).1 s)
    by_end None e =
        let never = λ (n : ℕ) (p : IsCommentRest (take n s)).
        absurd (let some = sym (comment_end-found p (drop n s)) ∙ (ap comment_end (take-append-drop n s) ∙ e) in cc) in
        subst (λ (w : List ℕ). IsTokenBefore (drop (length s) s) (BlockComment (block_doc_style s) false) (47 ∷ 42 ∷ w))
        (sym (take_all (length s) s (omega arith)))
        (the.open_comment (drop-length s) never (block-styled s))
    by_end (Some n) e =
        let p = comment_end-rest s n e in
        let own : block_doc_style (take n s) ≡ block_doc_style s =
        sym (decided-front 2 block_doc_style style_decided (take n s) (drop n s) (rest-long p))
        ∙ ap block_doc_style (take-append-drop n s) in
        the.block_comment p
        (subst (λ (style : Option DocStyle). IsBlockStyle style (take n s)) own (block-styled (take n s)))

pub block-read : (style : Option DocStyle) (w next : List ℕ) → IsCommentRest w → IsBlockStyle style w
    → Read (BlockComment style true) (suc (suc (length w))) (47 ∷ 42 ∷ w ++ next)
block-read style w next p is =
    grind (
      arith,
      comment_end-found p next,
      (decided-front 2 block_doc_style style_decided w next (rest-long p) ∙ block-style-is is),
      read-first,
      chooses-slash,
    )

pub open-read : (style : Option DocStyle) (w next : List ℕ) → next ≡ [] → ((n : ℕ) → IsCommentRest (take n w) → ⊥)
    → IsBlockStyle style w → Read (BlockComment style false) (suc (suc (length w))) (47 ∷ 42 ∷ w ++ next)
open-read style w next none never is =
    let lost : comment_end w ≡ None = by_found (comment_end w) (λ n e. absurd (never n (comment_end-rest w n e)))
    (λ e. e) in
    grind (arith, common_steps, none, append-nil w, lost, block-style-is is, read-first, chooses-slash)

-- ---- a slash

pub slash-sound : (s : List ℕ) → Sound 47 s (slash s)
slash-sound s = by_test (Sound 47 s) (begins (codes "/") s) (after 1 line_comment s) _ (at_line s)
    (λ e. by_test (Sound 47 s) (begins (codes "*") s) (after 1 block_comment s) (gives Slash s) (at_block s)
    (λ f. the.slash (alone s e f)))
  where
    at_line : (s : List ℕ) → begins (codes "/") s ≡ true → Sound 47 s (after 1 line_comment s)
    at_line [] e = absurd (true≢false (sym e))
    at_line (d ∷ s) e =
        subst (λ (x : ℕ). Sound 47 (x ∷ s) (after 1 line_comment (x ∷ s)))
        (sym (eqb-true d 47 (and_parts (d == 47) true e).0)) (sound-after 47 47 s line_comment (line-sound s))

    at_block : (s : List ℕ) → begins (codes "*") s ≡ true → Sound 47 s (after 1 block_comment s)
    at_block [] e = absurd (true≢false (sym e))
    at_block (d ∷ s) e =
        subst (λ (x : ℕ). Sound 47 (x ∷ s) (after 1 block_comment (x ∷ s)))
        (sym (eqb-true d 42 (and_parts (d == 42) true e).0)) (sound-after 47 42 s block_comment (block-sound s))

    alone : (s : List ℕ) → begins (codes "/") s ≡ false → begins (codes "*") s ≡ false → NextNotIn (codes "/*") s
    alone [] e f = refl
    alone (d ∷ s) e f = or_from (d == 47) _ (or_parts (d == 47) false (sym (begins-next 47 (d ∷ s)) ∙ e)).0
        (sym (begins-next 42 (d ∷ s)) ∙ f)

pub slash-read : (next : List ℕ) → NextNotIn (codes "/*") next → Read Slash 1 (47 ∷ next)
slash-read next stop = grind (arith, common_steps, read-first, chooses-slash, or_parts)
