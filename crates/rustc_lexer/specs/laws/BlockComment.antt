-- The end of a block comment: the model finds the end that the grammar defines.
use Rattle.std.proofs.Common.{◌≡◌, ℕ, zero, suc, ◌+◌, ◌≤◌, ◌<◌, false, List, [], ◌∷◌, ◌++◌, length, take, codes, refl}
use Rattle.std.proofs.Common.{sym, ap, ◌∙◌, subst, arith, append_assoc, length-append, take_at, Option, Some}
use Rattle.std.proofs.lemmas.Grind.{common_steps}
use Rattle.rustc_lexer.specs.Language as the
use Rattle.rustc_lexer.specs.Language.{IsCommentRest}
use Rattle.rustc_lexer.specs.model.BlockComment.{at_closing, at_opening, block_doc_style, comment_end, out_of}
use Rattle.rustc_lexer.specs.model.Least.{more}
use Rattle.rustc_lexer.specs.model.Scan.{begins}
use Rattle.rustc_lexer.specs.laws.Choice.{by_either}
use Rattle.rustc_lexer.specs.laws.Fences.{begins-whole}
use Rattle.rustc_lexer.specs.laws.LanguageRuns.{decided-front}
use Rattle.rustc_lexer.specs.laws.Least.{more-more}
use Rattle.rustc_lexer.specs.laws.Reach.{IsDecidedBy, begins-decided}

-- The first two characters decide the doc style.
pub style_decided : IsDecidedBy 2 block_doc_style
style_decided w0 = grind (arith, common_steps)

-- A character that starts neither `*/` nor `/*` is skipped.
pub out_of-plain : (depth c : ℕ) (s : List ℕ) → 0 < depth → at_closing (c ∷ s) ≡ false → at_opening (c ∷ s) ≡ false
    → out_of depth (c ∷ s) ≡ more 1 (out_of depth s)
unfolding out_of
out_of-plain zero c s some e f = absurd (omega arith)
out_of-plain (suc depth) c [] some e f = refl
out_of-plain (suc depth) c (d ∷ s) some e f = rw (e, f) refl

-- `*/` has two characters, so the rest of a comment has at least two.
pub rest-long : {w : List ℕ} → IsCommentRest w → 2 ≤ length w
rest-long w0 = grind (arith, common_steps, length-append)

-- The rest of a comment decides whether the text starts with two given characters.
begins-rest : (a b c : ℕ) {w : List ℕ} → IsCommentRest w → (next : List ℕ) → begins (a ∷ b ∷ []) (c ∷ w ++ next) ≡
    begins (a ∷ b ∷ []) (c ∷ w)
begins-rest a b c {w} p next = decided-front 2 (begins (a ∷ b ∷ [])) (begins-decided (a ∷ b ∷ [])) (c ∷ w) next
    (omega (arith, rest-long p))

-- After the rest of a comment, the depth is one less.
out_of-rest : {w : List ℕ} → IsCommentRest w → (depth : ℕ) (next : List ℕ) → out_of (suc depth) (w ++ next) ≡
    more (length w) (out_of depth next)
unfolding out_of
out_of-rest the.closing depth next = refl
out_of-rest (the.nested {v} {w} p q) depth next =
    let o : Option ℕ = out_of depth next in
    ap (λ u. more 2 (out_of (suc (suc depth)) u)) (append_assoc v w next)
    ∙ (ap (more 2) (out_of-rest p (suc depth) (w ++ next) ∙ ap (more (length v)) (out_of-rest q depth next))
    ∙ (ap (more 2) (more-more (length v) (length w) o)
    ∙ (more-more 2 (length v + length w) o ∙ ap (λ n. more n o) (omega (arith, length-append v w)))))
out_of-rest (the.other {c} {w} e f p) depth next =
    out_of-plain (suc depth) c (w ++ next) (omega arith) (begins-rest 42 47 c p next ∙ e)
    (begins-rest 47 42 c p next ∙ f)
    ∙ (ap (more 1) (out_of-rest p depth next)
    ∙ (more-more 1 (length w) (out_of depth next) ∙ ap (λ n. more n (out_of depth next)) (omega arith)))

pub comment_end-found : {w : List ℕ} → IsCommentRest w → (next : List ℕ) → comment_end (w ++ next) ≡ Some (length w)
unfolding out_of
comment_end-found p next = out_of-rest p 0 next ∙ ap Some (omega arith)

-- Holds if the first n characters are one rest for each open comment.
abbrev AreRests : ℕ → List ℕ → ℕ → Type 0
AreRests zero s n = n ≡ 0
AreRests (suc depth) s n = (w : List ℕ) × (next : List ℕ) × (m : ℕ) × (s ≡ w ++ next) × (n ≡ length w + m)
    × IsCommentRest w × AreRests depth next m

more-some : (k n : ℕ) (o : Option ℕ) → more k o ≡ Some n → (m : ℕ) × (o ≡ Some m) × (n ≡ k + m)
more-some k n o w3 = grind (arith, common_steps)

are-rests : (depth : ℕ) (s : List ℕ) (n : ℕ) → out_of depth s ≡ Some n → AreRests depth s n
unfolding out_of
are-rests zero s n e = cc
are-rests (suc depth) [] n e = absurd (cc)
are-rests (suc depth) (c ∷ []) n e = absurd (cc)
are-rests (suc depth) (c ∷ d ∷ s) n e = by_either (at_closing (c ∷ d ∷ s))
    (λ t.
    let m = more-some 2 n (out_of depth s) (sym (rw t refl) ∙ e) in
    (codes "*/", s, m.0, begins-whole (codes "*/") (c ∷ d ∷ s) t, m.2, the.closing, are-rests depth s m.0 m.1))
    (λ t. by_either (at_opening (c ∷ d ∷ s))
    (λ f.
    let m = more-some 2 n (out_of (suc (suc depth)) s) (sym (rw (t, f) refl) ∙ e) in
    let v = are-rests (suc (suc depth)) s m.0 m.1 in
    let w = v.6 in
    let inner : s ≡ (v.0 ++ w.0) ++ w.1 = v.3 ∙ (ap (λ u. v.0 ++ u) w.3 ∙ sym (append_assoc v.0 w.0 w.1)) in
    let whole : c ∷ d ∷ s ≡ 47 ∷ 42 ∷ (v.0 ++ w.0) ++ w.1 = begins-whole (codes "/*") (c ∷ d ∷ s) f
    ∙ ap (λ u. 47 ∷ 42 ∷ u) inner in (
      codes "/*" ++ v.0 ++ w.0,
      w.1,
      w.2,
      whole,
      omega (arith, m.2, v.4, w.4, length-append v.0 w.0),
      the.nested v.5 w.5,
      w.6,
    ))
    (λ f.
    let m = more-some 1 n (out_of (suc depth) (d ∷ s)) (sym (rw (t, f) refl) ∙ e) in
    let v = are-rests (suc depth) (d ∷ s) m.0 m.1 in
    let plain : (a b : ℕ) → begins (a ∷ b ∷ []) (c ∷ d ∷ s) ≡ false → begins (a ∷ b ∷ []) (c ∷ v.0) ≡ false =
    λ a b none. sym (begins-rest a b c v.5 v.1) ∙ (ap (λ u. begins (a ∷ b ∷ []) (c ∷ u)) (sym v.3) ∙ none) in (
      c ∷ v.0,
      v.1,
      v.2,
      ap (λ u. c ∷ u) v.3,
      omega (arith, m.2, v.4),
      the.other (plain 42 47 t) (plain 47 42 f) v.5,
      v.6,
    )))

pub comment_end-rest : (s : List ℕ) (n : ℕ) → comment_end s ≡ Some n → IsCommentRest (take n s)
comment_end-rest s n e = let v = are-rests 1 s n e in
    subst IsCommentRest (sym (ap (take n) v.3 ∙ take_at v.0 v.1 n (omega (arith, v.4, v.6)))) v.5
