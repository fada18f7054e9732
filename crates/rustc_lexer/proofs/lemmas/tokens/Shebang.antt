-- Shebang lines: the front of a text, and its first line.
use Rattle.std.proofs.Common.{◌≡◌, ◌≢◌, ℕ, zero, suc, ◌+◌, ◌-◌, ◌<◌, ◌≤◌, true, false, List, []}
use Rattle.std.proofs.Common.{◌∷◌, length, take, drop, get_or, codes, length-append, length-take-le, take-append-drop}
use Rattle.std.proofs.Common.{refl, sym, ap, arith, Some, None}
use Rattle.std.proofs.Common.{inl, inr, ◌==◌, ◌++◌}
use Rattle.std.specs.{Char.{encode_utf8}, Str.{IsCharBoundary, IsUtf8, chars, encode_utf8_all}}
use Rattle.std.proofs.Math.Seq.{drop-cons, drop-length, get_or-append_seam}
use Rattle.std.proofs.lemmas.Bool.{cases_Bool, eqb-true, ne_eqb}
use Rattle.std.proofs.lemmas.{List.{get_or-take}, Grind.{common_steps}}
use Rattle.std.proofs.lemmas.Str.{IsCharBoundary-past_char, IsCharBoundary-start, encodes-chars}
use Rattle.rustc_lexer.specs.Document.{byte_order_mark_len}
use Rattle.rustc_lexer.specs.{Classes.{AreAll, is_inline}, model.Scan.{begins}}
use Rattle.rustc_lexer.specs.model.Shebang.{is_attribute, line_len, shebang_past, read_shebang}
use Rattle.rustc_lexer.specs.{LanguageText.{part, newest}, Tokens.{tokens_of}}
use Rattle.rustc_lexer.specs.{LanguageCalls.{IsLineBefore, to_end, to_newline, to_return}, laws.Fences.{begins-whole}}
use Rattle.rustc_lexer.specs.laws.LanguageShebang.{line-read}

pub no_shebang : (s : List ℕ) → ((rest : List ℕ) → s ≢ 35 ∷ 33 ∷ rest) → None ≡ read_shebang s
unfolding read_shebang
no_shebang s lacks = grind (arith, common_steps, begins-whole (codes "#!") s)

module _ (s tail : List ℕ) (n : ℕ) (two : n ≡ 2) (front : s ≡ 35 ∷ 33 ∷ drop n s) (cut : tail ≡ drop n s) where
  past_front : read_shebang s ≡ shebang_past tail
  unfolding read_shebang
  past_front = grind (arith, common_steps)

  pub attribute_here : is_attribute (tokens_of (part newest) tail) ≡ true → None ≡ read_shebang s
  attribute_here e = rw (past_front, e) refl

  pub line_here : (len : ℕ) → is_attribute (tokens_of (part newest) tail) ≡ false → len ≡ line_len tail
      → Some (2 + len) ≡ read_shebang s
  line_here len e f = rw (past_front, e, f) refl

-- The characters before the first newline are a line.
inline : (text : List ℕ) (k : ℕ) → ((i : ℕ) → i < k → get_or text i 0 ≢ 10) → AreAll is_inline (take k text)
inline text zero none = refl
inline [] (suc k) none = refl
inline (c ∷ s) (suc k) none =
    rw (ne_eqb c 10 (none 0 (omega arith)), inline s k (λ i lt. none (suc i) (omega arith))) refl

module _ (text : List ℕ) where
  line_is : (k : ℕ) → k ≤ length text → IsLineBefore (drop k text) (take k text) → k ≡ line_len text
  line_is k le is = cc (take-append-drop k text, line-read is, length-take-le k text le)

  -- A text without a newline is one line.
  pub no_newline : ((i : ℕ) → i < length text → get_or text i 0 ≢ 10) → length text ≡ line_len text
  no_newline none = line_is (length text) (omega arith) (to_end (inline text (length text) none) (drop-length text))

  -- The first newline is at offset k.
  module _ (k : ℕ) (inside : k < length text) (newline : get_or text k 0 ≡ 10)
      (first : (i : ℕ) → i < k → get_or text i 0 ≢ 10) where
    there : drop k text ≡ 10 ∷ drop (suc k) text
    there = rw newline at (drop-cons text k 0 inside)

    pub with_return : 0 < k → get_or text (k - 1) 0 ≡ 13 → k - 1 ≡ line_len text
    with_return some e =
        line_is (k - 1) (omega arith) (to_return (inline text (k - 1) (λ i lt. first i (omega arith)))
        (grind (arith, common_steps, drop-cons text (k - 1) 0 (omega arith), there)))

    pub without_return : (0 < k → get_or text (k - 1) 0 ≢ 13) → k ≡ line_len text
    without_return free =
        line_is k (omega arith) (to_newline (inline text k first) (ap (begins (codes "\n")) there) (λ u e.
        let long : k ≡ length u + 1 =
        omega (
          arith,
          ap (λ (xs : List ℕ). length xs) e,
          length-take-le k text (omega arith),
          length-append u (13 ∷ []),
        ) in
        grind (arith, common_steps, get_or-take k text (k - 1) 0 (omega arith), get_or-append_seam u 13 [] 0, free)))

-- The end of the byte order mark of a document is a char boundary.
pub mark_boundary : (text : List ℕ) → IsUtf8 text → IsCharBoundary text (byte_order_mark_len text)
mark_boundary text utf8 = by_chars (chars text) refl
  where
    by_chars : (cs : List ℕ) → chars text ≡ cs → IsCharBoundary text (byte_order_mark_len text)
    by_chars [] e = rw e (IsCharBoundary-start text utf8)
    by_chars (c ∷ cs) e = elim (cases_Bool (c == 0xFEFF)) [
      | inl mark ↦
          let all : text ≡ encode_utf8 c ++ encode_utf8_all cs = sym (rw e at (encodes-chars text utf8)) in
          rw (e, mark) (rw (eqb-true c 0xFEFF mark) at
          (IsCharBoundary-past_char text (encode_utf8_all cs) 0 c (omega arith) utf8 all))
      | inr other ↦ rw (e, other) (IsCharBoundary-start text utf8)
    ]

pub ruleset shebang_lemmas = (no_shebang, attribute_here, line_here)

pub ruleset boundary_lemmas = (IsCharBoundary-start)
