-- Reading the characters of a text one by one.
use Rattle.std.proofs.Common.{◌≡◌, ◌≤◌, ℕ, [], ◌∷◌, length, length-append, Option, Some, None, MatchOption, ap, ◌∙◌}
use Rattle.std.proofs.Common.{arith}
use Rattle.std.specs.{Char.{encode_utf8}, Str.{chars, IsUtf8, Iter.{chars_rest, chars_steps}}}
use Rattle.std.specs.declared.str.Chars.{Chars}
use Rattle.std.proofs.lemmas.{List.{nil_from_length}, Str.{chars-nil, chars_past_char, IsUtf8-past_char}}

pub next_left : (s t : Chars) (r : Option ℕ) → IsUtf8 (chars_rest s) → chars_steps s r t
    → IsUtf8 (chars_rest t) × (length (chars_rest t) ≤ length (chars_rest s))
    × MatchOption r ((chars (chars_rest s) ≡ []) × (chars (chars_rest t) ≡ []))
    (λ c. chars (chars_rest s) ≡ c ∷ chars (chars_rest t))
next_left s t None is steps =
    let same : chars_rest t ≡ chars_rest s = ap chars_rest steps.0.1 in
    let none : chars (chars_rest s) ≡ [] = ap chars (nil_from_length (chars_rest s) steps.0.0) ∙ chars-nil in
    (rw same is, rw same (omega arith), (none, ap chars same ∙ none))
next_left s t (Some c) is steps = (
  IsUtf8-past_char _ _ _ is steps.0,
  omega (arith, ap length steps.0, length-append (encode_utf8 c) (chars_rest t)),
  chars_past_char _ _ _ is steps.0,
)
