use Rattle.std.proofs.Common.{arith, length-append, ◌≡◌, ◌++◌, length, sym, ap, ◌∙◌}
use Rattle.std.proofs.lemmas.Str.{chars_past_char, length-encode, len_utf8_bounds, IsUtf8-past_char}
use Rattle.rustc_literal_escaper.proofs.scan.split_first.Goals as goal
use Rattle.std.specs.Char.{encode_utf8}

pub returns : goal.returns
returns c =
    let text : c.args.rest.now ≡ encode_utf8 c.in_ok-first.first ++ c.as_str.result.now =
    sym c.chars-chars.ensures.rest
    ∙ (c.in_ok-first.ensures.steps.0 ∙ ap (λ xs. encode_utf8 c.in_ok-first.first ++ xs) (sym c.as_str.ensures)) in (
      chars_past_char _ _ _ c.utf8.rest text,
      omega (
        arith,
        ap length text,
        length-append (encode_utf8 c.in_ok-first.first) c.as_str.result.now,
        length-encode c.in_ok-first.first,
        len_utf8_bounds c.in_ok-first.first,
      ),
      IsUtf8-past_char _ _ _ c.utf8.rest text,
    )
