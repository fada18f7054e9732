use Rattle.std.proofs.Common.{◌≡◌, ◌-◌, arith}
use Rattle.rustc_lexer_highlight.proofs.ScreenLemmas.{some_left, splits}
use Rattle.rustc_lexer_highlight.proofs.screen.split_replaceable.Goals as goal

pub returns-in_err-c : goal.returns-in_err-c
returns-in_err-c c =
    let found = rw c.as_bytes.ensures.value at c.in_ok-at.ensures in
    absurd (some_left _ _ _ c.range_from.utf8 found c.range_from.ensures.value c.in_err-c.ensures)

pub returns : goal.returns
returns c =
    let found = rw c.as_bytes.ensures.value at c.in_ok-at.ensures in
    let all : c.in_ok-at.at - 0 ≡ c.in_ok-at.at = omega arith in
    let front = rw all at c.range.ensures.value in
    let parts = splits _ _ _ _ _ _ c.utf8.text found front c.range_from.ensures.value
    c.in_ok-c.ensures.0 c.in_ok-c.ensures.1 in
    (parts.0, parts.1, parts.2, c.range.utf8, c.in_ok-c.ensures.2)
