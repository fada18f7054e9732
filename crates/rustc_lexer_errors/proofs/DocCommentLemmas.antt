-- What the tests of a text for a prefix and a suffix say.
use Rattle.std.proofs.Common.{◌≡◌, ℕ, ◌-◌, ◌≤◌, Bool, true, false, List, length, None, sym, true≢false, arith}
use Rattle.std.proofs.Common.{IsCharBoundary}
use Rattle.std.specs.Bool.{MatchBool}
use Rattle.std.specs.Str.Pattern.{FindsTextPrefix, FindsTextSuffix, HasPrefixMatch, HasSuffixMatch}
use Rattle.std.proofs.lemmas.Str.Pattern.{ends_text, starts_text}
use Rattle.std.proofs.lemmas.Grind.{common_steps}

pub prefix_at : (r : Bool) (n s : List ℕ)
    → MatchBool r (HasPrefixMatch (FindsTextPrefix n) s) (FindsTextPrefix n s None) → r ≡ true
    → IsCharBoundary s (length n)
prefix_at true n s found is = found.1.2
prefix_at false n s found is = absurd (true≢false (sym is))

pub suffix_at : (r : Bool) (n s : List ℕ)
    → MatchBool r (HasSuffixMatch (FindsTextSuffix n) s) (FindsTextSuffix n s None) → r ≡ true
    → IsCharBoundary s (length s - length n)
suffix_at true n s found is = found.1.2
suffix_at false n s found is = absurd (true≢false (sym is))

pub ruleset pattern_lemmas = (starts_text, ends_text, prefix_at, suffix_at, common_steps)
