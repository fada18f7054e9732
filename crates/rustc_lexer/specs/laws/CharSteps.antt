-- The length in bytes after one more character.
use Rattle.std.proofs.Common.{◌≡◌, ℕ, suc, ◌+◌, List, ◌∷◌, length, take, drop, ap, ◌∙◌, length-append}
use Rattle.std.proofs.Math.Seq.{take-add}
use Rattle.std.specs.{Char.{encode_utf8}, Str.{encode_utf8_all}}
use Rattle.std.proofs.lemmas.Str.{encodes-append}
use Rattle.rustc_lexer.specs.model.Scan.{bytes_of}

pub bytes_of-suc : (n c : ℕ) (cs : List ℕ) → bytes_of (suc n) (c ∷ cs) ≡ length (encode_utf8 c) + bytes_of n cs
bytes_of-suc n c cs = length-append (encode_utf8 c) (encode_utf8_all (take n cs))

pub bytes_of-add : (k m : ℕ) (s : List ℕ) → bytes_of (k + m) s ≡ bytes_of k s + bytes_of m (drop k s)
bytes_of-add k m s = ap (λ (t : List ℕ). length (encode_utf8_all t)) (take-add k m s)
    ∙ (ap length (encodes-append (take k s) (take m (drop k s)))
    ∙ length-append (encode_utf8_all (take k s)) (encode_utf8_all (take m (drop k s))))
