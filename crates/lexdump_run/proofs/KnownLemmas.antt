-- Lemmas about the known bytes of readers and writers, for loops.
use Rattle.std.proofs.Common.{◌≡◌, ℕ, ◌+◌, ◌-◌, List, [], ◌++◌, length, take, drop, refl, arith, append_assoc}
use Rattle.std.proofs.Common.{append-nil, length-append, take-append-drop, take_at, length-drop, take_all, Option, Result, OnErr}
use Rattle.std.proofs.lemmas.Grind.{common_steps}
use Rattle.std.specs.Io.KnownBytes.{Appends, Keeps}
use Rattle.std.proofs.{Math.Seq.{take-append-add}, lemmas.List.{take-append-le}}
use Rattle.lexdump_run.specs.Known.{AppendsFront, Went}

pub keeps_same : (old : Option (List ℕ)) → Keeps old old
keeps_same old = grind (arith, common_steps)

pub appends-none : (old : Option (List ℕ)) → Appends old old []
appends-none old = grind (arith, common_steps, append-nil)

pub appends-more : (old mid new : Option (List ℕ)) (xs ys : List ℕ) → Appends old mid xs → Appends mid new ys
    → Appends old new (xs ++ ys)
appends-more old mid new xs ys a b = grind (arith, common_steps, append_assoc)

pub appends-kept : (old mid new : Option (List ℕ)) (xs : List ℕ) → Appends old mid xs → Keeps mid new
    → Appends old new xs
appends-kept old mid new xs a b = grind (arith, common_steps)

pub went_more : (old mid new : Option (List ℕ)) (text rest cut : List ℕ) (n : ℕ) → Went old mid text rest
    → Appends mid new (take n rest) → cut ≡ drop n rest → Went old new text cut
went_more old mid new text rest cut n w a e =
    record {
      front = w.front ++ take n rest;
      whole = grind (arith, common_steps, take-append-drop, append_assoc);
      grew = appends-more old mid new w.front (take n rest) w.grew a;
    }

pub went_kept : (old mid new : Option (List ℕ)) (text rest : List ℕ) → Went old mid text rest → Keeps mid new
    → Went old new text rest
went_kept old mid new text rest w k = grind (arith, common_steps, appends-kept)

pub went_front : (old new : Option (List ℕ)) (text rest : List ℕ) → Went old new text rest → AppendsFront old new text
went_front old new text rest w =
    (length w.front, grind (arith, common_steps, length-append), grind (arith, common_steps, take_at))

-- If two texts were appended, so was a prefix of both joined.
pub front_kept : (old mid late new : Option (List ℕ)) (xs ys text : List ℕ) → xs ++ ys ≡ text → Appends old mid xs
    → Appends mid late ys → Keeps late new → AppendsFront old new text
front_kept old mid late new xs ys text e a b k =
    (length text, grind (arith, common_steps), grind (arith, common_steps, take_all, appends-more))

pub on_err : {T E P : Type 0} (result : Result T E) → P → OnErr result P
on_err result p = grind (arith, common_steps)

-- The slice of a text after its first n bytes, up to its end, is the text without these bytes.
pub cut_past : (n : ℕ) (rest : List ℕ) → take (length rest - n) (drop n rest) ≡ drop n rest
cut_past n rest = grind (arith, common_steps, length-drop, take_all)

-- If a prefix of a text was appended, so was a prefix of each text that continues it.
pub front_first : (old new : Option (List ℕ)) (xs ys text : List ℕ) → xs ++ ys ≡ text → AppendsFront old new xs
    → AppendsFront old new text
front_first old new xs ys text e f = grind (arith, common_steps, length-append, take-append-le)

-- If a text and then a prefix of another text were appended, so was a prefix of both joined.
pub front_more : (old mid new : Option (List ℕ)) (xs ys text : List ℕ) → xs ++ ys ≡ text → Appends old mid xs
    → AppendsFront mid new ys → AppendsFront old new text
front_more old mid new xs ys text e a f = (
  length xs + f.0,
  grind (arith, common_steps, length-append),
  grind (arith, common_steps, take-append-add, appends-more),
)

-- If two texts and then a prefix of a third were appended, so was a prefix of all three joined.
pub front_last : (old mid late new : Option (List ℕ)) (xs ys zs text : List ℕ) → xs ++ (ys ++ zs) ≡ text
    → Appends old mid xs → Appends mid late ys → AppendsFront late new zs → AppendsFront old new text
front_last old mid late new xs ys zs text e a b f =
    front_more old mid new xs (ys ++ zs) text e a (front_more mid late new ys zs (ys ++ zs) refl b f)
