-- The contents of a list after the items between its front and its back were replaced.
use Rattle.std.proofs.Common.{◌≡◌, ℕ, ◌+◌, ◌-◌, ◌≤◌, List, ◌++◌, length, take, drop, ap, ◌∙◌, arith, length-drop}
use Rattle.std.proofs.lemmas.List.{drop-take, length-take-le, take-append-le, take-take, Edits.{take-paste}}
use Rattle.std.proofs.Math.Seq.{drop-append_seam, paste, take-append-add}

module _ {X : Type 0} (xs ys : List X) (front back count : ℕ) (apart : front + back ≤ count)
    (inside : count ≤ length xs) (room : front + length ys + back ≤ length xs) where
  abbrev end : ℕ
  end = front + length ys

  -- Returns the back of the old list.
  abbrev last : List X
  last = take back (drop (count - back) xs)

  abbrev moved : List X
  moved = paste xs end (drop (count - back) xs) back

  last_of : drop (count - back) (take count xs) ≡ last
  last_of = let all : count ≡ count - back + back = omega arith in
      ap (λ n. drop (count - back) (take n xs)) all ∙ drop-take (count - back) back xs

  many : back ≤ length (drop (count - back) xs)
  many = omega (arith, length-drop (count - back) xs)

  moved_is : take (end + back) moved ≡ take end xs ++ last
  moved_is = take-paste xs end (drop (count - back) xs) back (omega arith) many

  end_fits : length (take end xs) ≡ end
  end_fits = length-take-le end xs (omega arith)

  front_of : take front moved ≡ take front xs
  front_of =
      cc (
        take-take front (end + back) moved (omega arith),
        moved_is,
        take-append-le front (take end xs) last (omega (arith, end_fits)),
        take-take front end xs (omega arith),
      )

  back_of : take back (drop end moved) ≡ last
  back_of = cc (drop-take end back moved, moved_is, end_fits, drop-append_seam (take end xs) last)

  front_fits : length (take front moved) ≡ front
  front_fits = rw front_of (length-take-le front xs (omega arith))

  pub put_between : (now filled : List X) → now ≡ paste xs end (drop (count - back) xs) (count - (count - back))
      → filled ≡ take front now ++ (ys ++ drop end now)
      → take (end + back) filled ≡ take front (take count xs) ++ (ys ++ drop (count - back) (take count xs))
  put_between now filled copied put =
      let long : count - (count - back) ≡ back = omega arith in
      let same : now ≡ moved = copied ∙ ap (λ n. paste xs end (drop (count - back) xs) n) long in
      let rest : List X = ys ++ drop end moved in
      let sum : end + back ≡ length (take front moved) + (length ys + back) = omega (arith, front_fits) in
      cc (
        take-append-add (take front moved) rest (length ys + back),
        take-append-add ys (drop end moved) back,
        back_of,
        last_of,
        front_of,
        take-take front count xs (omega arith),
      )
