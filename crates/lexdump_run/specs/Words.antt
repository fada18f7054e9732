-- The arguments of the command line.
use Rattle.std.specs.Prelude.{ℕ, List, Option, drop, map, string_bytes}
use Rattle.std.specs.Option.{option_map}
use Rattle.std.specs.Global.{Global}
use Rattle.std.specs.Vec.Iter.{into_iter_items}
use Rattle.std.specs.declared.string.String.{String}
use Rattle.std.specs.declared.vec.IntoIter.{IntoIter}

-- The words of a program are the arguments after its name, or `None` if the arguments could not be read.
abbrev pub words_of : Option (IntoIter (String Global) Global) → Option (List (List ℕ))
words_of args = option_map (λ words. map string_bytes (drop 1 (into_iter_items words))) args
