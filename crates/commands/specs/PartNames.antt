-- The names of the files that `split` writes.
use Rattle.std.specs.Prelude.{ℕ, List, map, ◌++◌, codes}
use Rattle.std.specs.Fmt.{decimal}
use Rattle.std.specs.List.{range_with_len}

-- the name of the part at a place, from 0
abbrev pub part_name : List ℕ → ℕ → List ℕ
part_name prefix place = prefix ++ (codes "." ++ (decimal place ++ codes ".otlp"))

-- the names of the first parts, so many of them
abbrev pub part_names : List ℕ → ℕ → List (List ℕ)
part_names prefix count = map (part_name prefix) (range_with_len 0 count)
