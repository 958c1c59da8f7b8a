-- The files that are told: a map of names to bytes.
use Rattle.std.specs.Prelude.{◌≡◌, ◌≢◌, ◌≤◌, ◌+◌, ℕ, List, length, if◌then◌else◌, nat_lt, Option, Some, None}
use Rattle.std.specs.Ordering.{nat_cmp}
use Rattle.std.specs.Cmp.Lexicographic.{slice_cmp}
use Rattle.std.specs.FinMap.{FinMap, get, insert}
use Rattle.outside.specs.declared.files.Got.{Got}
use Rattle.outside.specs.declared.files.Got.TheVariants.{Whole, Long, Missing}

abbrev pub FileMap : Type 0
FileMap = FinMap (slice_cmp nat_cmp) (List ℕ)

-- what a read with this limit finds of these bytes, or of no file
abbrev pub found : Option (List ℕ) → ℕ → Got
found None limit = Missing
found (Some bytes) limit = if nat_lt limit (length bytes) then Long (limit + 1) else Whole bytes

-- what a read with this limit finds under a name
abbrev pub got_of : FileMap → List ℕ → ℕ → Got
got_of m name limit = found (get m name) limit

-- whole bytes are at most the limit, and a long file has at least one more
abbrev pub IsWithinLimit : ℕ → Got → Type 0
IsWithinLimit limit (Whole bytes) = length bytes ≤ limit
IsWithinLimit limit (Long at_least) = at_least ≡ limit + 1
IsWithinLimit limit Missing = Unit {0}

-- the map with these bytes under the name, where a map is told
abbrev pub with_file : List ℕ → List ℕ → Option FileMap → Option FileMap
with_file name bytes None = None
with_file name bytes (Some m) = Some (insert m name bytes)

-- the maps agree at every other name, and one is told exactly where the other is
abbrev pub SameBut : List ℕ → Option FileMap → Option FileMap → Type 0
SameBut name None None = Unit {0}
SameBut name (Some m) (Some n) = (q : List ℕ) → q ≢ name → get n q ≡ get m q
SameBut name None (Some n) = ⊥
SameBut name (Some m) None = ⊥
