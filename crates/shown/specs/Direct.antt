-- What a value means, as a value without indexes.
use Rattle.std.specs.Prelude.{map}
use Rattle.schema.specs.Shape.{Shape, Number, Fixed, Bytes, Text, Any, Index, End, One, Many, Value}
use Rattle.meaning.specs.Tree.{Integer, value}
use Rattle.meaning.specs.Tables.{Tables}
use Rattle.meaning.specs.Meaning.{entry_at, resolve}

-- the shape of what a value means: it has the entry where the value has an index
abbrev pub direct : Shape → Shape
direct (Index T k) = direct k
direct (One n k rest) = One n (direct k) (direct rest)
direct (Many n k rest) = Many n (direct k) (direct rest)
direct s = s

-- the value with what its entry means in place of each index
abbrev pub meant : Tables → (s : Shape) → Value s → Value (direct s)
meant d (Number w) v = v
meant d Fixed v = v
meant d Bytes v = v
meant d Text v = v
meant d (Any depth) v = v
meant d (Index T k) i = value (direct k) (resolve d k (entry_at (d T) k (Integer i)))
meant d End v = v
meant d (One n k rest) v = (meant d k v.0, meant d rest v.1)
meant d (Many n k rest) v = (map (meant d k) v.0, meant d rest v.1)
