-- An AnyValue as words of a line.
use Rattle.std.specs.Prelude.{ℕ, List, [], ◌++◌, codes, if◌then◌else◌}
use Rattle.std.specs.Fmt.{signed_decimal}
use Rattle.schema.specs.AnyValue.{AnyValue, Values, NoValues, AddValue, KeyValues, NoPairs, AddPair}
use Rattle.shown.specs.Quoted.{hex_text, quoted}

-- The name of the member that is set, and what it holds. The eight bytes of a double are as they are stored.
abbrev mutual
  pub any_shown : AnyValue → List ℕ
  any_shown AnyValue.Empty = codes "empty"
  any_shown (AnyValue.Text b) = codes "text " ++ quoted b
  any_shown (AnyValue.Flag x) = if x then codes "flag true" else codes "flag false"
  any_shown (AnyValue.Int z) = codes "int " ++ signed_decimal z
  any_shown (AnyValue.Double b) = codes "double " ++ hex_text b
  any_shown (AnyValue.Items vs) = codes "items [" ++ (values_shown vs ++ codes "]")
  any_shown (AnyValue.Pairs kvs) = codes "pairs {" ++ (pairs_shown kvs ++ codes "}")
  any_shown (AnyValue.Raw b) = codes "bytes " ++ hex_text b

  -- elements, and those after a first one, each behind a comma and a space
  pub values_shown : Values → List ℕ
  values_shown NoValues = []
  values_shown (AddValue v vs) = any_shown v ++ more_values_shown vs

  pub more_values_shown : Values → List ℕ
  more_values_shown NoValues = []
  more_values_shown (AddValue v vs) = codes ", " ++ (any_shown v ++ more_values_shown vs)

  -- keys and values, and those after a first one
  pub pairs_shown : KeyValues → List ℕ
  pairs_shown NoPairs = []
  pairs_shown (AddPair k v kvs) = quoted k ++ (codes ": " ++ (any_shown v ++ more_pairs_shown kvs))

  pub more_pairs_shown : KeyValues → List ℕ
  more_pairs_shown NoPairs = []
  more_pairs_shown (AddPair k v kvs) = codes ", " ++ (quoted k ++ (codes ": " ++ (any_shown v ++ more_pairs_shown kvs)))
