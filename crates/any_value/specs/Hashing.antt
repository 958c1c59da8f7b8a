-- What a value feeds a hasher: its form, and then what it holds. Before each element of a list comes a 1, and after the last a 0.
use Rattle.std.specs.Prelude.{◌≡◌, ℕ, List, ◌++◌, true}
use Rattle.std.proofs.Common.{ap}
use Rattle.std.specs.Hash as fed
use Rattle.std.specs.Hash.{HashWrites}
use Rattle.schema.specs.AnyValue.{AnyValue, Values, NoValues, AddValue, KeyValues, NoPairs, AddPair}
use Rattle.any_value.specs.declared.value.Value.{Value}
use Rattle.any_value.specs.Equal.{any_eq, any_same}
use Rattle.any_value.specs.Views.{any_view}

abbrev pub bytes_writes : List ℕ → HashWrites
bytes_writes b = fed.slice fed.u8 b

abbrev mutual
  pub any_writes : AnyValue → HashWrites
  any_writes AnyValue.Empty = fed.u8 0
  any_writes (AnyValue.Text b) = fed.u8 1 ++ bytes_writes b
  any_writes (AnyValue.Flag x) = fed.u8 2 ++ fed.bool x
  any_writes (AnyValue.Int z) = fed.u8 3 ++ fed.i64 z
  any_writes (AnyValue.Double b) = fed.u8 4 ++ bytes_writes b
  any_writes (AnyValue.Items vs) = fed.u8 5 ++ values_writes vs
  any_writes (AnyValue.Pairs kvs) = fed.u8 6 ++ pairs_writes kvs
  any_writes (AnyValue.Raw b) = fed.u8 7 ++ bytes_writes b

  pub values_writes : Values → HashWrites
  values_writes NoValues = fed.u8 0
  values_writes (AddValue v vs) = (fed.u8 1 ++ any_writes v) ++ values_writes vs

  pub pairs_writes : KeyValues → HashWrites
  pairs_writes NoPairs = fed.u8 0
  pairs_writes (AddPair k v kvs) = ((fed.u8 1 ++ bytes_writes k) ++ any_writes v) ++ pairs_writes kvs

-- values that are the same feed the same
pub same_writes : (a b : Value) → any_eq (any_view a) (any_view b) ≡ true → any_writes (any_view a) ≡ any_writes (any_view b)
same_writes a b e = ap any_writes (any_same (any_view a) (any_view b) e)
