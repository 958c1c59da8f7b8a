-- Each value is larger than those in it.
use Rattle.std.specs.Prelude.{◌+◌, ◌≤◌, List, [], ◌∷◌, map}
use Rattle.std.proofs.Common.{arith}
use denote.Param.Weighed.{most}
use Rattle.any_value.specs.declared.value.Value.{Value}
use Rattle.any_value.specs.declared.value.Value.TheVariants as value
use Rattle.any_value.specs.declared.value.KeyValue.{KeyValue}
use Rattle.any_value.specs.declared.value.KeyValues.TheDeep.{deep-Value, deep-KeyValue}
use Rattle.any_value.specs.Sizes.{any_size, list_size, pair_list_size}
use Rattle.any_value.specs.Views.{any_view, pair_view}

value_falls : (v : Value) → deep-Value v ≤ any_size (any_view v) + 1
value_falls value.Empty = omega arith
value_falls (value.Text b) = omega arith
value_falls (value.Flag x) = omega arith
value_falls (value.Int z) = omega arith
value_falls (value.Double b) = omega arith
value_falls (value.Items vs) = omega arith
value_falls (value.Pairs kvs) = omega arith
value_falls (value.Raw b) = omega arith

pub values_fall : (vs : List Value) → most deep-Value vs ≤ list_size (map any_view vs)
values_fall [] = omega arith
values_fall (v ∷ vs) = omega (arith, values_fall vs, value_falls v)

pub pairs_fall : (kvs : List KeyValue) → most deep-KeyValue kvs ≤ pair_list_size (map pair_view kvs)
pairs_fall [] = omega arith
pairs_fall (kv ∷ kvs) = omega (arith, pairs_fall kvs, value_falls kv.value)
