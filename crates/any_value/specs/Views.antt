-- What the code's values are to the definitions of `schema`.
use Rattle.std.specs.Prelude.{◌≡◌, true}
use Rattle.std.specs.Str.{is_utf8}
use Rattle.schema.specs.AnyValue as any
use Rattle.schema.specs.AnyValue.{AnyValue}
use Rattle.schema.specs.Messages.{key_value}
use Rattle.schema.specs.Shape as shape
use Rattle.schema.specs.Typed.{IsTypedAny}
use Rattle.any_value.specs.declared.value.Value.{Value}
use Rattle.any_value.specs.declared.value.Value.TheVariants as value
use Rattle.any_value.specs.declared.value.KeyValue.{KeyValue}

abbrev pub any_view : Value → AnyValue
any_view value.Empty = AnyValue.Empty
any_view (value.Text b) = AnyValue.Text b
any_view (value.Flag x) = AnyValue.Flag x
any_view (value.Int z) = AnyValue.Int z
any_view (value.Double b) = AnyValue.Double b
any_view (value.Items vs) = any.items vs
any_view (value.Pairs kvs) = any.pairs kvs
any_view (value.Raw b) = AnyValue.Raw b

abbrev pub pair_view : KeyValue → any.KeyValue
pair_view kv = (kv.key, any_view kv.value)

-- a key and its value as a message: an attribute, whose value has depth 1
abbrev pub attribute_view : KeyValue → shape.Value (key_value 1)
attribute_view kv = (kv.key, (any_view kv.value, tt))

-- the key is UTF-8, and the value is one of a program's types
abbrev pub IsPairTyped : KeyValue → Type 0
IsPairTyped kv = (is_utf8 kv.key ≡ true) × IsTypedAny (any_view kv.value)
