-- Small AnyValues that compute: what is read of their payloads, and how they are spelled.
use Rattle.std.specs.Prelude.{◌≡◌, ℕ, zero, suc, pos, List, [], ◌∷◌, length, true, false, Result, Ok, Err, refl}
use Rattle.schema.specs.Fault.{TooDeep, Fault, fault_at}
use Rattle.schema.specs.Run.{run}
use Rattle.schema.specs.Decoding.{varint_at, payload_at, field_at, trace_upto}
use Rattle.schema.specs.Texts.{varint_upto, long_field, bytes_field}
use Rattle.schema.specs.AnyValue.{AnyValue, items, pairs}
use Rattle.schema.specs.AnyMerge.{merge_any}
use Rattle.schema.specs.AnySpell.{any_text}

-- what is read of a payload that begins at 0, with so many levels left
abbrev read : ℕ → List ℕ → Result AnyValue Fault
read left bytes = merge_any left 0 (length bytes) bytes AnyValue.Empty

-- ---- members

-- no field is nothing
nothing : read 64 [] ≡ Ok AnyValue.Empty
unfolding merge_any run trace_upto
nothing = refl

-- empty bytes are bytes, and not nothing
empty_bytes : read 64 (58 ∷ 0 ∷ []) ≡ Ok (AnyValue.Raw [])
unfolding merge_any run trace_upto field_at payload_at varint_at
empty_bytes = refl

-- bytes, and then an integer: the last member is the value
last_member : read 64 (58 ∷ 1 ∷ 97 ∷ 24 ∷ 5 ∷ []) ≡ Ok (AnyValue.Int (pos 5))
unfolding merge_any run trace_upto field_at payload_at varint_at
last_member = refl

-- ---- runs

-- two lists are one
two_lists : read 64 (42 ∷ 2 ∷ 10 ∷ 0 ∷ 42 ∷ 4 ∷ 10 ∷ 2 ∷ 16 ∷ 1 ∷ []) ≡ Ok (items (AnyValue.Empty ∷ AnyValue.Flag true ∷ []))
unfolding merge_any run trace_upto field_at payload_at varint_at
two_lists = refl

-- also with a field between them that is unknown, or of a wire type that does not fit
skipped_between : read 64 (42 ∷ 2 ∷ 10 ∷ 0 ∷ 120 ∷ 1 ∷ 26 ∷ 0 ∷ 42 ∷ 2 ∷ 10 ∷ 0 ∷ []) ≡ Ok (items (AnyValue.Empty ∷ AnyValue.Empty ∷ []))
unfolding merge_any run trace_upto field_at payload_at varint_at
skipped_between = refl

-- but not with another member between them
member_between : read 64 (42 ∷ 2 ∷ 10 ∷ 0 ∷ 24 ∷ 5 ∷ 42 ∷ 2 ∷ 10 ∷ 0 ∷ []) ≡ Ok (items (AnyValue.Empty ∷ []))
unfolding merge_any run trace_upto field_at payload_at varint_at
member_between = refl

-- a value that comes twice after its key is that of the joined payloads, and a key without a value has `Empty`
keys : read 64 (50 ∷ 18 ∷ 10 ∷ 14 ∷ 18 ∷ 4 ∷ 42 ∷ 2 ∷ 10 ∷ 0 ∷ 18 ∷ 6 ∷ 42 ∷ 4 ∷ 10 ∷ 2 ∷ 16 ∷ 1 ∷ 10 ∷ 0 ∷ [])
    ≡ Ok (pairs (([], items (AnyValue.Empty ∷ AnyValue.Flag true ∷ [])) ∷ ([], AnyValue.Empty) ∷ []))
unfolding merge_any run trace_upto field_at payload_at varint_at
keys = refl

-- ---- faults

-- with one level left no element may be written, also no empty one
too_deep : read 1 (42 ∷ 2 ∷ 10 ∷ 0 ∷ []) ≡ Err (fault_at 2 TooDeep)
unfolding merge_any run trace_upto field_at payload_at varint_at
too_deep = refl

-- nor an empty value after a key
value_too_deep : read 1 (50 ∷ 4 ∷ 10 ∷ 2 ∷ 18 ∷ 0 ∷ []) ≡ Err (fault_at 4 TooDeep)
unfolding merge_any run trace_upto field_at payload_at varint_at
value_too_deep = refl

-- but a key without a value may
no_value : read 1 (50 ∷ 2 ∷ 10 ∷ 0 ∷ []) ≡ Ok (pairs (([], AnyValue.Empty) ∷ []))
unfolding merge_any run trace_upto field_at payload_at varint_at
no_value = refl

-- lists in one another
abbrev nested : ℕ → AnyValue
nested zero = AnyValue.Empty
nested (suc n) = items (nested n ∷ [])

-- 64 of them are read
deep : read 64 (any_text (nested 63)) ≡ Ok (nested 63)
unfolding merge_any run trace_upto field_at payload_at varint_at varint_upto long_field
deep = refl

-- and 65 are too deep
deeper : read 64 (any_text (nested 64)) ≡ Err (fault_at 318 TooDeep)
unfolding merge_any run trace_upto field_at payload_at varint_at varint_upto long_field
deeper = refl

-- ---- spellings

-- a member that is set is written, also where it holds a default, and each element is
written : any_text (items (AnyValue.Empty ∷ AnyValue.Text [] ∷ AnyValue.Flag false ∷ AnyValue.Int (pos 0) ∷ AnyValue.Raw [] ∷ items [] ∷ []))
    ≡ 42 ∷ 22 ∷ 10 ∷ 0 ∷ 10 ∷ 2 ∷ 10 ∷ 0 ∷ 10 ∷ 2 ∷ 16 ∷ 0 ∷ 10 ∷ 2 ∷ 24 ∷ 0 ∷ 10 ∷ 2 ∷ 58 ∷ 0 ∷ 10 ∷ 2 ∷ 42 ∷ 0 ∷ []
unfolding varint_upto long_field
written = refl

-- an empty key and an empty value are left out
left_out : any_text (pairs (([], AnyValue.Empty) ∷ (107 ∷ [], AnyValue.Text []) ∷ [])) ≡ 50 ∷ 11 ∷ 10 ∷ 0 ∷ 10 ∷ 7 ∷ 10 ∷ 1 ∷ 107 ∷ 18 ∷ 2 ∷ 10 ∷ 0 ∷ []
unfolding varint_upto long_field bytes_field
left_out = refl
