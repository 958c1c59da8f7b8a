-- Reading an AnyValue: one fold over its members, which goes on from a value so far, with a number of levels left. Its Ok is
-- the value and its Err the first fault; both are laws, against the relations of `AnyRead` and `AnyFaults`.
use Rattle.std.specs.Prelude.{ℕ, zero, suc, ◌-◌, List, [], ◌∷◌, ◌++◌, Option, Some, None, Result, Ok, Err, ◌==◌, if◌then◌else◌}
use Rattle.schema.specs.Field.{Payload, Long, Field}
use Rattle.schema.specs.Fault.{TooDeep, Fault, fault_at}
use Rattle.schema.specs.Decoding.{◌>>=◌}
use Rattle.schema.specs.Shape.{I64, Flag, number_from}
use Rattle.schema.specs.Parts.{Part, run_all}
use Rattle.schema.specs.Run.{message, one_text, text_of}
use Rattle.schema.specs.AnyValue.{AnyValue, KeyValue, items, items_in, pairs, pairs_in}
use Rattle.schema.specs.AnyMember.{Member, TextIn, FlagIn, IntIn, DoubleIn, ItemsIn, PairsIn, RawIn, member_in}

-- ---- ArrayValue and KeyValueList: 1 values, of which `element` reads a payload; `at` and `end` are where the field's tag
-- begins and its payload ends

abbrev pub add_element : {A : Type 0} → (ℕ → ℕ → List ℕ → Result A Fault) → ℕ → ℕ → Payload → List A → Result (List A) Fault
add_element element at end (Long b) xs = element at end b >>= λ x. Ok (xs ++ x ∷ [])
add_element element at end payload xs = Ok xs

abbrev pub take_element : {A : Type 0} → (ℕ → ℕ → List ℕ → Result A Fault) → ℕ → ℕ → Field → List A → Result (List A) Fault
take_element element at end f xs = if f.number == 1 then add_element element at end f.payload xs else Ok xs

-- ---- KeyValue: 1 key, 2 value; `inner` reads the payload of a value over the value so far

abbrev pub go_on : (ℕ → ℕ → List ℕ → AnyValue → Result AnyValue Fault) → ℕ → ℕ → Payload → AnyValue → Result AnyValue Fault
go_on inner at end (Long b) v = inner at end b v
go_on inner at end payload v = Ok v

abbrev pub take_value : (ℕ → ℕ → List ℕ → AnyValue → Result AnyValue Fault) → ℕ → ℕ → Field → AnyValue → Result AnyValue Fault
take_value inner at end f v = if f.number == 2 then go_on inner at end f.payload v else Ok v

abbrev pub take_pair : (ℕ → ℕ → List ℕ → AnyValue → Result AnyValue Fault) → ℕ → ℕ → Field → KeyValue → Result KeyValue Fault
take_pair inner at end f kv =
    if f.number == 1 then (one_text at f.payload kv.0 >>= λ k. Ok (k, kv.1))
    else (take_value inner at end f kv.1 >>= λ v. Ok (kv.0, v))

-- the value of an element, and the key and value of an element
abbrev pub item_at : (ℕ → ℕ → List ℕ → AnyValue → Result AnyValue Fault) → ℕ → ℕ → List ℕ → Result AnyValue Fault
item_at inner at end b = inner at end b AnyValue.Empty

abbrev pub pair_at : (ℕ → ℕ → List ℕ → AnyValue → Result AnyValue Fault) → ℕ → ℕ → List ℕ → Result KeyValue Fault
pair_at inner at end b = message (take_pair inner) end b ([], AnyValue.Empty)

-- ---- AnyValue

-- A member over the value so far: elements come after those of a value that is the same member, and whatever else there was
-- is replaced.
abbrev pub put_member : (ℕ → ℕ → List ℕ → AnyValue → Result AnyValue Fault) → ℕ → ℕ → Member → AnyValue → Result AnyValue Fault
put_member inner at end (TextIn b) v = text_of at b >>= λ t. Ok (AnyValue.Text t)
put_member inner at end (FlagIn n) v = Ok (AnyValue.Flag (number_from Flag n))
put_member inner at end (IntIn n) v = Ok (AnyValue.Int (number_from I64 n))
put_member inner at end (DoubleIn b) v = Ok (AnyValue.Double b)
put_member inner at end (ItemsIn b) v = message (take_element (item_at inner)) end b (items_in v) >>= λ vs. Ok (items vs)
put_member inner at end (PairsIn b) v = message (take_element (pair_at inner)) end b (pairs_in v) >>= λ kvs. Ok (pairs kvs)
put_member inner at end (RawIn b) v = Ok (AnyValue.Raw b)

abbrev pub put_if : (ℕ → ℕ → List ℕ → AnyValue → Result AnyValue Fault) → ℕ → ℕ → Option Member → AnyValue → Result AnyValue Fault
put_if inner at end (Some m) v = put_member inner at end m v
put_if inner at end None v = Ok v

-- a field; one that is no member is skipped
abbrev pub take_member : (ℕ → ℕ → List ℕ → AnyValue → Result AnyValue Fault) → ℕ → ℕ → Field → AnyValue → Result AnyValue Fault
take_member inner at end f v = put_if inner at end (member_in f) v

-- The payload b of an AnyValue, over the value so far, with so many levels left for it and what is inside it. With none left
-- it is too deep, and is not parsed.
unfoldable pub merge_any : ℕ → ℕ → ℕ → List ℕ → AnyValue → Result AnyValue Fault
merge_any zero at end b v = Err (fault_at at TooDeep)
merge_any (suc left) at end b v = message (take_member (merge_any left)) end b v

-- the payloads of one AnyValue, with so many levels left for the values inside
abbrev pub merge_any_all : ℕ → AnyValue → List Part → Result AnyValue Fault
merge_any_all left v parts = run_all (take_member (merge_any left)) v parts

-- The levels that are left for an AnyValue of this depth. One that is in no other has depth 1, and those of depth 65 are
-- too deep.
abbrev pub any_levels : ℕ → ℕ
any_levels depth = 65 - depth
