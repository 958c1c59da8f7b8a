-- A value that is read is in its range, and each field makes its spelling longer by sixteen times its own bytes at most.
use Rattle.std.proofs.Common.{◌≡◌, ℕ, ◌+◌, ◌*◌, ◌-◌, ◌^◌, ◌<◌, ◌≤◌, true, List, length, Ok, sym, ◌∙◌, arith}
use Rattle.std.specs.Int.{w64, from_le_bytes}
use Rattle.std.specs.Str.{is_utf8}
use Rattle.schema.specs.Field.{Eight, Long, Payload, Varint, greatest_number}
use Rattle.schema.specs.Shape.{Any, Bytes, Fixed, Format, I32, Index, IsMessage, Many, Number, NumberValue, One, Shape, Text, Value, number_from}
use Rattle.schema.specs.Merge.{merge, one_bytes, one_fixed, one_number, take_one, take_field}
use Rattle.schema.specs.Texts.{bytes_field, fixed_field, number_field, number_to, FitsNumber}
use Rattle.schema.specs.Spell.{spell, spell_one}
use Rattle.schema.specs.Each.{Each}
use Rattle.schema_laws.proofs.Results.{ok_is}
use Rattle.schema_laws.proofs.Rows.{take_one_message, take_one_short}
use Rattle.schema_laws.proofs.Lists.{Octets}
use Rattle.schema_laws.proofs.Ranges.{number_fits, fixed_below, PayloadInRange, field_cost}
use Rattle.schema_laws.proofs.Lengths.{number_len, fixed_field_len, bytes_field_le}
use Rattle.schema_laws.proofs.Growing.{Grows, stays, becomes, StepKeeps, bytes_keep, text_keeps, message_grows, run_keeps}
use Rattle.std.specs.Prelude.{◌⊎◌}
use Rattle.schema.specs.AnyValue.{AnyValue}
use Rattle.schema.specs.AnyMerge.{any_levels, merge_any}
use Rattle.schema.specs.AnySpell.{AnyInRange}
use Rattle.schema_laws.proofs.AnyGrowth.{any_keeps, go_on_keeps}

-- ---- values in their range

-- what more is asked of the elements of a repeated row: an AnyValue is one that is written
abbrev pub AlsoIn : (k : Shape) → List (Value k) → Type 0
AlsoIn (Any depth) vs = Each (AnyInRange (any_levels depth)) vs
AlsoIn k vs = Unit {0}

-- what `Fits` asks, but for lengths
abbrev pub InRange : (s : Shape) → Value s → Type 0
InRange (Number w) x = FitsNumber w x
InRange (Index T entry) x = FitsNumber I32 x
InRange Fixed x = x < 2 ^ 64
InRange Text x = is_utf8 x ≡ true
InRange (Any depth) x = (x ≡ AnyValue.Empty) ⊎ AnyInRange (any_levels depth) x
InRange (One n k rest) x = InRange k x.0 × InRange rest x.1
InRange (Many n k rest) x = Each (InRange k) x.0 × AlsoIn k x.0 × InRange rest x.1
InRange s x = Unit {0}

-- the length of a message's spelling
abbrev pub size : (s : Shape) → Value s → ℕ
size s v = length (spell s v)

-- a field that is taken keeps the value in its range
pub record Keeps (s : Shape) : Type 0 where
  pub keeps : StepKeeps (take_field s) (InRange s) (size s)

-- ---- a message

-- the bytes of a message
pub message_keeps : (s : Shape) → Keeps s → (base : ℕ) (bytes : List ℕ) (u v : Value s) → Octets bytes → InRange s u → size s u + 16 * length bytes < 2 ^ 64
    → merge s u base bytes ≡ Ok v → Grows (InRange s) (size s) u (length bytes) v
message_keeps s k base bytes u v o i room e = run_keeps (take_field s) (InRange s) (size s) k.keeps base bytes u v o i room e

-- ---- singular rows

-- a singular number
number_keeps : (w : Format) (n : ℕ) → n ≤ greatest_number → (p : Payload) (u v : NumberValue w) → PayloadInRange p → FitsNumber w u → one_number w p u ≡ v
    → Grows (FitsNumber w) (λ x. length (number_field n (number_to w x))) u (field_cost p) v
number_keeps w n le (Varint m) u v r i e =
    let g = number_fits w m r in
    becomes (FitsNumber w) (λ x. length (number_field n (number_to w x))) u (number_from w m) v 2 e g (let l = number_len n (number_to w (number_from w m)) le g.0 in omega arith)
number_keeps w n le p u v r i e = stays (FitsNumber w) (λ x. length (number_field n (number_to w x))) u v (field_cost p) e i

-- a singular eight-byte value
fixed_keeps : (n : ℕ) → n ≤ greatest_number → (p : Payload) (u v : ℕ) → PayloadInRange p → u < 2 ^ 64 → one_fixed p u ≡ v
    → Grows (λ x. x < 2 ^ 64) (λ x. length (fixed_field n x)) u (field_cost p) v
fixed_keeps n le (Eight b) u v r i e =
    becomes (λ x. x < 2 ^ 64) (λ x. length (fixed_field n x)) u (from_le_bytes w64 b) v 2 e (fixed_below b r.0) (fits (from_le_bytes w64 b))
  where
    fits : (x : ℕ) → length (fixed_field n x) ≤ length (fixed_field n u) + 16 * 2
    fits x = let l = fixed_field_len n x le in omega arith
fixed_keeps n le p u v r i e = stays (λ x. x < 2 ^ 64) (λ x. length (fixed_field n x)) u v (field_cost p) e i

-- a singular message
one_message : (k : Shape) → IsMessage k → Keeps k → (n : ℕ) → n ≤ greatest_number → (at end : ℕ) (p : Payload) (u v : Value k) → PayloadInRange p → InRange k u
    → length (bytes_field n (spell k u)) + 16 * field_cost p < 2 ^ 64 → take_one k (take_field k) at end p u ≡ Ok v
    → Grows (InRange k) (λ x. length (bytes_field n (spell k x))) u (field_cost p) v
one_message k m keep n le at end (Long b) u v r i room e =
    let l = bytes_field_le n (spell k u) in
    let g = message_keeps k keep (end - length b) b u v r i (omega arith) (sym (take_one_message k (take_field k) at end b u m) ∙ e) in
    (g.0, message_grows n le (spell k u) (spell k v) (length b) room g.1)
one_message k m keep n le at end p u v r i room e =
    stays (InRange k) (λ x. length (bytes_field n (spell k x))) u v (field_cost p) (ok_is u v (sym (take_one_short k (take_field k) at end p u m tt) ∙ e)) i

-- a singular row of any shape
pub one_keeps : (k : Shape) → Keeps k → (n : ℕ) → n ≤ greatest_number → (at end : ℕ) (p : Payload) (u v : Value k) → PayloadInRange p → InRange k u
    → length (spell_one k (spell k) n u) + 16 * field_cost p < 2 ^ 64 → take_one k (take_field k) at end p u ≡ Ok v
    → Grows (InRange k) (λ x. length (spell_one k (spell k) n x)) u (field_cost p) v
one_keeps (Number w) keep n le at end p u v r i room e = number_keeps w n le p u v r i (ok_is (one_number w p u) v e)
one_keeps (Index T entry) keep n le at end p u v r i room e = number_keeps I32 n le p u v r i (ok_is (one_number I32 p u) v e)
one_keeps Fixed keep n le at end p u v r i room e = fixed_keeps n le p u v r i (ok_is (one_fixed p u) v e)
one_keeps Bytes keep n le at end p u v r i room e = bytes_keep (λ x. Unit {0}) n le p u v tt room (ok_is (one_bytes p u) v e) tt
one_keeps Text keep n le at end p u v r i room e = text_keeps n le at p u v i room e
one_keeps (Any depth) keep n le at end p u v r i room e =
    go_on_keeps (merge_any (any_levels depth)) (AnyInRange (any_levels depth)) (any_keeps (any_levels depth)) n le at end p u v r i room e
one_keeps k keep n le at end p u v r i room e = one_message k tt keep n le at end p u v r i room e
