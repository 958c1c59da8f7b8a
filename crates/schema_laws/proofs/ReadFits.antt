-- A value that is read can be written and read again, where the bytes are not too many.
use Rattle.std.proofs.Common.{◌≡◌, ℕ, ◌+◌, ◌*◌, ◌^◌, ◌<◌, ◌≤◌, List, [], ◌∷◌, length, Ok, refl, sym, ap, subst, ◌∙◌, arith, length-append, inr}
use Rattle.std.proofs.lemmas.List.Folds.{flat_map-map}
use Rattle.schema.specs.Shape.{Any, Bytes, End, Fixed, I32, Index, IsMessage, Many, Number, One, Shape, Text, Value, empty}
use Rattle.schema.specs.Parts.{Part, joined}
use Rattle.schema.specs.Merge.{merge, merge_all, take_field}
use Rattle.schema.specs.Texts.{bytes_field, fixed_text, long_field, numbers_text}
use Rattle.schema.specs.Spell.{spell, spell_many, spell_one}
use Rattle.schema.specs.Each.{Each}
use Rattle.schema.specs.Fits.{Fits, FitsTogether, Lawful}
use Rattle.schema_laws.proofs.ReadingBack.{reads_back}
use Rattle.schema_laws.proofs.Results.{ok_is}
use Rattle.schema_laws.proofs.Lists.{Octets}
use Rattle.schema_laws.proofs.Lengths.{bytes_field_le, each_as, each_short}
use Rattle.schema_laws.proofs.Growth.{AlsoIn, InRange, size, message_keeps}
use Rattle.schema_laws.proofs.GrowthOfLists.{ManyIn, spells_nothing, empty_in, keeps}
use Rattle.schema.specs.AnyMerge.{any_levels}
use Rattle.schema.specs.AnySpell.{AnyInRange, FitsAny, any_text}
use Rattle.schema_laws.proofs.Growing.{Grows}
use Rattle.schema_laws.proofs.Parts.{parts_keep}

-- what the law says of a message that is a part
abbrev FitsSmall : Shape → Type 0
FitsSmall k = (x : Value k) → InRange k x → size k x < 2 ^ 64 → Fits k x

-- an element of a repeated row fits, and its spelling is short
abbrev FitsItem : (k : Shape) → Value k → Type 0
FitsItem k y = Fits k y × (size k y < 2 ^ 64)

-- a singular row
one_fits : (k : Shape) (n : ℕ) (x : Value k) → InRange k x → length (spell_one k (spell k) n x) < 2 ^ 64 → (IsMessage k → FitsSmall k) → FitsItem k x
one_fits (Number w) n x i short h = (i, omega arith)
one_fits (Index T entry) n x i short h = (i, omega arith)
one_fits Fixed n x i short h = (i, omega arith)
one_fits Bytes n x i short h = let l = bytes_field_le n x in (omega arith, omega arith)
one_fits Text n x i short h = let l = bytes_field_le n x in ((i, omega arith), omega arith)
one_fits (Any depth) n x i short h = let l = bytes_field_le n (any_text x) in ((i, omega arith), omega arith)
one_fits k n x i short h = let l = bytes_field_le n (spell k x) in let s : size k x < 2 ^ 64 = omega arith in (h tt x i s, s)

-- what `Fits` asks of a repeated row
abbrev ManyFits : (k : Shape) → List (Value k) → Type 0
ManyFits k xs = Each (FitsItem k) xs × FitsTogether k xs

-- what has no spelling of its own is short
leaves : (k : Shape) (xs : List (Value k)) → Each (Fits k) xs → ((x : Value k) → size k x ≡ 0) → Each (FitsItem k) xs
leaves k xs i none = each_as (Fits k) (FitsItem k) (λ x f. (f, let e = none x in omega arith)) xs i

-- a repeated row
many_fits : (k : Shape) (n : ℕ) (xs : List (Value k)) → ManyIn k xs → length (spell_many k (spell k) n xs) < 2 ^ 64 → (IsMessage k → FitsSmall k) → ManyFits k xs
many_fits (Number w) n xs i short h = let l = bytes_field_le n (numbers_text w xs) in (leaves (Number w) xs i.0 (λ x. refl), omega arith)
many_fits (Index T entry) n xs i short h = let l = bytes_field_le n (numbers_text I32 xs) in (leaves (Index T entry) xs i.0 (λ x. refl), omega arith)
many_fits Fixed n xs i short h = (leaves Fixed xs i.0 (λ x. refl), fixed_short (fixed_text xs) short)
  where
    fixed_short : (b : List ℕ) → length (bytes_field n b) < 2 ^ 64 → length b < 2 ^ 64
    fixed_short b s = let l = bytes_field_le n b in omega arith
many_fits Bytes n xs i short h = (each_short (λ b. b) n (InRange Bytes) (FitsItem Bytes) (λ x r s. (s, omega arith)) xs i.0 short, tt)
many_fits Text n xs i short h = (each_short (λ b. b) n (InRange Text) (FitsItem Text) (λ x r s. ((r, s), omega arith)) xs i.0 short, tt)
many_fits (Any depth) n xs i short h =
    let left = any_levels depth in
    let fits = each_short any_text n (AnyInRange left) (FitsAny left) (λ x r s. (r, s)) xs i.1
    (subst (λ (t : List ℕ). length t < 2 ^ 64) (flat_map-map (long_field n) any_text xs) short) in
    (each_as (FitsAny left) (FitsItem (Any depth)) (λ x f. ((inr f.0, f.1), omega arith)) xs fits, fits)
many_fits k n xs i short h = (
  each_short (spell k) n (InRange k) (FitsItem k) (λ x r s. (h tt x r s, s)) xs i.0
      (subst (λ (t : List ℕ). length t < 2 ^ 64) (flat_map-map (long_field n) (spell k) xs) short),
  tt,
)

-- a value in its range whose spelling is short fits
pub fits_from : (s : Shape) → IsMessage s → Lawful s → FitsSmall s
fits_from End m lawful v i short = tt
fits_from (One n k rest) m lawful v i short =
    let l : length (spell_one k (spell k) n v.0) + size rest v.1 < 2 ^ 64 = subst (λ (x : ℕ). x < 2 ^ 64) (length-append (spell_one k (spell k) n v.0) (spell rest v.1)) short in
    let here = one_fits k n v.0 i.0 (omega arith) (λ mk. fits_from k mk lawful.2) in
    (here.0, here.1, fits_from rest lawful.4 lawful.3 v.1 i.1 (omega arith))
fits_from (Many n k rest) m lawful v i short =
    let l : length (spell_many k (spell k) n v.0) + size rest v.1 < 2 ^ 64 = subst (λ (x : ℕ). x < 2 ^ 64) (length-append (spell_many k (spell k) n v.0) (spell rest v.1)) short in
    let here = many_fits k n v.0 (i.0, i.1) (omega arith) (λ mk. fits_from k mk lawful.2) in
    (here.0, here.1, fits_from rest lawful.4 lawful.3 v.1 i.2 (omega arith))
fits_from s m lawful v i short = absurd m

-- ---- reading

-- parts that are read keep the value in its range, and lengthen its spelling by sixteen bytes at most for each byte
all_keep : (s : Shape) (parts : List Part) (u v : Value s) → Octets (joined parts) → InRange s u → size s u + 16 * length (joined parts) < 2 ^ 64 → merge_all s u parts ≡ Ok v
    → Grows (InRange s) (size s) u (length (joined parts)) v
all_keep s parts u v o i room e = let k = keeps s in parts_keep (take_field s) (InRange s) (size s) k.keeps parts u v o i room e

-- the value of parts fits
pub parts_fit : (s : Shape) → IsMessage s → Lawful s → (parts : List Part) (v : Value s) → Octets (joined parts) → 16 * length (joined parts) < 2 ^ 64 → merge_all s (empty s) parts ≡ Ok v → Fits s v
parts_fit s m lawful parts v o room e =
    let none : size s (empty s) ≡ 0 = ap length (spells_nothing s) in
    let g = all_keep s parts (empty s) v o (empty_in s) (omega arith) e in
    let short = g.1 in
    fits_from s m lawful v g.0 (omega arith)

-- and its spelling is at most sixteen times as long as the parts
pub parts_short : (s : Shape) → (parts : List Part) (v : Value s) → Octets (joined parts) → 16 * length (joined parts) < 2 ^ 64 → merge_all s (empty s) parts ≡ Ok v → size s v ≤ 16 * length (joined parts)
parts_short s parts v o room e =
    let none : size s (empty s) ≡ 0 = ap length (spells_nothing s) in
    let g = all_keep s parts (empty s) v o (empty_in s) (omega arith) e in
    let short = g.1 in
    omega arith

-- and so does the value of bytes
pub read_fits : (s : Shape) → IsMessage s → Lawful s → (base : ℕ) (bytes : List ℕ) (v : Value s) → Octets bytes → 16 * length bytes < 2 ^ 64 → merge s (empty s) base bytes ≡ Ok v → Fits s v
read_fits s m lawful base bytes v o room e =
    let none : size s (empty s) ≡ 0 = ap length (spells_nothing s) in
    let g = message_keeps s (keeps s) base bytes (empty s) v o (empty_in s) (omega arith) e in
    let short = g.1 in
    fits_from s m lawful v g.0 (omega arith)

-- and its spelling is at most sixteen times as long as the bytes
pub read_short : (s : Shape) → (base : ℕ) (bytes : List ℕ) (v : Value s) → Octets bytes → 16 * length bytes < 2 ^ 64 → merge s (empty s) base bytes ≡ Ok v → size s v ≤ 16 * length bytes
read_short s base bytes v o room e =
    let none : size s (empty s) ≡ 0 = ap length (spells_nothing s) in
    let g = message_keeps s (keeps s) base bytes (empty s) v o (empty_in s) (omega arith) e in
    let short = g.1 in
    omega arith

-- so its spelling is read as the same value
pub read_again : (s : Shape) → IsMessage s → Lawful s → (base : ℕ) (bytes : List ℕ) (v : Value s) → Octets bytes → 16 * length bytes < 2 ^ 64 → merge s (empty s) base bytes ≡ Ok v
    → (other : ℕ) → merge s (empty s) other (spell s v) ≡ Ok v
read_again s m lawful base bytes v o room e other = reads_back s m lawful v (read_fits s m lawful base bytes v o room e) other

-- values that fit are told apart by their spellings
pub spelled_apart : (s : Shape) → IsMessage s → Lawful s → (v w : Value s) → Fits s v → Fits s w → spell s v ≡ spell s w → v ≡ w
spelled_apart s m lawful v w f g e = ok_is v w (sym (reads_back s m lawful v f 0) ∙ ap (merge s (empty s) 0) e ∙ reads_back s m lawful w g 0)

-- ---- what fits is in its range

-- elements of which more is known
each_from : {X : Type 0} (P Q : X → Type 0) → ((x : X) → P x → Q x) → (xs : List X) → Each P xs → Each Q xs
each_from P Q f [] h = tt
each_from P Q f (x ∷ xs) h = (f x h.0, each_from P Q f xs h.1)

-- a repeated row that isn't read has no elements, and AnyValues that can be written are in their range
also_together : (k : Shape) (vs : List (Value k)) → FitsTogether k vs → AlsoIn k vs
also_together (Any depth) vs h = each_from (FitsAny (any_levels depth)) (AnyInRange (any_levels depth)) (λ v f. f.0) vs h
also_together k vs h = tt

-- a value that can be written is in its range
pub in_range : (s : Shape) (x : Value s) → Fits s x → InRange s x
in_range (Number w) x h = h
in_range (Index T k) x h = h
in_range Fixed x h = h
in_range Text x h = h.0
in_range (Any depth) x h = h.0
in_range (One n k rest) x h = (in_range k x.0 h.0, in_range rest x.1 h.2)
in_range (Many n k rest) x h = (
  each_from (λ y. Fits k y × (length (spell k y) < 2 ^ 64)) (InRange k) (λ y f. in_range k y f.0) x.0 h.0,
  also_together k x.0 h.1,
  in_range rest x.1 h.2,
)
in_range s x h = tt
