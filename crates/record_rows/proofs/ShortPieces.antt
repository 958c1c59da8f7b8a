-- What is read of short pieces can be written.
use Rattle.std.proofs.Common.{◌≡◌, ℕ, suc, ◌^◌, ◌<◌, ◌+◌, List, [], ◌∷◌, ◌++◌, get_or, length, Ok, ap, subst, sym, ◌∙◌, arith, length-append}
use Rattle.schema.specs.AnyMerge.{merge_any_all}
use Rattle.schema.specs.AnySpell.{any_text}
use Rattle.schema.specs.AnyValue.{AnyValue}
use Rattle.schema.specs.Merge.{merge_all}
use Rattle.schema.specs.Parts.{Part, joined}
use Rattle.schema.specs.Shape.{Shape, Value, empty}
use Rattle.schema.specs.Spell.{spell}
use Rattle.schema_laws.proofs.AnyGrowth.{any_parts_short}
use Rattle.schema_laws.proofs.Lists.{Octets, each_append}
use Rattle.schema_laws.proofs.ReadFits.{parts_short}
use Rattle.record_rows.specs.Short.{IsShort}

-- the elements of a slice are bytes
pub octets : (xs : List ℕ) → ((i : ℕ) → get_or xs i 0 < 256) → Octets xs
octets [] h = tt
octets (x ∷ xs) h = (h 0, octets xs (λ i. h (suc i)))

-- a record
pub record_short : (s : Shape) (parts : List Part) (v : Value s) → IsShort parts → merge_all s (empty s) parts ≡ Ok v → length (spell s v) < 2 ^ 63
record_short s parts v h e = let most = parts_short s parts v h.0 (omega (arith, h.1)) e in omega (arith, h.1)

-- an AnyValue
pub value_short : (left : ℕ) (parts : List Part) (v : AnyValue) → IsShort parts → merge_any_all left AnyValue.Empty parts ≡ Ok v → length (any_text v) < 2 ^ 62
value_short left parts v h e = let most = any_parts_short left parts v h.0 (omega (arith, h.1)) e in omega (arith, h.1)

-- one more piece
one_more : (p : Part) (parts : List Part) (n : ℕ) → Octets p.bytes → length p.bytes < 2 ^ 32 → Octets (joined parts) → length (joined parts) < n
    → Octets (p.bytes ++ joined parts) × (length (p.bytes ++ joined parts) < 2 ^ 32 + n)
one_more p parts n bytes few others rest =
    let l : length (p.bytes ++ joined parts) ≡ length p.bytes + length (joined parts) = length-append p.bytes (joined parts) in
    (each_append (λ b. b < 256) p.bytes (joined parts) bytes others, omega arith)

-- three pieces
pub three_short : (none one two three : List Part) (p q r : Part) → Octets p.bytes → Octets q.bytes → Octets r.bytes
    → length p.bytes < 2 ^ 32 → length q.bytes < 2 ^ 32 → length r.bytes < 2 ^ 32
    → none ≡ [] → one ≡ none ++ p ∷ [] → two ≡ one ++ q ∷ [] → three ≡ two ++ r ∷ [] → IsShort three
three_short none one two three p q r a b c few_p few_q few_r e0 e1 e2 e3 =
    let i1 : one ≡ p ∷ [] = e1 ∙ ap (λ (l : List Part). l ++ p ∷ []) e0 in
    let i2 : two ≡ p ∷ q ∷ [] = e2 ∙ ap (λ (l : List Part). l ++ q ∷ []) i1 in
    let i3 : three ≡ p ∷ q ∷ r ∷ [] = e3 ∙ ap (λ (l : List Part). l ++ r ∷ []) i2 in
    let last = one_more r [] 1 c few_r tt (omega arith) in
    let later = one_more q (r ∷ []) (2 ^ 32 + 1) b few_q last.0 last.1 in
    let all = one_more p (q ∷ r ∷ []) (2 ^ 32 + (2 ^ 32 + 1)) a few_p later.0 later.1 in
    subst IsShort (sym i3) (all.0, omega (arith, all.1))
