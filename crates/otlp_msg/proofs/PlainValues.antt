-- Values without indexes.
use Rattle.std.proofs.Common.{◌≡◌, ℕ, suc, true, List, [], ◌∷◌, Ok, refl, ap, ◌∙◌}
use Rattle.std.proofs.lemmas.Bool.{and_parts}
use Rattle.schema.specs.Messages.{sample}
use Rattle.schema.specs.Shape.{Shape, Number, Fixed, Bytes, Text, Any, Index, End, One, Many, I64, Value}
use Rattle.schema.specs.Decoding.{◌>>=◌}
use Rattle.meaning.specs.Canonical.{HoldsForEach, HoldsForParts, IsWithin}
use Rattle.meaning.specs.Renumbering.{is_plain}
use Rattle.meaning.specs.Tables.{Tables}
use Rattle.pb_wire.specs.declared.table_kind.TableKind.{TableKind}
use Rattle.pb_wire.specs.declared.table_kind.TableKind.TheVariants as kind
use Rattle.otlp_msg.specs.declared.path.Holder.{Holder}
use Rattle.otlp_msg.specs.Walk.{spot, within}
use Rattle.otlp_msg.specs.Within.{Passed, each_within, row_within, value_within}
use Rattle.meaning.specs.Tree.{Tree, Natural, Integer, Boolean, Octets, Nil, Cons}

-- what holds of all trees holds of those in a list and of the parts of a row
in_each : (P : Tree → Type 0) → ((t : Tree) → P t) → (t : Tree) → HoldsForEach P t
in_each P h (Cons t ts) = (h t, in_each P h ts)
in_each P h (Natural n) = tt
in_each P h (Integer z) = tt
in_each P h (Boolean b) = tt
in_each P h (Octets b) = tt
in_each P h Nil = tt

in_parts : (P Q : Tree → Type 0) → ((t : Tree) → P t) → ((t : Tree) → Q t) → (t : Tree) → HoldsForParts P Q t
in_parts P Q h i (Cons t ts) = (h t, i ts)
in_parts P Q h i (Natural n) = tt
in_parts P Q h i (Integer z) = tt
in_parts P Q h i (Boolean b) = tt
in_parts P Q h i (Octets b) = tt
in_parts P Q h i Nil = tt

-- a value without indexes has none that is out of its table
pub plain_within : (d : Tables) (s : Shape) → is_plain s ≡ true → (t : Tree) → IsWithin d s t
plain_within d (Number w) h t = tt
plain_within d Fixed h t = tt
plain_within d Bytes h t = tt
plain_within d Text h t = tt
plain_within d (Any depth) h t = tt
plain_within d (Index T k) h t = absurd cc
plain_within d End h t = tt
plain_within d (One n k rest) h t = let p = and_parts (is_plain k) (is_plain rest) h in in_parts (IsWithin d k) (IsWithin d rest) (plain_within d k p.0) (plain_within d rest p.1) t
plain_within d (Many n k rest) h t =
    let p = and_parts (is_plain k) (is_plain rest) h in
    in_parts (HoldsForEach (IsWithin d k)) (IsWithin d rest) (in_each (IsWithin d k) (plain_within d k p.0)) (plain_within d rest p.1) t

-- ---- tests

-- a test that each element passes
each_passes : {A : Type 0} (test : ℕ → A → Passed) → ((i : ℕ) (x : A) → test i x ≡ Ok tt) → (k : ℕ) (xs : List A) → each_within test k xs ≡ Ok tt
each_passes test h k [] = refl
each_passes test h k (x ∷ xs) = ap (λ (r : Passed). r >>= λ _. each_within test (suc k) xs) (h k x) ∙ each_passes test h (suc k) xs

-- the tests of a sample's indexes
abbrev pub sample_test : (TableKind → ℕ) → Holder → Value sample → Passed
sample_test len by v =
    within len (spot kind.Stack v.0 by 1 0 ∷ []) >>= λ _. (each_within (λ i z. within len (spot kind.Attribute z by 3 i ∷ [])) 0 v.1.1.0
    >>= λ _. (within len (spot kind.Link v.1.1.1.0 by 4 0 ∷ []) >>= λ _. Ok tt))

-- a sample is tested so: its values and times are no indexes
pub sample_within : (len : TableKind → ℕ) (by : Holder) (v : Value sample) → value_within sample len by v ≡ sample_test len by v
sample_within len by v =
    let values = each_within (λ i. row_within (Number I64) len by 2 i (value_within (Number I64) len)) 0 v.1.0 in
    let attributes = each_within (λ i z. within len (spot kind.Attribute z by 3 i ∷ [])) 0 v.1.1.0 in
    let link = within len (spot kind.Link v.1.1.1.0 by 4 0 ∷ []) in
    let times = each_within (λ i. row_within Fixed len by 5 i (value_within Fixed len)) 0 v.1.1.1.1.0 in
    let stack = within len (spot kind.Stack v.0 by 1 0 ∷ []) in
    let a : values ≡ Ok tt = each_passes (λ i. row_within (Number I64) len by 2 i (value_within (Number I64) len)) (λ i x. refl) 0 v.1.0 in
    let b : times ≡ Ok tt = each_passes (λ i. row_within Fixed len by 5 i (value_within Fixed len)) (λ i x. refl) 0 v.1.1.1.1.0 in
    ap (λ (r : Passed). stack >>= λ _. (r >>= λ _. (attributes >>= λ _. (link >>= λ _. (times >>= λ _. Ok tt))))) a
    ∙ ap (λ (r : Passed). stack >>= λ _. (attributes >>= λ _. (link >>= λ _. (r >>= λ _. Ok tt)))) b
