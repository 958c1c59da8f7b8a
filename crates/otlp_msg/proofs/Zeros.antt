-- The first entries of tables: the tests, and what they say.
use Rattle.std.proofs.Common.{◌≡◌, ℕ, ◌<◌, ◌^◌, Bool, true, false, cond, List, [], ◌∷◌, ◌++◌, length, map, get_or, Some, None, refl, sym, ap, subst, ◌∙◌, arith}
use Rattle.std.specs.Prelude.{◌==◌}
use Rattle.std.specs.List.{slice_get}
use Rattle.std.proofs.lemmas.Bool.{eqb-true, eq-eqb}
use Rattle.std.proofs.lemmas.List.{nil_from_length}
use Rattle.schema.specs.Each.{Each}
use Rattle.schema.specs.Fits.{Fits, Lawful}
use Rattle.schema.specs.Messages.{dictionary, entries_in, entry}
use Rattle.schema.specs.Shape.{Shape, IsMessage, Value, Table, Mappings, Locations, Functions, Links, Strings, Attributes, Stacks, empty}
use Rattle.schema.specs.Spell.{spell}
use Rattle.schema_laws.proofs.GrowthOfLists.{empty_in, spells_nothing}
use Rattle.schema_laws.proofs.ReadFits.{fits_from, spelled_apart}
use Rattle.meaning.specs.Meaning.{HasZeros, blank}
use Rattle.meaning.specs.Message.{tables_in}
use Rattle.meaning.specs.Tree.{tree, value, same}
use Rattle.meaning.proofs.Trees.{same-itself, same-true, value-tree}
use Rattle.pb_wire.specs.declared.table_kind.TableKind.{TableKind}
use Rattle.pb_wire.specs.declared.table_kind.TableKind.TheVariants as kind
use Rattle.pb_wire.specs.TableKinds.{table_of}
use Rattle.otlp_msg.specs.Walk.{kind_of}
use Rattle.otlp_msg.specs.ZeroEntries.{BeginsWithZero, begins_with_zero, HasZeroEntry, has_zero_entry, all_tables, first_other}

-- ---- the test of one entry

-- the empty value is written with no bytes, and fits
empty_fits : (s : Shape) → IsMessage s → Lawful s → Fits s (empty s)
empty_fits s m lawful = let e = ap length (spells_nothing s) in fits_from s m lawful (empty s) (empty_in s) (omega arith)

-- a value that fits and is written with no bytes is the empty one
pub empty_from : (s : Shape) → IsMessage s → Lawful s → (x : Value s) → Fits s x → length (spell s x) ≡ 0 → x ≡ empty s
empty_from s m lawful x f e = spelled_apart s m lawful x (empty s) f (empty_fits s m lawful) (nil_from_length (spell s x) e ∙ sym (spells_nothing s))

-- a value whose tree is that of the empty one is the empty one
pub blank_from : (s : Shape) (x : Value s) → same (tree s x) (blank s) ≡ true → x ≡ empty s
blank_from s x h = sym (value-tree s x) ∙ ap (value s) (same-true (tree s x) (blank s) h) ∙ value-tree s (empty s)

-- and the other way
pub blank_to : (s : Shape) (x : Value s) → x ≡ empty s → same (tree s x) (blank s) ≡ true
blank_to s x e = ap (λ (y : Value s). same (tree s y) (blank s)) e ∙ same-itself (blank s)

-- tests that hold together are the same
same_tests : (a b : Bool) → (a ≡ true → b ≡ true) → (b ≡ true → a ≡ true) → a ≡ b
same_tests true b f g = sym (f refl)
same_tests false true f g = absurd (let e = g refl in cc)
same_tests false false f g = refl

-- the test of its length is that of its tree
pub zero_test : (s : Shape) → IsMessage s → Lawful s → (x : Value s) → Fits s x → (length (spell s x) == 0) ≡ same (tree s x) (blank s)
zero_test s m lawful x f =
    same_tests (length (spell s x) == 0) (same (tree s x) (blank s))
    (λ e. blank_to s x (empty_from s m lawful x f (eqb-true (length (spell s x)) 0 e)))
    (λ e. eq-eqb (length (spell s x)) 0 (ap (λ (y : Value s). length (spell s y)) (blank_from s x e) ∙ ap length (spells_nothing s)))

-- ---- the first entry of a list of records

-- the element at place 0
pub first_short : {A : Type 0} (s : Shape) (view : A → Value s) (xs : List A) (x : A) → slice_get xs 0 ≡ Some x → Each (λ y. Fits s y × (length (spell s y) < 2 ^ 32)) (map view xs) → length (spell s (view x)) < 2 ^ 32
first_short s view [] x e h = absurd cc
first_short {A} s view (y ∷ ys) x e h = subst (λ (z : A). length (spell s (view z)) < 2 ^ 32) (let q : y ≡ x = cc in q) h.0.1

-- is the zero value where its spelling is empty
pub first_test : {A : Type 0} (s : Shape) → IsMessage s → Lawful s → (view : A → Value s) (xs : List A) (x : A) (len : ℕ) → slice_get xs 0 ≡ Some x → Each (λ y. Fits s y × (length (spell s y) < 2 ^ 32)) (map view xs)
    → len ≡ length (spell s (view x)) → (len == 0) ≡ begins_with_zero s (map view xs)
first_test s m lawful view [] x len e h l = absurd cc
first_test {A} s m lawful view (y ∷ ys) x len e h l =
    let q : x ≡ y = cc in
    ap (λ n. n == 0) (l ∙ ap (λ (z : A). length (spell s (view z))) q) ∙ zero_test s m lawful (view y) h.0.0

-- and where there is none, the list begins with zero
pub none_test : {A : Type 0} (s : Shape) (view : A → Value s) (xs : List A) → slice_get xs 0 ≡ None → true ≡ begins_with_zero s (map view xs)
none_test s view [] e = refl
none_test s view (y ∷ ys) e = absurd cc

-- ---- tables

-- the test of a list of values as a fact
begins_from : (s : Shape) (xs : List (Value s)) → begins_with_zero s xs ≡ true → BeginsWithZero s xs
begins_from s [] e = tt
begins_from s (x ∷ xs) e = blank_from s x e

-- and the other way
begins_to : (s : Shape) (xs : List (Value s)) → BeginsWithZero s xs → begins_with_zero s xs ≡ true
begins_to s [] h = refl
begins_to s (x ∷ xs) h = blank_to s x h

-- the kind of a table is one of this table
pub kind_back : (T : Table) → table_of (kind_of T) ≡ T
kind_back Mappings = refl
kind_back Locations = refl
kind_back Functions = refl
kind_back Links = refl
kind_back Strings = refl
kind_back Attributes = refl
kind_back Stacks = refl

-- so of the tables of a dictionary
pub has_from : (d : Value dictionary) (table : TableKind) → has_zero_entry d table ≡ true → HasZeroEntry d table
has_from d table e = begins_from (entry (table_of table)) (entries_in d (table_of table)) e

pub has_to : (d : Value dictionary) (table : TableKind) → HasZeroEntry d table → has_zero_entry d table ≡ true
has_to d table h = begins_to (entry (table_of table)) (entries_in d (table_of table)) h

-- a test that doesn't hold fails
pub fails : (t : Bool) → (t ≡ true → ⊥) → t ≡ false
fails true h = absurd (h refl)
fails false h = refl

-- ---- the first table that begins with another entry

-- a table that is the first, of some tables
pub record FirstOther (d : Value dictionary) (tables : List TableKind) (table : TableKind) : Type 0 where
  pub before : List TableKind
  pub after : List TableKind
  pub parts : tables ≡ before ++ table ∷ after
  pub zeros : Each (HasZeroEntry d) before
  pub other : ¬ HasZeroEntry d table

-- one more that begins with zero, in front
other_behind : (d : Value dictionary) (t : TableKind) (tables : List TableKind) (table : TableKind) → HasZeroEntry d t → FirstOther d tables table → FirstOther d (t ∷ tables) table
other_behind d t tables table h f = record {
  before = t ∷ f.before;
  after = f.after;
  parts = ap (λ (l : List TableKind). t ∷ l) f.parts;
  zeros = (h, f.zeros);
  other = f.other;
}

-- the test of one table and of those after it
other_step : (d : Value dictionary) (t : TableKind) (tables : List TableKind) (table : TableKind) → (first_other d tables ≡ Some table → FirstOther d tables table)
    → (b : Bool) → has_zero_entry d t ≡ b → cond b (first_other d tables) (Some t) ≡ Some table → FirstOther d (t ∷ tables) table
other_step d t tables table h true q e = other_behind d t tables table (has_from d t q) (h e)
other_step d t tables table h false q e =
    let is : t ≡ table = cc in
    subst (FirstOther d (t ∷ tables)) is (record { before = []; after = tables; parts = refl; zeros = tt; other = λ z. let p = has_to d t z in absurd (cc (p, q)) })

-- a table that is found is the first
pub other_from : (d : Value dictionary) (tables : List TableKind) (table : TableKind) → first_other d tables ≡ Some table → FirstOther d tables table
other_from d [] table e = absurd cc
other_from d (t ∷ tables) table e = other_step d t tables table (other_from d tables table) (has_zero_entry d t) refl e

-- and the other way
pub other_to : (d : Value dictionary) (before after : List TableKind) (table : TableKind) → Each (HasZeroEntry d) before → ¬ HasZeroEntry d table → first_other d (before ++ table ∷ after) ≡ Some table
other_to d [] after table h other = ap (λ b. cond b (first_other d after) (Some table)) (fails (has_zero_entry d table) (λ e. other (has_from d table e)))
other_to d (t ∷ before) after table h other =
    ap (λ b. cond b (first_other d (before ++ table ∷ after)) (Some t)) (has_to d t h.0) ∙ other_to d before after table h.1 other

-- the same where there is none
none_step : (d : Value dictionary) (t : TableKind) (tables : List TableKind) → (first_other d tables ≡ None → Each (HasZeroEntry d) tables)
    → (b : Bool) → has_zero_entry d t ≡ b → cond b (first_other d tables) (Some t) ≡ None → Each (HasZeroEntry d) (t ∷ tables)
none_step d t tables h true q e = (has_from d t q, h e)
none_step d t tables h false q e = absurd cc

-- where none is found, each begins with zero
pub none_from : (d : Value dictionary) (tables : List TableKind) → first_other d tables ≡ None → Each (HasZeroEntry d) tables
none_from d [] e = tt
none_from d (t ∷ tables) e = none_step d t tables (none_from d tables) (has_zero_entry d t) refl e

-- and the other way
pub none_to : (d : Value dictionary) (tables : List TableKind) → Each (HasZeroEntry d) tables → first_other d tables ≡ None
none_to d [] h = refl
none_to d (t ∷ tables) h = ap (λ b. cond b (first_other d tables) (Some t)) (has_to d t h.0) ∙ none_to d tables h.1

-- all tables are each table
pub all_from : (P : TableKind → Type 0) → Each P all_tables → (table : TableKind) → P table
all_from P h kind.Mapping = h.0
all_from P h kind.Location = h.1.0
all_from P h kind.Function = h.1.1.0
all_from P h kind.Link = h.1.1.1.0
all_from P h kind.String = h.1.1.1.1.0
all_from P h kind.Attribute = h.1.1.1.1.1.0
all_from P h kind.Stack = h.1.1.1.1.1.1.0

pub all_to : (P : TableKind → Type 0) → ((table : TableKind) → P table) → Each P all_tables
all_to P h = (h kind.Mapping, (h kind.Location, (h kind.Function, (h kind.Link, (h kind.String, (h kind.Attribute, (h kind.Stack, tt)))))))

-- ---- the tables as trees

-- the entry at place 0
zero_at : (s : Shape) (xs : List (Value s)) → BeginsWithZero s xs → get_or (map (tree s) xs) 0 (blank s) ≡ blank s
zero_at s [] h = refl
zero_at s (x ∷ xs) h = ap (tree s) h

-- each table begins with its zero entry
pub zeros_from : (d : Value dictionary) → ((table : TableKind) → HasZeroEntry d table) → HasZeros (tables_in d)
zeros_from d h T = zero_at (entry T) (entries_in d T) (subst (λ U. BeginsWithZero (entry U) (entries_in d U)) (kind_back T) (h (kind_of T)))
