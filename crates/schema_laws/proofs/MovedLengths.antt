-- A value with its new indexes fits, and is written with at most five times as many bytes.
use Rattle.std.proofs.Common.{◌≡◌, ℕ, zero, suc, ◌+◌, ◌*◌, ◌/◌, ◌%◌, ◌<◌, ◌≤◌, ◌^◌, ℤ, pos, List, [], ◌∷◌, ◌++◌, length, map, true, false, refl, sym, ap, ◌∙◌, subst, arith, inl, inr, length-append}
use Rattle.std.specs.Prelude.{◌==◌}
use Rattle.std.specs.Int.{w32, w64, cast_signed, cast_unsigned}
use Rattle.std.proofs.lemmas.Bool.{cases_eq, cases_lt, eq-eqb, ne_eqb}
use Rattle.std.proofs.lemmas.Int.{to_z_pos}
use Rattle.schema.specs.Each.{Each}
use Rattle.schema.specs.Fits.{Fits, Lawful}
use Rattle.schema.specs.Shape.{Shape, Any, Index, End, One, Many, I32, IsMessage, Value, Table}
use Rattle.schema.specs.Texts.{FitsNumber, varint, number_to, number_field, bytes_field, long_field, numbers_text, items_text}
use Rattle.schema.specs.Spell.{spell, spell_one, spell_many}
use Rattle.schema_laws.proofs.Growth.{AlsoIn, InRange}
use Rattle.schema_laws.proofs.Onto.{long_len, varint_large, varint_small, varint_some}
use Rattle.schema_laws.proofs.ReadFits.{fits_from, in_range}
use Rattle.schema.specs.Moved.{GivesIndexes, IsNewIndex, moved, moved_each}
use Rattle.schema_laws.proofs.MovedValues.{each_is_map}

-- ---- varints

-- a number that is about five times as great has one more byte at most
varint_five : (k a b : ℕ) → a ≤ k → a ≤ 5 * b + 4 → length (varint a) ≤ length (varint b) + 1
varint_five zero a b l h = omega (arith, ap length (varint_small a (omega arith)))
varint_five (suc k) a b l h = elim (cases_lt a 128) [
  | inl small ↦ omega (arith, ap length (varint_small a small))
  | inr large ↦ elim (cases_lt b 128) [
    | inl less ↦ omega (arith, ap length (varint_large a large), ap length (varint_small (a / 128) (omega arith)), varint_some b)
    | inr more ↦ omega (arith, ap length (varint_large a large), ap length (varint_large b more), varint_five k (a / 128) (b / 128) (omega arith) (omega arith))
  ]
]

-- a number of seven more bits has one more byte at most
varint_more : (m c : ℕ) → ((q : ℕ) → q < m → length (varint q) ≤ c) → (n : ℕ) → n < 128 * m → length (varint n) ≤ c + 1
varint_more m c h n l = elim (cases_lt n 128) [
  | inl small ↦ omega (arith, ap length (varint_small n small))
  | inr large ↦ omega (arith, ap length (varint_large n large), h (n / 128) (omega arith))
]

-- so an index of 31 bits has five
varint_index : (n : ℕ) → n < 2 ^ 31 → length (varint n) ≤ 5
varint_index n l =
    varint_more (2 ^ 28) 4 (varint_more (2 ^ 21) 3 (varint_more (2 ^ 14) 2 (varint_more 128 1 (λ q h. omega (arith, ap length (varint_small q h)))))) n (omega arith)

-- ---- fields

-- bytes that are at most five times as many, after their length
long_five : (n : ℕ) (a b : List ℕ) → length a ≤ 5 * length b → length (long_field n a) ≤ 5 * length (long_field n b)
long_five n a b h = omega (arith, long_len n a, long_len n b, varint_five (length a) (length a) (length b) (omega arith) (omega arith), varint_some (n * 8 + 2))

bytes_some : (n : ℕ) (b : List ℕ) → (length b ≡ 0 → ⊥) → bytes_field n b ≡ long_field n b
unfolding bytes_field
bytes_some n b h = let t : (length b == 0) ≡ false = ne_eqb _ _ h in rw t refl

bytes_none : (n : ℕ) (b : List ℕ) → length b ≡ 0 → bytes_field n b ≡ []
unfolding bytes_field
bytes_none n b h = let t : (length b == 0) ≡ true = eq-eqb _ _ h in rw t refl

bytes_five : (n : ℕ) (a b : List ℕ) → length a ≤ 5 * length b → length (bytes_field n a) ≤ 5 * length (bytes_field n b)
bytes_five n a b h = elim (cases_eq (length a) 0) [
  | inl none ↦ omega (arith, ap length (bytes_none n a none))
  | inr some ↦ omega (arith, ap length (bytes_some n a some), ap length (bytes_some n b (λ e. some (omega arith))), long_five n a b h)
]

-- ---- indexes

number_some : (n v : ℕ) → (v ≡ 0 → ⊥) → number_field n v ≡ varint (n * 8) ++ varint v
unfolding number_field
number_some n v h = let t : (v == 0) ≡ false = ne_eqb _ _ h in rw t refl

number_none : (n : ℕ) → number_field n 0 ≡ []
unfolding number_field
number_none n = refl

-- only 0 is written as 0
number_zero_of : (x : ℤ) → number_to I32 x ≡ 0 → FitsNumber I32 x → x ≡ pos 0
number_zero_of x e f = sym f.1 ∙ ap (λ v. cast_signed w32 (v % 2 ^ 32)) e

-- the field of a new index
index_five : (n : ℕ) (x y : ℤ) → FitsNumber I32 x → IsNewIndex x y → length (number_field n (number_to I32 y)) ≤ 5 * length (number_field n (number_to I32 x))
index_five n x y f i =
    let v : number_to I32 y ≡ i.new = ap (number_to I32) i.is ∙ omega (arith, i.small) in
    elim (cases_eq i.new 0) [
      | inl none ↦ omega (arith, ap (λ m. length (number_field n m)) (v ∙ none), ap length (number_none n))
      | inr some ↦
          let other : number_to I32 x ≡ 0 → ⊥ = λ e. some (i.zero (number_zero_of x e f)) in
          omega (
            arith,
            ap (λ m. length (number_field n m)) v,
            ap length (number_some n i.new some),
            ap length (number_some n (number_to I32 x) other),
            length-append (varint (n * 8)) (varint i.new),
            length-append (varint (n * 8)) (varint (number_to I32 x)),
            varint_index i.new i.small,
            varint_some (n * 8),
            varint_some (number_to I32 x),
          )
    ]

-- it is a number of 32 bits
index_fits : (x y : ℤ) → IsNewIndex x y → FitsNumber I32 y
index_fits x y i = subst (FitsNumber I32) (sym i.is) (small i.new i.small)
  where
    small : (n : ℕ) → n < 2 ^ 31 → FitsNumber I32 (pos n)
    small n h =
        let e : cast_unsigned w64 (pos n) % 2 ^ 32 ≡ n = omega arith in
        (omega arith, ap (cast_signed w32) e ∙ to_z_pos w32 n h)

-- ---- values

-- `to` gives indexes of 31 bits
module _ (to : Table → ℤ → ℤ) (gives : GivesIndexes to) where
  -- a bound for each element is one for their texts, each after its tag and length
  items_five : {A : Type 0} (n : ℕ) (f : A → List ℕ) (g : A → A) (P : A → Type 0) → ((x : A) → P x → length (f (g x)) ≤ 5 * length (f x))
      → (xs : List A) → Each P xs → length (items_text n (map f (map g xs))) ≤ 5 * length (items_text n (map f xs))
  items_five n f g P b [] p = omega arith
  items_five n f g P b (x ∷ xs) p =
      omega (
        arith,
        length-append (long_field n (f (g x))) (items_text n (map f (map g xs))),
        length-append (long_field n (f x)) (items_text n (map f xs)),
        long_five n (f (g x)) (f x) (b x p.0),
        items_five n f g P b xs p.1,
      )

  -- and packed indexes
  packed_five : (T : Table) (xs : List ℤ) → length (numbers_text I32 (map (to T) xs)) ≤ 5 * length (numbers_text I32 xs)
  packed_five T [] = omega arith
  packed_five T (x ∷ xs) =
      let h = gives T x in
      let v : number_to I32 (to T x) ≡ h.new = ap (number_to I32) h.is ∙ omega (arith, h.small) in
      omega (
        arith,
        length-append (varint (number_to I32 (to T x))) (numbers_text I32 (map (to T) xs)),
        length-append (varint (number_to I32 x)) (numbers_text I32 xs),
        ap (λ m. length (varint m)) v,
        varint_index h.new h.small,
        varint_some (number_to I32 x),
        packed_five T xs,
      )

  -- a value with new indexes is not much longer
  abbrev NotLonger : Shape → Type 0
  NotLonger s = (x : Value s) → InRange s x → length (spell s (moved to s x)) ≤ 5 * length (spell s x)

  -- a singular row
  one_five : (k : Shape) → NotLonger k → (n : ℕ) (x : Value k) → InRange k x → length (spell_one k (spell k) n (moved to k x)) ≤ 5 * length (spell_one k (spell k) n x)
  one_five (Index T k) f n x i = index_five n x (to T x) i (gives T x)
  one_five End f n x i = bytes_five n (spell End x) (spell End x) (f x i)
  one_five (One m k rest) f n x i = bytes_five n (spell (One m k rest) (moved to (One m k rest) x)) (spell (One m k rest) x) (f x i)
  one_five (Many m k rest) f n x i = bytes_five n (spell (Many m k rest) (moved to (Many m k rest) x)) (spell (Many m k rest) x) (f x i)
  one_five k f n x i = omega arith

  -- a repeated row
  many_five : (k : Shape) → NotLonger k → (n : ℕ) (xs : List (Value k)) → Each (InRange k) xs
      → length (spell_many k (spell k) n (moved_each k (moved to k) xs)) ≤ 5 * length (spell_many k (spell k) n xs)
  many_five (Index T k) f n xs i = bytes_five n (numbers_text I32 (map (to T) xs)) (numbers_text I32 xs) (packed_five T xs)
  many_five (One m k rest) f n xs i = items_five n (spell (One m k rest)) (moved to (One m k rest)) (InRange (One m k rest)) f xs i
  many_five (Many m k rest) f n xs i = items_five n (spell (Many m k rest)) (moved to (Many m k rest)) (InRange (Many m k rest)) f xs i
  many_five k f n xs i = omega arith

  -- the whole
  spell_five : (s : Shape) → NotLonger s
  spell_five (One n k rest) x i =
      omega (
        arith,
        length-append (spell_one k (spell k) n (moved to k x.0)) (spell rest (moved to rest x.1)),
        length-append (spell_one k (spell k) n x.0) (spell rest x.1),
        one_five k (spell_five k) n x.0 i.0,
        spell_five rest x.1 i.1,
      )
  spell_five (Many n k rest) x i =
      omega (
        arith,
        length-append (spell_many k (spell k) n (moved_each k (moved to k) x.0)) (spell rest (moved to rest x.1)),
        length-append (spell_many k (spell k) n x.0) (spell rest x.1),
        many_five k (spell_five k) n x.0 i.0,
        spell_five rest x.1 i.2,
      )
  spell_five s x i = omega arith

  -- ---- ranges

  -- what is asked of AnyValues in a list
  also_moved : (k : Shape) (xs : List (Value k)) → AlsoIn k xs → AlsoIn k (moved_each k (moved to k) xs)
  also_moved (Any depth) xs i = i
  also_moved k xs i = tt

  each_moved : {A : Type 0} (P : A → Type 0) (g : A → A) → ((x : A) → P x → P (g x)) → (xs : List A) → Each P xs → Each P (map g xs)
  each_moved P g f [] i = tt
  each_moved P g f (x ∷ xs) i = (f x i.0, each_moved P g f xs i.1)

  -- a value with new indexes is in its range
  range_moved : (s : Shape) (x : Value s) → InRange s x → InRange s (moved to s x)
  range_moved (Index T k) x i = index_fits x (to T x) (gives T x)
  range_moved (One n k rest) x i = (range_moved k x.0 i.0, range_moved rest x.1 i.1)
  range_moved (Many n k rest) x i = (subst (Each (InRange k)) (sym (each_is_map to k x.0)) (each_moved (InRange k) (moved to k) (range_moved k) x.0 i.0), also_moved k x.0 i.1, range_moved rest x.1 i.2)
  range_moved s x i = i

-- ---- what is used of it

pub moved_short : (s : Shape) (to : Table → ℤ → ℤ) → GivesIndexes to → (v : Value s) → Fits s v → length (spell s (moved to s v)) ≤ 5 * length (spell s v)
moved_short s to g v f = spell_five to g s v (in_range s v f)

-- so it fits where the old value is short
pub moved_fits : (s : Shape) → IsMessage s → Lawful s → (to : Table → ℤ → ℤ) → GivesIndexes to → (v : Value s) → Fits s v → length (spell s v) < 2 ^ 60 → Fits s (moved to s v)
moved_fits s m l to g v f short =
    let b = moved_short s to g v f in
    fits_from s m l (moved to s v) (range_moved to g s v (in_range s v f)) (omega arith)
