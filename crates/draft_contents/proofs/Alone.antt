-- One profile of a message as a message of its own: it is such a part as the whole is, and a walk over it is one over its record.
use Rattle.std.proofs.Common.{◌≡◌, ℕ, zero, suc, ◌<◌, ◌≤◌, List, [], ◌∷◌, ◌++◌, length, get_or, map, refl, sym, ap, ◌∙◌, arith}
use Rattle.std.proofs.lemmas.List.{append-nil, length-append}
use Rattle.schema.specs.Each.{Each}
use Rattle.schema.specs.Fits.{FitsTogether}
use Rattle.schema.specs.Messages.{dictionary, profile, resource, scope, scope_profiles, resource_profiles, envelope}
use Rattle.schema.specs.Shape.{Shape, End, One, Text, Value, empty}
use Rattle.schema.specs.Spell.{spell, spell_one, spell_many}
use Rattle.schema.specs.Texts.{items_text, long_field}
use Rattle.meaning.specs.Canonical.{records, values}
use Rattle.meaning.specs.Meaning.{resolve, uses}
use Rattle.meaning.specs.Tables.{with_new}
use Rattle.meaning.specs.Tree.{Tree, tree}
use Rattle.dict_rec.specs.declared.dictionary.Dictionary.{Dictionary}
use Rattle.dict_rec.specs.Views.{dictionary_view}
use Rattle.otlp_msg.specs.declared.path.ProfilePos.{ProfilePos}
use Rattle.parts.specs.Records.{holder}
use Rattle.parts.proofs.Lengths.{long_grows}
use Rattle.renumber.specs.Entries.{IsPart, new_entries, old_entries}
use Rattle.renumber.specs.Walk.{State, Walked, WalkedEach}
use Rattle.renumber.proofs.Parts.{part_row, part_rows, resource_parts, scope_parts}
use Rattle.renumber.proofs.Walks.{walked_nothing, walked_row, walked_rows}
use Rattle.draft_contents.specs.Singles.{IsPosition, profile_at, record_alone, resource_alone, resource_at, scope_alone, scope_at}

-- ---- walks

-- a walk over one value is one over a list of it
walked_one : (s : Shape) (a b : State) (x : Value s) → Walked s a b x → WalkedEach s a b (x ∷ [])
walked_one s a b x q = record {
  same = q.same;
  walked = λ T.
      let us : List Tree = uses T s (resolve (old_entries a.source) s (tree s x)) in
      q.walked T ∙ ap (with_new (values (new_entries a.keys) T)) (sym (append-nil (us ++ []) ∙ append-nil us));
  keeps = q.keeps;
  known = ((q.known, tt), tt);
}

-- and one over a profile is one over its record, whose heads mention no table
pub alone_walked : (a b : State) (r : Value resource_profiles) (s : Value scope_profiles) (p : Value profile) → Walked profile a b p
    → WalkedEach resource_profiles a b (resource_alone r (scope_alone s p) ∷ [])
alone_walked a b r s p q =
    let inner : Value scope_profiles = scope_alone s p in
    let outer : Value resource_profiles = resource_alone r inner in
    let w : Walked scope_profiles a b inner =
    walked_row a a b inner (walked_nothing scope refl inner.0 a)
    (walked_rows a b b inner.1 (walked_one profile a b p q) (walked_nothing (One 3 Text End) refl inner.1.1 b)) in
    walked_one resource_profiles a b outer
    (walked_row a a b outer (walked_nothing resource refl outer.0 a)
    (walked_rows a b b outer.1 (walked_one scope_profiles a b inner w) (walked_nothing (One 3 Text End) refl outer.1.1 b)))

-- its profile is a part, where its record is
pub profile_part : (old : Dictionary) (r : Value resource_profiles) (s : Value scope_profiles) (p : Value profile)
    → IsPart (records resource_profiles) old (resource_alone r (scope_alone s p) ∷ [], tt) → IsPart profile old p
profile_part old r s p h =
    let outer = (part_rows old (resource_alone r (scope_alone s p) ∷ [], tt) h).0.0 in
    (scope_parts old (scope_alone s p) (resource_parts old (resource_alone r (scope_alone s p)) outer).1.0).1.0

-- ---- lengths

-- one element's field is no longer than those of all, also where the element is shorter
one_le : {X : Type 0} (n : ℕ) (f : X → List ℕ) (xs : List X) (i : ℕ) (d x : X) → i < length xs → length (f x) ≤ length (f (get_or xs i d))
    → length (items_text n (f x ∷ [])) ≤ length (items_text n (map f xs))
one_le n f [] i d x l s = absurd (omega arith)
one_le n f (y ∷ ys) zero d x l s =
    omega (arith, long_grows n (f x) (f y) s, length-append (long_field n (f x)) [], length-append (long_field n (f y)) (items_text n (map f ys)))
one_le n f (y ∷ ys) (suc i) d x l s =
    omega (arith, one_le n f ys i d x (omega arith) s, length-append (long_field n (f y)) (items_text n (map f ys)))

-- what holds of each element holds of the one at a place
each_at : {X : Type 0} (P : X → Type 0) (xs : List X) (i : ℕ) (d : X) → i < length xs → Each P xs → P (get_or xs i d)
each_at P [] i d l h = absurd (omega arith)
each_at P (x ∷ xs) zero d l h = h.0
each_at P (x ∷ xs) (suc i) d l h = each_at P xs i d (omega arith) h.1

-- ---- parts

-- y is a part of a message, and no longer than x
record IsNarrower (k : Shape) (old : Dictionary) (x y : Value k) : Type 0 where
  part : IsPart k old y
  shorter : length (spell k y) ≤ length (spell k x)

-- A record that is a part, where it holds one element alone that it held, or a narrower one.
module _ (h k : Shape) (old : Dictionary) (many : (xs : List (Value k)) → spell_many k (spell k) 2 xs ≡ items_text 2 (map (spell k) xs)) (together : (xs : List (Value k)) → FitsTogether k xs)
    (r : Value (holder h k)) (i : ℕ) (d : Value k) (l : i < length r.1.0) (part : IsPart (holder h k) old r) where
  rows : Each (IsPart k old) r.1.0
  rows = (part_rows old r.1 (part_row old r part).1).0

  held_part : IsPart k old (get_or r.1.0 i d)
  held_part = each_at (IsPart k old) r.1.0 i d l rows

  held_alone : (x : Value k) → IsNarrower k old (get_or r.1.0 i d) x → IsNarrower (holder h k) old r (r.0, (x ∷ [], r.1.1))
  held_alone x n =
      let front : List ℕ = spell_one h (spell h) 1 r.0 in
      let all : List ℕ = spell_many k (spell k) 2 r.1.0 in
      let one : List ℕ = spell_many k (spell k) 2 (x ∷ []) in
      let back : List ℕ = spell (One 3 Text End) r.1.1 in
      let e = one_le 2 (spell k) r.1.0 i d x l n.shorter in
      let le : length (spell (holder h k) (r.0, (x ∷ [], r.1.1))) ≤ length (spell (holder h k) r) =
      omega (
        arith,
        e,
        ap length (many r.1.0),
        ap length (many (x ∷ [])),
        length-append front (all ++ back),
        length-append all back,
        length-append front (one ++ back),
        length-append one back,
      ) in
      let short = part.short in
      let s = n.part.short in
      record {
        part = record {
          within = (part.within.0, ((n.part.within, tt), part.within.1.1));
          fits = (part.fits.0, part.fits.1, (((n.part.fits, omega (arith, s)), tt), together (x ∷ []), part.fits.2.2));
          short = omega (arith, le, short);
        };
        shorter = le;
      }

-- so with one of its profiles alone a message is a part that it was
pub alone_part : (old : Dictionary) (rs : List (Value resource_profiles)) (pos : ProfilePos) → IsPosition rs pos → IsPart envelope old (rs, (dictionary_view old, tt))
    → IsPart envelope old (record_alone rs pos ∷ [], (dictionary_view old, tt))
alone_part old rs pos i p =
    let r : Value resource_profiles = resource_at rs pos in
    let s : Value scope_profiles = scope_at rs pos in
    let x : Value profile = profile_at rs pos in
    let outer : IsPart resource_profiles old r =
    each_at (IsPart resource_profiles old) rs pos.resource (empty resource_profiles) i.resource (part_rows old (rs, (dictionary_view old, tt)) p).0 in
    let inner : IsPart scope_profiles old s = held_part resource scope_profiles old (λ xs. refl) (λ xs. tt) r pos.scope (empty scope_profiles) i.scope outer in
    let same : IsNarrower profile old x x =
    record { part = held_part scope profile old (λ xs. refl) (λ xs. tt) s pos.profile (empty profile) i.profile inner; shorter = omega arith } in
    let n : IsNarrower resource_profiles old r (record_alone rs pos) =
    held_alone resource scope_profiles old (λ xs. refl) (λ xs. tt) r pos.scope (empty scope_profiles) i.scope outer (scope_alone s x)
    (held_alone scope profile old (λ xs. refl) (λ xs. tt) s pos.profile (empty profile) i.profile inner x same) in
    let t : List ℕ = spell (One 2 dictionary End) (dictionary_view old, tt) in
    let e = one_le 1 (spell resource_profiles) rs pos.resource (empty resource_profiles) (record_alone rs pos) i.resource n.shorter in
    let short = p.short in
    let own = n.part.short in
    record {
      within = ((n.part.within, tt), p.within.1);
      fits = (((n.part.fits, omega (arith, own)), tt), tt, p.fits.2);
      short = omega (
        arith,
        e,
        short,
        length-append (items_text 1 (map (spell resource_profiles) rs)) t,
        length-append (items_text 1 (spell resource_profiles (record_alone rs pos) ∷ [])) t,
      );
    }
