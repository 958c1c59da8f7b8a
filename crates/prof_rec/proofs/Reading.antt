-- One more sample, read of bytes onto the columns.
use Rattle.std.proofs.Common.{◌≡◌, ℕ, ℤ, pos, List, [], ◌∷◌, ◌++◌, map, Result, Ok, Err, refl, sym, ap, ◌∙◌}
use Rattle.std.proofs.lemmas.List.{append-nil, map_push, map-id}
use Rattle.schema.specs.Fault.{Fault}
use Rattle.schema.specs.Merge.{merge}
use Rattle.schema.specs.Messages.{sample}
use Rattle.schema.specs.Shape.{Value, empty}
use Rattle.schema.specs.Decoding.{◌>>=◌}
use Rattle.schema_laws.proofs.Results.{map_ok, map_err}
use Rattle.pb_wire.specs.Answers.{IsFault}
use Rattle.pb_wire.specs.declared.fault.ReadFault.{ReadFault}
use Rattle.pb_wire.specs.declared.fault.ReadFault.TheVariants as errors
use Rattle.pb_wire.specs.View.{fault_view}
use Rattle.prof_rec.specs.declared.head.Head.{Head}
use Rattle.prof_rec.specs.declared.sample.Sample.{Sample}
use Rattle.prof_rec.specs.Columns.{IsParted, last_head, samples_in}
use Rattle.prof_rec.specs.Onto.{onto, read_more}
use Rattle.prof_rec.specs.Views.{numbers_view, sample_view}
use Rattle.prof_rec.proofs.Heads.{Grew, added, columns_grew}
use Rattle.prof_rec.proofs.Onto.{sample_behind}

-- the columns before a sample is read: its indexes are 0
abbrev pub opened : Sample → Sample
opened all = record {
  stack_index = pos 0;
  values = all.values;
  attribute_indices = all.attribute_indices;
  link_index = pos 0;
  timestamps_unix_nano = all.timestamps_unix_nano;
}

-- a sample of these members
abbrev made : ℤ → List ℤ → List ℤ → ℤ → List ℕ → Value sample
made s v a l t = (s, (v, (a, (l, (t, tt)))))

-- what is read onto the columns is read after them
behind_columns : (all : Sample) (base : ℕ) (bytes : List ℕ)
    → merge sample (sample_view (opened all)) base bytes ≡ (merge sample (empty sample) base bytes >>= λ w. Ok (onto sample (sample_view (opened all)) w))
behind_columns all base bytes =
    let v : numbers_view all.values ≡ numbers_view all.values ++ [] = sym (append-nil (numbers_view all.values)) in
    let a : numbers_view all.attribute_indices ≡ numbers_view all.attribute_indices ++ [] = sym (append-nil (numbers_view all.attribute_indices)) in
    let t : all.timestamps_unix_nano ≡ all.timestamps_unix_nano ++ [] = sym (append-nil all.timestamps_unix_nano) in
    let e : made (pos 0) (numbers_view all.values) (numbers_view all.attribute_indices) (pos 0) all.timestamps_unix_nano
    ≡ made (pos 0) (numbers_view all.values ++ []) (numbers_view all.attribute_indices ++ []) (pos 0) (all.timestamps_unix_nano ++ []) = cc in
    ap (λ (v : Value sample). merge sample v base bytes) e ∙ sample_behind (sample_view (opened all)) (empty sample) base bytes

-- a fault of the bytes is one of the whole
pub read_fails : (f : ReadFault) (all : Sample) (samples : List (Value sample)) (base : ℕ) (bytes : List ℕ)
    → IsFault f (merge sample (sample_view (opened all)) base bytes) → IsFault f (read_more samples base bytes)
read_fails errors.NoMemory all samples base bytes h = tt
read_fails (errors.Wire f) all samples base bytes h =
    let r = merge sample (empty sample) base bytes in
    let e : r ≡ Err (fault_view f) = map_err r (onto sample (sample_view (opened all))) (fault_view f) (sym (behind_columns all base bytes) ∙ h) in
    ap (λ (q : Result (Value sample) Fault). q >>= λ v. Ok (samples ++ v ∷ [])) e

-- the columns, and what was read
pub record HasRead (hs : List Head) (old new : Sample) (base : ℕ) (bytes : List ℕ) : Type 0 where
  pub parted : IsParted (hs ++ last_head new ∷ []) new
  pub read : read_more (map sample_view (samples_in hs old)) base bytes ≡ Ok (map sample_view (samples_in (hs ++ last_head new ∷ []) new))

pub has_read : (hs : List Head) (old new : Sample) (base : ℕ) (bytes : List ℕ) → IsParted hs old
    → merge sample (sample_view (opened old)) base bytes ≡ Ok (sample_view new) → HasRead hs old new base bytes
has_read hs old new base bytes p h =
    let r = merge sample (empty sample) base bytes in
    let found = map_ok r (onto sample (sample_view (opened old))) (sample_view new) (sym (behind_columns old base bytes) ∙ h) in
    let w : Value sample = found.0 in
    let is : onto sample (sample_view (opened old)) w ≡ sample_view new = found.2 in
    let stack : w.0 ≡ new.stack_index = ap (λ (v : Value sample). v.0) is in
    let link : w.1.1.1.0 ≡ new.link_index = ap (λ (v : Value sample). v.1.1.1.0) is in
    let values : new.values ≡ old.values ++ w.1.0 =
    sym (map-id new.values) ∙ sym (ap (λ (v : Value sample). v.1.0) is) ∙ ap (λ (xs : List ℤ). xs ++ w.1.0) (map-id old.values) in
    let attributes : new.attribute_indices ≡ old.attribute_indices ++ w.1.1.0 =
    sym (map-id new.attribute_indices) ∙ sym (ap (λ (v : Value sample). v.1.1.0) is) ∙ ap (λ (xs : List ℤ). xs ++ w.1.1.0) (map-id old.attribute_indices) in
    let times : new.timestamps_unix_nano ≡ old.timestamps_unix_nano ++ w.1.1.1.1.0 = sym (ap (λ (v : Value sample). v.1.1.1.1.0) is) in
    let grown : Grew hs old new w.1.0 w.1.1.0 w.1.1.1.1.0 = columns_grew hs old new w.1.0 w.1.1.0 w.1.1.1.1.0 p values attributes times in
    let v : numbers_view w.1.0 ≡ w.1.0 = map-id w.1.0 in
    let a : numbers_view w.1.1.0 ≡ w.1.1.0 = map-id w.1.1.0 in
    let last : made new.stack_index (numbers_view w.1.0) (numbers_view w.1.1.0) new.link_index w.1.1.1.1.0 ≡ made w.0 w.1.0 w.1.1.0 w.1.1.1.0 w.1.1.1.1.0 = cc in
    let all : map sample_view (samples_in (hs ++ last_head new ∷ []) new) ≡ map sample_view (samples_in hs old) ++ w ∷ [] =
    ap (λ (xs : List Sample). map sample_view xs) grown.samples
    ∙ map_push sample_view (samples_in hs old) (added new w.1.0 w.1.1.0 w.1.1.1.1.0)
    ∙ ap (λ (x : Value sample). map sample_view (samples_in hs old) ++ x ∷ []) last in
    record {
      parted = grown.parted;
      read = ap (λ (q : Result (Value sample) Fault). q >>= λ v. Ok (map sample_view (samples_in hs old) ++ v ∷ [])) found.1 ∙ ap (λ (xs : List (Value sample)). Ok xs) (sym all);
    }
