-- Heads and columns: the sample at a place, and one more sample.
use Rattle.std.proofs.Common.{◌≡◌, ℕ, ℤ, zero, suc, ◌+◌, ◌-◌, ◌<◌, ◌≤◌, List, [], ◌∷◌, ◌++◌, length, take, drop, get_or, Some, slice_get, refl, sym, ap, ◌∙◌, arith, length-append, subst}
use Rattle.std.specs.List.{slice_range}
use Rattle.std.proofs.Math.Seq.{drop-append_seam, take-length}
use Rattle.std.proofs.lemmas.Option.{slice_get-get_or}
use Rattle.std.proofs.lemmas.List.{drop-append-le, take-append-le, length-drop}
use Rattle.prof_rec.specs.declared.head.Head.{Head}
use Rattle.prof_rec.specs.declared.sample.Sample.{Sample}
use Rattle.prof_rec.specs.Columns.{Ascend, IsBefore, IsParted, last_after, last_head, sample_from, samples_after, samples_in, start}

-- as many samples as heads
pub as_many : (b : Head) (hs : List Head) (vs ks : List ℤ) (ts : List ℕ) → length (samples_after b hs vs ks ts) ≡ length hs
as_many b [] vs ks ts = refl
as_many b (h ∷ hs) vs ks ts = ap suc (as_many h hs vs ks ts)

-- ---- the sample at a place

pub sample_there : (b : Head) (hs : List Head) (vs ks : List ℤ) (ts : List ℕ) (i : ℕ) (d : Sample) (e : Head) → i < length hs
    → get_or (samples_after b hs vs ks ts) i d ≡ sample_from (get_or (b ∷ hs) i e) (get_or hs i e) vs ks ts
sample_there b [] vs ks ts i d e lt = absurd (omega arith)
sample_there b (h ∷ hs) vs ks ts zero d e lt = refl
sample_there b (h ∷ hs) vs ks ts (suc i) d e lt = sample_there h hs vs ks ts i d e (omega arith)

-- the last ends are no less than those before them
last_is_after : (b : Head) (hs : List Head) → Ascend b hs → IsBefore b (last_after b hs)
last_is_after b [] a = record { values = omega arith; attributes = omega arith; times = omega arith }
last_is_after b (h ∷ hs) a = between b h (last_after h hs) a.0 (last_is_after h hs a.1) where
  between : (x y z : Head) → IsBefore x y → IsBefore y z → IsBefore x z
  between x y z p q = record { values = omega arith; attributes = omega arith; times = omega arith }

-- so is each head between the one before it and the last
pub head_there : (b : Head) (hs : List Head) (i : ℕ) (e : Head) → Ascend b hs → i < length hs
    → IsBefore (get_or (b ∷ hs) i e) (get_or hs i e) × IsBefore (get_or hs i e) (last_after b hs)
head_there b [] i e a lt = absurd (omega arith)
head_there b (h ∷ hs) zero e a lt = (a.0, last_is_after h hs a.1)
head_there b (h ∷ hs) (suc i) e a lt = head_there h hs i e a.1 (omega arith)

-- ---- one more sample

-- a part of a list that grows stays
part_stays : {A : Type 0} (xs ys : List A) (a b : ℕ) → a ≤ b → b ≤ length xs → slice_range (xs ++ ys) a b ≡ slice_range xs a b
part_stays {A} xs ys a b le lt =
    ap (λ (t : List A). take (b - a) t) (drop-append-le a xs ys (omega arith)) ∙ take-append-le (b - a) (drop a xs) ys (omega (arith, length-drop a xs))

-- its end is what was added
part_added : {A : Type 0} (xs ys : List A) (a b : ℕ) → a ≡ length xs → b ≡ length (xs ++ ys) → slice_range (xs ++ ys) a b ≡ ys
part_added {A} xs ys a b e f =
    ap (λ (n : ℕ). take (b - n) (drop n (xs ++ ys))) e
    ∙ ap (λ (t : List A). take (b - length xs) t) (drop-append_seam xs ys)
    ∙ ap (λ (n : ℕ). take n ys) (omega (arith, length-append xs ys))
    ∙ take-length ys

-- a sample whose lists end within columns that grow stays
sample_stays : (b h : Head) (vs ws ks bs : List ℤ) (ts us : List ℕ) → IsBefore b h → h.values_end ≤ length vs → h.attributes_end ≤ length ks → h.times_end ≤ length ts
    → sample_from b h (vs ++ ws) (ks ++ bs) (ts ++ us) ≡ sample_from b h vs ks ts
sample_stays b h vs ws ks bs ts us before v a t =
    let p : slice_range (vs ++ ws) b.values_end h.values_end ≡ slice_range vs b.values_end h.values_end = part_stays vs ws b.values_end h.values_end before.values v in
    let q : slice_range (ks ++ bs) b.attributes_end h.attributes_end ≡ slice_range ks b.attributes_end h.attributes_end = part_stays ks bs b.attributes_end h.attributes_end before.attributes a in
    let r : slice_range (ts ++ us) b.times_end h.times_end ≡ slice_range ts b.times_end h.times_end = part_stays ts us b.times_end h.times_end before.times t in
    cc

-- so do all
samples_stay : (b : Head) (hs : List Head) (vs ws ks bs : List ℤ) (ts us : List ℕ) → Ascend b hs
    → (last_after b hs).values_end ≤ length vs → (last_after b hs).attributes_end ≤ length ks → (last_after b hs).times_end ≤ length ts
    → samples_after b hs (vs ++ ws) (ks ++ bs) (ts ++ us) ≡ samples_after b hs vs ks ts
samples_stay b [] vs ws ks bs ts us asc v a t = refl
samples_stay b (h ∷ hs) vs ws ks bs ts us asc v a t =
    let l = last_is_after h hs asc.1 in
    ap (λ (s : Sample). s ∷ samples_after h hs (vs ++ ws) (ks ++ bs) (ts ++ us)) (sample_stays b h vs ws ks bs ts us asc.0 (omega arith) (omega arith) (omega arith))
    ∙ ap (λ (r : List Sample). sample_from b h vs ks ts ∷ r) (samples_stay h hs vs ws ks bs ts us asc.1 v a t)

-- one more head
samples_more : (b : Head) (hs : List Head) (h : Head) (vs ks : List ℤ) (ts : List ℕ)
    → samples_after b (hs ++ h ∷ []) vs ks ts ≡ samples_after b hs vs ks ts ++ sample_from (last_after b hs) h vs ks ts ∷ []
samples_more b [] h vs ks ts = refl
samples_more b (g ∷ hs) h vs ks ts = ap (λ (r : List Sample). sample_from b g vs ks ts ∷ r) (samples_more g hs h vs ks ts)

last_more : (b : Head) (hs : List Head) (h : Head) → last_after b (hs ++ h ∷ []) ≡ h
last_more b [] h = refl
last_more b (g ∷ hs) h = last_more g hs h

ascend_more : (b : Head) (hs : List Head) (h : Head) → Ascend b hs → IsBefore (last_after b hs) h → Ascend b (hs ++ h ∷ [])
ascend_more b [] h a i = (i, tt)
ascend_more b (g ∷ hs) h a i = (a.0, ascend_more g hs h a.1 i)

-- the sample at the ends of columns, after those that there were
abbrev pub added : Sample → List ℤ → List ℤ → List ℕ → Sample
added all ws bs us = record { stack_index = all.stack_index; values = ws; attribute_indices = bs; link_index = all.link_index; timestamps_unix_nano = us }

-- columns that grew, and a head for what came
pub record Grew (hs : List Head) (old new : Sample) (ws bs : List ℤ) (us : List ℕ) : Type 0 where
  pub parted : IsParted (hs ++ last_head new ∷ []) new
  pub samples : samples_in (hs ++ last_head new ∷ []) new ≡ samples_in hs old ++ added new ws bs us ∷ []

grew : (hs : List Head) (old : Sample) (ws bs : List ℤ) (us : List ℕ) (stack link : ℤ) → IsParted hs old
    → Grew hs old (record { stack_index = stack; values = old.values ++ ws; attribute_indices = old.attribute_indices ++ bs; link_index = link; timestamps_unix_nano = old.timestamps_unix_nano ++ us }) ws bs us
grew hs old ws bs us stack link p =
    let new : Sample = record { stack_index = stack; values = old.values ++ ws; attribute_indices = old.attribute_indices ++ bs; link_index = link; timestamps_unix_nano = old.timestamps_unix_nano ++ us } in
    let h : Head = last_head new in
    let l : Head = last_after start hs in
    let before : IsBefore l h = record {
      values = omega (arith, length-append old.values ws);
      attributes = omega (arith, length-append old.attribute_indices bs);
      times = omega (arith, length-append old.timestamps_unix_nano us);
    } in
    let v : slice_range (old.values ++ ws) l.values_end h.values_end ≡ ws = part_added old.values ws l.values_end h.values_end p.values refl in
    let a : slice_range (old.attribute_indices ++ bs) l.attributes_end h.attributes_end ≡ bs = part_added old.attribute_indices bs l.attributes_end h.attributes_end p.attributes refl in
    let t : slice_range (old.timestamps_unix_nano ++ us) l.times_end h.times_end ≡ us = part_added old.timestamps_unix_nano us l.times_end h.times_end p.times refl in
    let last : sample_from l h new.values new.attribute_indices new.timestamps_unix_nano ≡ added new ws bs us = cc in
    record {
      parted = record {
        ascend = ascend_more start hs h p.ascend before;
        values = ap (λ (x : Head). x.values_end) (last_more start hs h);
        attributes = ap (λ (x : Head). x.attributes_end) (last_more start hs h);
        times = ap (λ (x : Head). x.times_end) (last_more start hs h);
      };
      samples = samples_more start hs h new.values new.attribute_indices new.timestamps_unix_nano
          ∙ ap (λ (r : List Sample). r ++ sample_from l h new.values new.attribute_indices new.timestamps_unix_nano ∷ [])
          (samples_stay start hs old.values ws old.attribute_indices bs old.timestamps_unix_nano us p.ascend (omega (arith, p.values)) (omega (arith, p.attributes)) (omega (arith, p.times)))
          ∙ ap (λ (s : Sample). samples_in hs old ++ s ∷ []) last;
    }

-- the same where the new columns have names of their own
pub columns_grew : (hs : List Head) (old new : Sample) (ws bs : List ℤ) (us : List ℕ) → IsParted hs old
    → new.values ≡ old.values ++ ws → new.attribute_indices ≡ old.attribute_indices ++ bs → new.timestamps_unix_nano ≡ old.timestamps_unix_nano ++ us → Grew hs old new ws bs us
columns_grew hs old new ws bs us p v a t =
    let made : Sample = record { stack_index = new.stack_index; values = old.values ++ ws; attribute_indices = old.attribute_indices ++ bs; link_index = new.link_index; timestamps_unix_nano = old.timestamps_unix_nano ++ us } in
    let same : Sample = record { stack_index = new.stack_index; values = new.values; attribute_indices = new.attribute_indices; link_index = new.link_index; timestamps_unix_nano = new.timestamps_unix_nano } in
    let e : made ≡ same = cc in
    subst (λ (x : Sample). Grew hs old x ws bs us) e (grew hs old ws bs us new.stack_index new.link_index p)

-- ---- the sample that is seen

-- a head between the one before it and the ends of the columns
pub record Shown (before h : Head) (all : Sample) : Type 0 where
  pub after : IsBefore before h
  pub values : h.values_end ≤ length all.values
  pub attributes : h.attributes_end ≤ length all.attribute_indices
  pub times : h.times_end ≤ length all.timestamps_unix_nano

pub shown : (hs : List Head) (all : Sample) (i : ℕ) (before h : Head) → IsParted hs all → i < length hs → before ≡ get_or (start ∷ hs) i start → h ≡ get_or hs i start → Shown before h all
shown hs all i before h p lt e f =
    let there = head_there start hs i start p.ascend lt in
    let between : Shown (get_or (start ∷ hs) i start) (get_or hs i start) all = record {
      after = there.0;
      values = omega (arith, there.1.values, p.values);
      attributes = omega (arith, there.1.attributes, p.attributes);
      times = omega (arith, there.1.times, p.times);
    } in
    subst (λ (x : Head). Shown x h all) (sym e) (subst (λ (x : Head). Shown (get_or (start ∷ hs) i start) x all) (sym f) between)

pub seen : (hs : List Head) (all : Sample) (i : ℕ) (before h : Head) (s : Sample) → i < length hs → before ≡ get_or (start ∷ hs) i start → h ≡ get_or hs i start
    → sample_from before h all.values all.attribute_indices all.timestamps_unix_nano ≡ s → slice_get (samples_in hs all) i ≡ Some s
seen hs all i before h s lt e f g =
    let from : get_or (samples_in hs all) i s ≡ sample_from before h all.values all.attribute_indices all.timestamps_unix_nano =
    sample_there start hs all.values all.attribute_indices all.timestamps_unix_nano i s start lt ∙ cc in
    slice_get-get_or (samples_in hs all) i s (omega (arith, as_many start hs all.values all.attribute_indices all.timestamps_unix_nano))
    ∙ ap (λ (x : Sample). Some x) (from ∙ g)
