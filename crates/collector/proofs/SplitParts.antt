-- Parts of messages, given one after the other.
use Rattle.std.proofs.Common.{◌≡◌, ℕ, zero, suc, ◌+◌, ◌<◌, ◌≤◌, ◌⊎◌, inl, inr, List, [], ◌∷◌, ◌++◌, length, map, drop, refl, sym, ap, ◌∙◌, Option, Some, None, IfSome, Result, Ok, Err, Bool, true, false, nat_lt, cond, subst, append-nil, append_assoc, arith}
use Rattle.std.specs.List.{zip, AllZip, flat_map, range_with_len}
use Rattle.std.proofs.lemmas.Grind.{flat_map-append}
use Rattle.std.proofs.lemmas.List.{length-drop}
use Rattle.std.proofs.lemmas.Slice.Zip.{firsts-zip, seconds-zip}
use Rattle.schema.specs.Each.{Each}
use Rattle.operations.specs.Cuts.{first_length}
use Rattle.operations.specs.Flat.{FlatProfile, flat}
use Rattle.operations.proofs.Longest.{first-between}
use Rattle.otlp_msg.specs.Message.{Message, message_limit}
use Rattle.draft_contents.specs.Meanings.{size_of}
use Rattle.draft_contents.specs.declared.fault.BuildFault.{BuildFault}
use Rattle.draft_contents.specs.declared.fault.BuildFault.TheVariants.{OutputLimit, NoMemory}
use Rattle.split_merge.specs.Canonical.{Meaning, IsAcceptedAs, IsBuildFault, IsOnlyOf, canonical_bytes, within_limit}
use Rattle.split_merge.specs.Splits.{FitsOrIsOne, GivesParts, Splitting, after_next, bytes_if_left, next_of, next_part, some_ok, split_parts, splitting_of}
use Rattle.split_merge.proofs.AllParts.{gives_parts, parts_fit}
use Rattle.commands.specs.PartNames.{part_name, part_names}
use Rattle.collector.specs.declared.output.Output.{Output}
use Rattle.collector.specs.declared.stop.ToolRefusal.TheVariants.{Limit}
use Rattle.collector.specs.declared.stop.Stop.{Stop}
use Rattle.collector.specs.declared.stop.Stop.TheVariants.{Refused}
use Rattle.collector.specs.Causes.{IsStop, IsOfInput}
use Rattle.collector.specs.Lines.{wrote_text}
use Rattle.collector.specs.Messages.{each}
use Rattle.collector.specs.Outputs.{built, files_written, stop_of_fault}
use Rattle.collector.specs.RunSteps.{IsComputed}
use Rattle.collector.specs.SplitAnswer.{ArePartFiles, IsPart, part_bytes, part_files, split_files}
use Rattle.collector.specs.SplitSteps.{with_part}
use Rattle.collector.proofs.Each.{each-append, each-stops}

abbrev Files : Type 0
Files = List (List ℕ × List ℕ)

-- ---- files that are named in order

-- the names from a place on
abbrev names_from : List ℕ → ℕ → ℕ → List (List ℕ)
names_from prefix a count = map (part_name prefix) (range_with_len a count)

abbrev files_from : List ℕ → ℕ → List (List ℕ) → Files
files_from prefix a bs = zip (names_from prefix a (length bs)) bs

files_from-more : (prefix : List ℕ) (a : ℕ) (bs : List (List ℕ)) (b : List ℕ) → files_from prefix a (bs ++ b ∷ []) ≡ files_from prefix a bs ++ (part_name prefix (a + length bs), b) ∷ []
files_from-more prefix a [] b = ap (λ (n : ℕ). (part_name prefix n, b) ∷ []) (omega arith)
files_from-more prefix a (x ∷ xs) b =
    ap (λ (t : Files). (part_name prefix a, x) ∷ t) (files_from-more prefix (a + 1) xs b)
    ∙ ap (λ (n : ℕ). (part_name prefix a, x) ∷ (files_from prefix (a + 1) xs ++ (part_name prefix n, b) ∷ [])) (omega arith)

length-files_from : (prefix : List ℕ) (a : ℕ) (bs : List (List ℕ)) → length (files_from prefix a bs) ≡ length bs
length-files_from prefix a [] = refl
length-files_from prefix a (x ∷ xs) = ap suc (length-files_from prefix (a + 1) xs)

pub length-names_from : (prefix : List ℕ) (a count : ℕ) → length (names_from prefix a count) ≡ count
length-names_from prefix a zero = refl
length-names_from prefix a (suc n) = ap suc (length-names_from prefix (a + 1) n)

-- one file more
files-more : (prefix : List ℕ) (bs : List (List ℕ)) (b : List ℕ) → part_files prefix (bs ++ b ∷ []) ≡ part_files prefix bs ++ (part_name prefix (length (part_files prefix bs)), b) ∷ []
files-more prefix bs b =
    files_from-more prefix 0 bs b
    ∙ ap (λ (n : ℕ). part_files prefix bs ++ (part_name prefix n, b) ∷ []) (omega (arith, length-files_from prefix 0 bs))

written : Files → List ℕ
written files = flat_map (λ f. wrote_text f.0 (length f.1)) files

output_more : (prefix : List ℕ) (bs : List (List ℕ)) (b : List ℕ) → with_part prefix b (files_written (part_files prefix bs)) ≡ files_written (part_files prefix (bs ++ b ∷ []))
unfolding written
output_more prefix bs b =
    let name : List ℕ = part_name prefix (length (part_files prefix bs)) in
    let lines : written (part_files prefix bs) ++ wrote_text name (length b) ≡ written (part_files prefix bs ++ (name, b) ∷ []) =
    ap (λ (t : List ℕ). written (part_files prefix bs) ++ t) (sym (append-nil (wrote_text name (length b))))
    ∙ sym (flat_map-append (λ (f : List ℕ × List ℕ). wrote_text f.0 (length f.1)) (part_files prefix bs) ((name, b) ∷ []))
    in
    ap (λ (t : List ℕ). record { files = part_files prefix bs ++ (name, b) ∷ []; lines = t }) lines
    ∙ ap files_written (sym (files-more prefix bs b))

-- ---- the next part

is_there : {E : Type 0} (r : Result (List ℕ) E) (b : List ℕ) → some_ok r ≡ Ok (Some b) → r ≡ Ok b
is_there (Ok a) b e = let e' : a ≡ b = cc in ap (λ (t : List ℕ). Ok t) e'
is_there (Err x) b e = absurd cc

never_none : {E : Type 0} (r : Result (List ℕ) E) → ¬ (some_ok r ≡ Ok None)
never_none (Ok a) e = absurd cc
never_none (Err x) e = absurd cc

is_fault : (r : Result (List ℕ) BuildFault) (fault : BuildFault) → some_ok r ≡ Err fault → r ≡ Err fault
is_fault (Ok a) fault e = absurd cc
is_fault (Err x) fault e = let e' : x ≡ fault = cc in ap (λ (f : BuildFault). Err f) e'

-- bytes within the limit are themselves
within_of : (long : Bool) (bytes b : List ℕ) → cond long (Err (OutputLimit (length bytes))) (Ok bytes) ≡ Ok b → b ≡ bytes
within_of true bytes b e = absurd cc
within_of false bytes b e = cc

within : (bytes b : List ℕ) → within_limit bytes ≡ Ok b → b ≡ bytes
within bytes b e = within_of (nat_lt message_limit (length bytes)) bytes b e

some_left : (left : List FlatProfile) (bytes b : List ℕ) → bytes_if_left left bytes ≡ Ok (Some b) → (0 < length left) × (within_limit bytes ≡ Ok b)
some_left [] bytes b e = absurd cc
some_left (p ∷ ps) bytes b e = (omega arith, is_there (within_limit bytes) b e)

none_left : (left : List FlatProfile) (bytes : List ℕ) → bytes_if_left left bytes ≡ Ok None → left ≡ []
none_left [] bytes e = refl
none_left (p ∷ ps) bytes e = absurd (never_none (within_limit bytes) e)

fault_left : (left : List FlatProfile) (bytes : List ℕ) (fault : BuildFault) → bytes_if_left left bytes ≡ Err fault → (0 < length left) × (within_limit bytes ≡ Err fault)
fault_left [] bytes fault e = absurd cc
fault_left (p ∷ ps) bytes fault e = (omega arith, is_fault (within_limit bytes) fault e)

-- fewer profiles are left
pub fewer_left : (now new : Splitting) (b : List ℕ) (part : Option (List ℕ)) → next_of now ≡ Ok part → part ≡ Some b → new ≡ after_next now → length new.left < length now.left
fewer_left now new b part e is gone =
    let given : next_of now ≡ Ok (Some b) = e ∙ ap (λ (p : Option (List ℕ)). Ok p) is in
    let some : 0 < length now.left = (some_left now.left (canonical_bytes (next_part now)) b given).0 in
    let less : length (drop (first_length now.limit now.left) now.left) < length now.left =
    omega (arith, length-drop (first_length now.limit now.left) now.left, (first-between now.limit now.left some).0, some)
    in
    subst (λ (s : Splitting). length s.left < length now.left) (sym gone) less

-- ---- the parts so far

-- Some parts were given, which are those of the output, and the others are left.
pub record PartsSoFar (limit : ℕ) (prefix : List ℕ) (messages : List Message) (now : Splitting) (output : Output) : Type 0 where
  pub done : List Meaning
  pub rest : List Meaning
  pub bytes : List (List ℕ)
  pub all : split_parts limit messages ≡ done ++ rest
  pub left : GivesParts now rest
  pub made : each part_bytes done ≡ Ok bytes
  pub is : output ≡ files_written (part_files prefix bytes)
  pub kept : AllZip (IsPart limit) done bytes

both_empty : (files : Files) (lines : List ℕ) → files ≡ [] → lines ≡ [] → Path Output (record { files = files; lines = lines }) (record { files = []; lines = [] })
both_empty files lines no_files no_lines =
    let first : Path Output (record { files = files; lines = lines }) (record { files = []; lines = lines }) = ap (λ (f : Files). record { files = f; lines = lines }) no_files in
    let then : Path Output (record { files = []; lines = lines }) (record { files = []; lines = [] }) = ap (λ (l : List ℕ). record { files = []; lines = l }) no_lines in
    first ∙ then

pub no_parts : (limit limit' : ℕ) (prefix : List ℕ) (messages : List Message) (now : Splitting) (files : Files) (lines : List ℕ) → limit' ≡ limit → now ≡ splitting_of limit' messages
    → files ≡ [] → lines ≡ [] → PartsSoFar limit prefix messages now (record { files = files; lines = lines })
no_parts limit limit' prefix messages now files lines same begun no_files no_lines = record {
  done = [];
  rest = split_parts limit messages;
  bytes = [];
  all = refl;
  left = subst (λ (s : Splitting). GivesParts s (split_parts limit messages)) (sym (begun ∙ ap (λ (n : ℕ). splitting_of n messages) same)) (gives_parts limit messages);
  made = refl;
  is = both_empty files lines no_files no_lines;
  kept = tt;
}

-- what holds of each holds of the one in their midst
at_midst : {A : Type 0} (P : A → Type 0) (xs ys : List A) (y : A) → Each P (xs ++ y ∷ ys) → P y
at_midst P [] ys y h = h.0
at_midst P (x ∷ xs) ys y h = at_midst P xs ys y h.1

push : (R : Meaning → List ℕ → Type 0) (xs : List Meaning) (ys : List (List ℕ)) (x : Meaning) (y : List ℕ) → AllZip R xs ys → R x y → AllZip R (xs ++ x ∷ []) (ys ++ y ∷ [])
push R [] [] x y h one = (one, tt)
push R [] (b ∷ bs) x y h one = absurd h
push R (a ∷ more) [] x y h one = absurd h
push R (a ∷ more) (b ∷ bs) x y h one = (h.0, push R more bs x y h.1 one)

same_length : (R : Meaning → List ℕ → Type 0) (xs : List Meaning) (ys : List (List ℕ)) → AllZip R xs ys → length xs ≡ length ys
same_length R [] [] h = refl
same_length R [] (b ∷ bs) h = absurd h
same_length R (a ∷ more) [] h = absurd h
same_length R (a ∷ more) (b ∷ bs) h = ap suc (same_length R more bs h.1)

-- the next of the parts that are left
pub record NextOf (now : Splitting) (rest : List Meaning) : Type 0 where
  pub later : List Meaning
  pub is : rest ≡ next_part now ∷ later
  pub left : GivesParts (after_next now) later

next_given : (now : Splitting) (rest : List Meaning) → 0 < length now.left → GivesParts now rest → NextOf now rest
next_given now [] some none = absurd (let l : length now.left ≡ 0 = ap length none in omega (arith, l, some))
next_given now (p ∷ ps) some left = record { later = ps; is = ap (λ (x : Meaning). x ∷ ps) left.1; left = left.2 }

none_given : (now : Splitting) (rest : List Meaning) → now.left ≡ [] → GivesParts now rest → rest ≡ []
none_given now [] e left = refl
none_given now (p ∷ ps) e left = absurd (let l : length now.left ≡ 0 = ap length e in omega (arith, l, left.0))

-- a part with no more bytes than the limit
short_part : (limit : ℕ) (part : Meaning) (b : List ℕ) → b ≡ canonical_bytes part → FitsOrIsOne limit part → (length b ≤ limit) ⊎ (length (flat (part ∷ [])) ≡ 1)
unfolding canonical_bytes
short_part limit part b e (inl few) = inl (let l : length b ≡ size_of part = ap length e in omega (arith, l, few))
short_part limit part b e (inr one) = inr one

-- one part more is given
pub one_part : (limit : ℕ) (prefix : List ℕ) (messages : List Message) (now new : Splitting) (output output' : Output) (b : List ℕ) (given : Option (List ℕ))
    → PartsSoFar limit prefix messages now output → next_of now ≡ Ok given → given ≡ Some b → new ≡ after_next now
    → IfSome given (λ b. IsAcceptedAs b (next_part now)) → IfSome given (λ b. IsOnlyOf b (next_part now))
    → output' ≡ with_part prefix b output → PartsSoFar limit prefix messages new output'
one_part limit prefix messages now new output output' b given so_far e is gone accepted unique more =
    let given_is : next_of now ≡ Ok (Some b) = e ∙ ap (λ (p : Option (List ℕ)). Ok p) is in
    let some = some_left now.left (canonical_bytes (next_part now)) b given_is in
    let next : NextOf now so_far.rest = next_given now so_far.rest some.0 so_far.left in
    let part : Meaning = next_part now in
    let all : split_parts limit messages ≡ so_far.done ++ part ∷ next.later = so_far.all ∙ ap (λ (l : List Meaning). so_far.done ++ l) next.is in
    let fits : FitsOrIsOne limit part = at_midst (FitsOrIsOne limit) so_far.done next.later part (subst (Each (FitsOrIsOne limit)) all (parts_fit limit messages)) in
    let bytes : part_bytes part ≡ Ok b = ap built some.1 in
    let one : each part_bytes (part ∷ []) ≡ Ok (b ∷ []) = rw bytes refl in
    record {
      done = so_far.done ++ part ∷ [];
      rest = next.later;
      bytes = so_far.bytes ++ b ∷ [];
      all = all ∙ sym (append_assoc so_far.done (part ∷ []) next.later);
      left = subst (λ (s : Splitting). GivesParts s next.later) (sym gone) next.left;
      made = each-append part_bytes so_far.done (part ∷ []) so_far.bytes (b ∷ []) so_far.made one;
      is = more ∙ ap (with_part prefix b) so_far.is ∙ output_more prefix so_far.bytes b;
      kept = push (IsPart limit) so_far.done so_far.bytes part b so_far.kept
          (record { accepted = subst (λ (p : Option (List ℕ)). IfSome p (λ b. IsAcceptedAs b part)) is accepted; unique = subst (λ (p : Option (List ℕ)). IfSome p (λ b. IsOnlyOf b part)) is unique; fits = short_part limit part b (within (canonical_bytes part) b some.1) fits });
    }

-- all parts are given
all_given : (limit : ℕ) (prefix : List ℕ) (messages : List Message) (now : Splitting) (output : Output) (so_far : PartsSoFar limit prefix messages now output)
    → next_of now ≡ Ok None → split_parts limit messages ≡ so_far.done
all_given limit prefix messages now output so_far e =
    let none : so_far.rest ≡ [] = none_given now so_far.rest (none_left now.left (canonical_bytes (next_part now)) e) so_far.left in
    so_far.all ∙ ap (λ (l : List Meaning). so_far.done ++ l) none ∙ append-nil so_far.done

pub parts_computed : (limit : ℕ) (prefix : List ℕ) (messages : List Message) (now : Splitting) (output : Output) (given : Option (List ℕ)) → PartsSoFar limit prefix messages now output
    → next_of now ≡ Ok given → given ≡ None → IsComputed (split_files limit prefix messages) (Ok output)
parts_computed limit prefix messages now output given so_far e none =
    let e' : next_of now ≡ Ok None = e ∙ ap (λ (p : Option (List ℕ)). Ok p) none in
    let ok : split_files limit prefix messages ≡ Ok output =
    rw (all_given limit prefix messages now output so_far e') (rw so_far.made (ap (λ (o : Output). Ok o) (sym so_far.is)))
    in
    record { ok = ok; stopped = tt; cause = tt }

pub parts_kept : (limit : ℕ) (prefix : List ℕ) (messages : List Message) (now : Splitting) (output : Output) (given : Option (List ℕ)) → PartsSoFar limit prefix messages now output
    → next_of now ≡ Ok given → given ≡ None → ArePartFiles limit prefix (split_parts limit messages) output.files
parts_kept limit prefix messages now output given so_far e none =
    let e' : next_of now ≡ Ok None = e ∙ ap (λ (p : Option (List ℕ)). Ok p) none in
    let files : output.files ≡ part_files prefix so_far.bytes = ap (λ (o : Output). o.files) so_far.is in
    let as_many : length so_far.done ≡ length so_far.bytes = same_length (IsPart limit) so_far.done so_far.bytes so_far.kept in
    let names : length (part_names prefix (length so_far.bytes)) ≡ length so_far.bytes = length-names_from prefix 0 (length so_far.bytes) in
    let are : ArePartFiles limit prefix so_far.done (part_files prefix so_far.bytes) = record {
      named = firsts-zip (part_names prefix (length so_far.bytes)) so_far.bytes (sym names) ∙ ap (part_names prefix) (sym as_many);
      bytes = subst (AllZip (IsPart limit) so_far.done) (sym (seconds-zip (part_names prefix (length so_far.bytes)) so_far.bytes (sym names))) so_far.kept;
    } in
    subst (λ (ps : List Meaning). ArePartFiles limit prefix ps output.files) (sym (all_given limit prefix messages now output so_far e'))
    (subst (ArePartFiles limit prefix so_far.done) (sym files) are)

-- the stop at a fault is the one that is wanted
fault_stops : (limit : ℕ) (prefix : List ℕ) (messages : List Message) (now : Splitting) (output : Output) (size : ℕ) → PartsSoFar limit prefix messages now output
    → next_of now ≡ Err (OutputLimit size) → split_files limit prefix messages ≡ Err (Refused (Limit size))
fault_stops limit prefix messages now output size so_far e =
    let some = fault_left now.left (canonical_bytes (next_part now)) (OutputLimit size) e in
    let next : NextOf now so_far.rest = next_given now so_far.rest some.0 so_far.left in
    let part : Meaning = next_part now in
    let bytes : part_bytes part ≡ Err (Refused (Limit size)) = ap built some.1 in
    let one : each part_bytes (part ∷ next.later) ≡ Err (Refused (Limit size)) = rw bytes refl in
    let all : split_parts limit messages ≡ so_far.done ++ part ∷ next.later = so_far.all ∙ ap (λ (l : List Meaning). so_far.done ++ l) next.is in
    let ends : each part_bytes (so_far.done ++ part ∷ next.later) ≡ Err (Refused (Limit size)) = each-stops part_bytes so_far.done (part ∷ next.later) so_far.bytes (Refused (Limit size)) so_far.made one in
    rw all (rw ends refl)

stopped_at : (limit : ℕ) (prefix : List ℕ) (messages : List Message) (now : Splitting) (output : Output) (fault : BuildFault) → PartsSoFar limit prefix messages now output
    → IsBuildFault (next_of now) fault → IsStop (split_files limit prefix messages) (stop_of_fault fault) × IsOfInput (stop_of_fault fault)
stopped_at limit prefix messages now output (OutputLimit size) so_far e = (fault_stops limit prefix messages now output size so_far e, tt)
stopped_at limit prefix messages now output NoMemory so_far e = (tt, tt)

pub part_stopped : (limit : ℕ) (prefix : List ℕ) (messages : List Message) (now : Splitting) (output : Output) (fault : BuildFault) (why : Stop) → PartsSoFar limit prefix messages now output
    → IsBuildFault (next_of now) fault → why ≡ stop_of_fault fault → IsComputed (split_files limit prefix messages) (Err why)
part_stopped limit prefix messages now output fault why so_far e is =
    let both = stopped_at limit prefix messages now output fault so_far e in
    subst (λ (s : Stop). IsComputed (split_files limit prefix messages) (Err s)) (sym is) (record { ok = tt; stopped = both.0; cause = both.1 })
