-- Files written in order, and what a run leaves of its output.
use Rattle.std.proofs.Common.{◌≡◌, ◌≤◌, ℕ, zero, suc, List, [], ◌∷◌, ◌++◌, ◌+◌, ◌<◌, inl, inr, length, take, drop, refl, sym, ap, ◌∙◌, get_or, Option, Some, None, Result, Ok, Err, IfErr, IfSome, subst, add-one, arith}
use Rattle.std.proofs.Math.Seq.{take-suc}
use Rattle.std.proofs.lemmas.List.{drop_more}
use Rattle.outside.specs.Causes.{Rose}
use Rattle.outside.specs.FileMap.{FileMap, with_file, SameBut}
use Rattle.commands.specs.declared.words.ToolPlan.{ToolPlan}
use Rattle.commands.specs.declared.words.WordRefusal.{WordRefusal}
use Rattle.collector.specs.Answer.{performed, with_plan}
use Rattle.collector.specs.declared.output.Output.{Output}
use Rattle.collector.specs.declared.stop.Stop.{Stop}
use Rattle.collector.specs.declared.stop.Stop.TheVariants.{Refused, Read, Write, NoMemory}
use Rattle.collector.specs.Causes.{IsOneOf, IsWriteAt, IsWriteOf}
use Rattle.collector.specs.Delivery.{put_files, names_of, FirstUntold, FailedAtFile, FileLeft, FilesLeft, OutputLeft, Seen, Untouched, Partly, PartDelivered}

abbrev Files : Type 0
Files = List (List ℕ × List ℕ)

-- files in two parts are put one part after the other
put_files-append : (xs ys : Files) (o : Option FileMap) → put_files (xs ++ ys) o ≡ put_files ys (put_files xs o)
put_files-append [] ys o = refl
put_files-append (f ∷ fs) ys o = put_files-append fs ys (with_file f.0 f.1 o)

-- the first files with one more
one_more : (fs : Files) (i : ℕ) (f : List ℕ × List ℕ) → i < length fs → f ≡ get_or fs i f → take (i + 1) fs ≡ take i fs ++ f ∷ []
one_more fs i f lt is = rw add-one (take-suc fs i f lt ∙ ap (λ (x : List ℕ × List ℕ). take i fs ++ x ∷ []) (sym is))

-- one file more is written
pub put_files_more : (fs : Files) (i : ℕ) (f : List ℕ × List ℕ) (o now new : Option FileMap) → i < length fs → f ≡ get_or fs i f
    → now ≡ put_files (take i fs) o → new ≡ with_file f.0 f.1 now → new ≡ put_files (take (i + 1) fs) o
put_files_more fs i f o now new lt is so_far step =
    step
    ∙ ap (with_file f.0 f.1) so_far
    ∙ sym (put_files-append (take i fs) (f ∷ []) o)
    ∙ ap (λ (l : Files). put_files l o) (sym (one_more fs i f lt is))

-- the write of the file at i failed
failed_at : (fs : Files) (i : ℕ) (f : List ℕ × List ℕ) (name : List ℕ) (o now new : Option FileMap) (n n' n'' : ℕ) → i < length fs → f ≡ get_or fs i f
    → now ≡ put_files (take i fs) o → n ≤ n' → name ≡ f.0 → SameBut f.0 now new × Rose n' n'' → FailedAtFile fs name o new n n''
failed_at fs i f name o now new n n' n'' lt is so_far later named (same, rose) = record {
  done = i;
  untold = subst (λ (l : Files). FirstUntold name l (put_files (take i fs) o) new)
      (sym (drop_more fs i f lt ∙ ap (λ (x : List ℕ × List ℕ). x ∷ drop (i + 1) fs) (sym is)))
      (named, subst (λ (p : Option FileMap). SameBut f.0 p new) so_far same);
  rose = omega arith;
}

-- what is left of the files where the one at i stops
pub left_at : (fs : Files) (i : ℕ) (f : List ℕ × List ℕ) (o now new : Option FileMap) (n n' n'' : ℕ) (stop : Stop) → i < length fs → f ≡ get_or fs i f
    → now ≡ put_files (take i fs) o → n ≤ n' → FileLeft f.0 now new n' n'' stop → FilesLeft fs o new n n'' stop
left_at fs i f o now new n n' n'' (Refused refusal) lt is so_far later left = left
left_at fs i f o now new n n' n'' (Read name) lt is so_far later left = left
left_at fs i f o now new n n' n'' (Write name) lt is so_far later (named, same, rose) = failed_at fs i f name o now new n n' n'' lt is so_far later named (same, rose)
left_at fs i f o now new n n' n'' NoMemory lt is so_far later (inl same) = inl (record { done = i; is = same ∙ so_far })
left_at fs i f o now new n n' n'' NoMemory lt is so_far later (inr failed) =
    inr (record { name = f.0; failed = failed_at fs i f f.0 o now new n n' n'' lt is so_far later refl failed })

-- where nothing was written, what is written is none of the files
unwritten_of : (want : Result Output Stop) (before now : Seen) → Untouched before now → PartDelivered want before now
unwritten_of (Ok output) before now still = inl (inl (record { done = 0; is = still.told }), still.taken)
unwritten_of (Err stop) before now still = still

pub unwritten : (told : Option FileMap) (want : FileMap → Result Output Stop) (before now : Seen) → Untouched before now → IfSome told (λ m. PartDelivered (want m) before now)
unwritten None want before now still = tt
unwritten (Some m) want before now still = unwritten_of (want m) before now still

-- what is left at a stop is written in part
part_left : (output : Output) (before now : Seen) (stop : Stop) → OutputLeft output before now stop → Partly output before now
part_left output before now (Refused refusal) left = absurd left
part_left output before now (Read name) left = absurd left
part_left output before now (Write name) (inl (failed, taken)) = inl (inr (record { name = name; failed = failed }), taken)
part_left output before now (Write name) (inr (named, all, rose)) = inr all
part_left output before now NoMemory left = left

-- what is told, with these counts
told_seen : Option FileMap → ℕ → Option (List ℕ) → ℕ → Seen
told_seen told faults taken out = record { told = told; write_faults = faults; taken = taken; out_faults = out }

-- where an output was wanted, over files that were only read before
pub part_written : (told mid : Option FileMap) (want : FileMap → Result Output Stop) (output : Output) (faults faults' : ℕ) (taken : Option (List ℕ)) (out : ℕ) (now : Seen) (stop : Stop)
    → mid ≡ told → faults' ≡ faults → IfSome told (λ m. want m ≡ Ok output)
    → OutputLeft output (record { told = mid; write_faults = faults'; taken = taken; out_faults = out }) now stop
    → IfSome told (λ m. PartDelivered (want m) (record { told = told; write_faults = faults; taken = taken; out_faults = out }) now)
unfolding told_seen
part_written None mid want output faults faults' taken out now stop same count wanted left = tt
part_written (Some m) mid want output faults faults' taken out now stop same count wanted left =
    let is : told_seen mid faults' taken out ≡ told_seen (Some m) faults taken out =
    ap (λ (o : Option FileMap). told_seen o faults' taken out) same ∙ ap (λ n. told_seen (Some m) n taken out) count
    in
    subst (λ w. PartDelivered w (told_seen (Some m) faults taken out) now) (sym wanted)
    (subst (λ (before : Seen). Partly output before now) is (part_left output (told_seen mid faults' taken out) now stop left))

-- what a plan comes to is what the words of it come to
pub wanted_of_words : (told : Option FileMap) (words : Result ToolPlan WordRefusal) (plan : ToolPlan) (output : Output) → words ≡ Ok plan
    → IfSome told (λ m. performed plan m ≡ Ok output) → IfSome told (λ m. with_plan words m ≡ Ok output)
wanted_of_words told words plan output is wanted = subst (λ (w : Result ToolPlan WordRefusal). IfSome told (λ m. with_plan w m ≡ Ok output)) (sym is) wanted

-- ---- names

-- the name of the file at i is one of theirs
one_at : (fs : Files) (i : ℕ) (f : List ℕ × List ℕ) (name : List ℕ) → i < length fs → f ≡ get_or fs i f → name ≡ f.0
    → IsOneOf (names_of fs) name
one_at [] i f name lt is e = absurd (omega arith)
one_at (g ∷ gs) zero f name lt is e = inl (e ∙ ap (λ (x : List ℕ × List ℕ). x.0) is)
one_at (g ∷ gs) (suc i) f name lt is e = inr (one_at gs i f name (omega arith) is e)

-- so where the one at i stops, the stop is of the files
pub named_at : (failed : List ℕ → Type 0) (fs : Files) (i : ℕ) (f : List ℕ × List ℕ) (stop : Stop) → i < length fs → f ≡ get_or fs i f
    → IsWriteAt f.0 failed stop → IsWriteOf (names_of fs) failed stop
named_at failed fs i f (Refused refusal) lt is h = h
named_at failed fs i f (Read name) lt is h = h
named_at failed fs i f (Write name) lt is (e, h) = (one_at fs i f name lt is e, subst failed (sym e) h)
named_at failed fs i f NoMemory lt is h = tt
