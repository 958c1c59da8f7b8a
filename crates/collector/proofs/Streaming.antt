-- A text that is written as it is found.
use Rattle.std.proofs.Common.{◌≡◌, ℕ, List, [], ◌∷◌, inl, inr, refl, Option, Some, None, Result, Ok, Err, IfSome, subst, arith}
use Rattle.outside.specs.FileMap.{FileMap}
use Rattle.outside.specs.declared.files.Files.{Ghosts as OfFiles}
use Rattle.outside.specs.declared.sink.Sink.{Ghosts as OfSink}
use Rattle.commands.specs.declared.words.ToolPlan.TheVariants.{Show}
use Rattle.collector.specs.Carrying.{IsCarried}
use Rattle.collector.specs.Causes.{WriteFailedAt, HasWriteCause}
use Rattle.collector.specs.Delivery.{seen, OutputLeft}
use Rattle.collector.specs.Messages.{bytes_at}
use Rattle.collector.specs.Outputs.{lines_alone}
use Rattle.collector.specs.RunSteps.{IsRead, IsPerformed}
use Rattle.collector.specs.ShowAnswer.{shown_in, ShowKeeps}
use Rattle.collector.specs.ShowSteps.{LinesLeft, IsStreamed}
use Rattle.collector.specs.declared.stop.Stop.{Stop}
use Rattle.collector.specs.declared.stop.Stop.TheVariants.{Refused, Read, Write, NoMemory}
use Rattle.collector.proofs.RunSteps.{computed_after}

-- lines alone are no file
none_kept : (told : Option FileMap) (file lines : List ℕ) → IfSome told (λ m. ShowKeeps m file (lines_alone lines))
none_kept None file lines = tt
none_kept (Some m) file lines = refl

-- what is left of lines is what is left of an output of them
left_lines : {S P : Type 0} (F : OfFiles S) (O : OfSink P) (files : S) (out out' : P) (lines : List ℕ) (stop : Stop)
    → LinesLeft lines (O.taken out) (O.taken out') (O.faults out) (O.faults out') stop → OutputLeft (lines_alone lines) (seen F O files out) (seen F O files out') stop
left_lines F O files out out' lines (Refused refusal) left = absurd left
left_lines F O files out out' lines (Read name) left = absurd left
left_lines F O files out out' lines (Write name) (named, took, rose) = inr (named, record { files = refl; lines = took }, rose)
left_lines F O files out out' lines NoMemory took = inr (record { files = refl; lines = took })

named_lines : (failed : List ℕ → Type 0) (lines : List ℕ) (old new : Option (List ℕ)) (faults faults' : ℕ) (stop : Stop)
    → LinesLeft lines old new faults faults' stop → HasWriteCause [] failed faults faults' stop
named_lines failed lines old new faults faults' (Refused refusal) left = tt
named_lines failed lines old new faults faults' (Read name) left = tt
named_lines failed lines old new faults faults' (Write name) (named, took, rose) = inr (named, rose)
named_lines failed lines old new faults faults' NoMemory left = tt

-- the lines that are wanted are the output
is_output : {S : Type 0} (F : OfFiles S) (old new : S) (file body lines : List ℕ) → IsRead F old new (file ∷ []) (λ m. bytes_at m file) (Ok body)
    → shown_in file body ≡ Ok (lines_alone lines) → IsPerformed F old new (Show file) (Ok (lines_alone lines))
is_output F old new file body lines first wanted = record {
  read = computed_after F old new (file ∷ []) (λ m. bytes_at m file) (shown_in file) body (Ok (lines_alone lines)) first (record { ok = wanted; stopped = tt; cause = tt });
  kept = none_kept (F.told old) file lines;
  targets = refl;
}

streamed_file : {S P T : Type 0} (F : OfFiles S) (O : OfSink P) (old new : S) (out out' : P) (file body : List ℕ) (r : Result T Stop)
    → IsRead F old new (file ∷ []) (λ m. bytes_at m file) (Ok body) → IsStreamed O out out' (shown_in file body) r → IsCarried F O old new out out' (Show file) r
streamed_file F O old new out out' file body (Ok value) first given = record {
  mid = new;
  output = lines_alone given.lines;
  performed = is_output F old new file body given.lines first given.wanted;
  delivered = record { files = refl; lines = given.ok; left = tt; named = tt; later = omega arith; sound = λ files h. (files, (given.sound h).0, tt) };
}
streamed_file F O old new out out' file body (Err stop) first (inl given) =
    inl (record {
      mid = new;
      output = lines_alone given.lines;
      performed = is_output F old new file body given.lines first given.wanted;
      delivered = record {
        files = tt;
        lines = tt;
        left = left_lines F O new out out' given.lines stop given.left;
        named = named_lines (WriteFailedAt F new new) given.lines (O.taken out) (O.taken out') (O.faults out) (O.faults out') stop given.left;
        later = omega arith;
        sound = λ files h. (files, (given.sound h).0, (given.sound h).1);
      };
    })
streamed_file F O old new out out' file body (Err stop) first (inr given) =
    inr (record {
      performed = record {
        read = computed_after F old new (file ∷ []) (λ m. bytes_at m file) (shown_in file) body (Err stop) first given.computed;
        kept = tt;
        targets = tt;
      };
      nothing = given.nothing;
    })

-- a file is read, and what its bytes show is streamed
pub show_carried : {S P T : Type 0} (F : OfFiles S) (O : OfSink P) (old new : S) (out out' : P) (file body slice : List ℕ) (r : Result T Stop) → slice ≡ body
    → IsRead F old new (file ∷ []) (λ m. bytes_at m file) (Ok body) → IsStreamed O out out' (shown_in file slice) r → IsCarried F O old new out out' (Show file) r
show_carried F O old new out out' file body slice r e first given =
    streamed_file F O old new out out' file body r first (subst (λ (b : List ℕ). IsStreamed O out out' (shown_in file b) r) e given)
