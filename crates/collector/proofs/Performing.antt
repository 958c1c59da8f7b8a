-- A plan is performed where all its files are read, and what is wanted is computed from their messages.
use Rattle.std.proofs.Common.{◌≡◌, ℕ, List, [], ◌∷◌, Result, Ok, Err, IfOk, subst}
use Rattle.outside.specs.declared.files.Files.{Ghosts as OfFiles}
use Rattle.otlp_msg.specs.Message.{Message}
use Rattle.split_merge.specs.Merged.{joined_meaning}
use Rattle.commands.specs.declared.words.ToolPlan.TheVariants.{Merge}
use Rattle.collector.specs.declared.output.Output.{Output}
use Rattle.collector.specs.declared.stop.Stop.{Stop}
use Rattle.collector.specs.Delivery.{names_of}
use Rattle.collector.specs.MergeAnswer.{merged_file}
use Rattle.collector.specs.Messages.{each, message_at}
use Rattle.collector.specs.Rebuilt.{IsRebuilt}
use Rattle.collector.specs.RunSteps.{IsComputed, IsRead, IsPerformed}
use Rattle.collector.proofs.Each.{Names}
use Rattle.collector.proofs.Rebuilding.{kept_told}
use Rattle.collector.proofs.RunSteps.{computed_after, stopped_at_read}

pub merge_performed : {S : Type 0} (F : OfFiles S) (old new : S) (target : List ℕ) (read names : Names) (messages : List Message) (r : Result Output Stop) → read ≡ names
    → IsRead F old new read (λ m. each (message_at m) read) (Ok messages)
    → IsComputed (merged_file target messages) r → IfOk r (IsRebuilt (joined_meaning messages) target) → IfOk r (λ output. names_of output.files ≡ target ∷ [])
    → IsPerformed F old new (Merge target names) r
merge_performed F old new target read names messages r e first computed rebuilt targets =
    let all : IsRead F old new names (λ m. each (message_at m) names) (Ok messages) = subst (λ (l : Names). IsRead F old new l (λ m. each (message_at m) l) (Ok messages)) e first in record {
      read = computed_after F old new names (λ m. each (message_at m) names) (merged_file target) messages r all computed;
      kept = kept_told (F.told old) (λ m. each (message_at m) names) messages (λ ms output. IsRebuilt (joined_meaning ms) target output) r all.ok rebuilt;
      targets = targets;
    }

pub merge_stopped : {S : Type 0} (F : OfFiles S) (old new : S) (target : List ℕ) (read names : Names) (stop : Stop) → read ≡ names
    → IsRead {T = List Message} F old new read (λ m. each (message_at m) read) (Err stop) → IsPerformed F old new (Merge target names) (Err stop)
merge_stopped F old new target read names stop e first =
    let all : IsRead {T = List Message} F old new names (λ m. each (message_at m) names) (Err stop) = subst (λ (l : Names). IsRead {T = List Message} F old new l (λ m. each (message_at m) l) (Err stop)) e first in record {
      read = stopped_at_read F old new names (λ m. each (message_at m) names) (merged_file target) stop all;
      kept = tt;
      targets = tt;
    }
