-- A split is performed where its files are kept, their messages are read, and the parts are computed from these.
use Rattle.std.proofs.Common.{◌≡◌, ℕ, List, length, sym, ap, ◌∙◌, Option, None, Result, Ok, Err, IfOk, subst}
use Rattle.outside.specs.declared.files.Files.{Ghosts as OfFiles}
use Rattle.otlp_msg.specs.Message.{Message}
use Rattle.commands.specs.PartNames.{part_names}
use Rattle.commands.specs.declared.words.ToolPlan.TheVariants.{Split}
use Rattle.split_merge.specs.Splits.{split_parts}
use Rattle.collector.specs.declared.kept.KeptFile.{KeptFile}
use Rattle.collector.specs.declared.output.Output.{Output}
use Rattle.collector.specs.declared.stop.Stop.{Stop}
use Rattle.collector.specs.Delivery.{names_of}
use Rattle.collector.specs.KeptFiles.{EndsWith, IsFirstStop, message_in}
use Rattle.collector.specs.Messages.{each, message_at}
use Rattle.collector.specs.RunSteps.{IsComputed, IsRead, IsPerformed}
use Rattle.collector.specs.SplitAnswer.{ArePartFiles, split_files}
use Rattle.collector.proofs.Each.{Names}
use Rattle.collector.proofs.KeptMessages.{messages_read, messages_stopped}
use Rattle.collector.proofs.Rebuilding.{kept_told}
use Rattle.collector.proofs.RunSteps.{computed_after, stopped_at_read}
use Rattle.collector.proofs.SplitParts.{length-names_from}

-- names of parts are those of so many
are_targets : (prefix : List ℕ) (count : ℕ) (names : Names) → names ≡ part_names prefix count → names ≡ part_names prefix (length names)
are_targets prefix count names e = e ∙ ap (part_names prefix) (sym (ap length e ∙ length-names_from prefix 0 count))

targets : (limit : ℕ) (prefix : List ℕ) (messages : List Message) (r : Result Output Stop) → IfOk r (λ output. ArePartFiles limit prefix (split_parts limit messages) output.files)
    → IfOk r (λ output. names_of output.files ≡ part_names prefix (length (names_of output.files)))
targets limit prefix messages (Ok output) are = are_targets prefix (length (split_parts limit messages)) (names_of output.files) are.named
targets limit prefix messages (Err stop) are = tt

pub split_performed : {S : Type 0} (F : OfFiles S) (old new : S) (limit : ℕ) (prefix : List ℕ) (read names : Names) (files slice : List KeptFile) (stop : Option Stop) (messages : List Message) (r : Result Output Stop)
    → read ≡ names → slice ≡ files → EndsWith F old new read files stop → each message_in slice ≡ Ok messages → stop ≡ None
    → IsComputed (split_files limit prefix messages) r → IfOk r (λ output. ArePartFiles limit prefix (split_parts limit messages) output.files)
    → IsPerformed F old new (Split limit prefix names) r
split_performed F old new limit prefix read names files slice stop messages r e same ends ok none computed kept =
    let ends' : EndsWith F old new names files stop = subst (λ (l : Names). EndsWith F old new l files stop) e ends in
    let ok' : each message_in files ≡ Ok messages = subst (λ (l : List KeptFile). each message_in l ≡ Ok messages) same ok in
    let all : IsRead F old new names (λ m. each (message_at m) names) (Ok messages) = messages_read F old new names files stop messages ends' ok' none in
    record {
      read = computed_after F old new names (λ m. each (message_at m) names) (split_files limit prefix) messages r all computed;
      kept = kept_told (F.told old) (λ m. each (message_at m) names) messages (λ ms output. ArePartFiles limit prefix (split_parts limit ms) output.files) r all.ok kept;
      targets = targets limit prefix messages r kept;
    }

pub split_stopped : {S : Type 0} (F : OfFiles S) (old new : S) (limit : ℕ) (prefix : List ℕ) (read names : Names) (files slice : List KeptFile) (before : Option Stop) (stop : Stop)
    → read ≡ names → slice ≡ files → EndsWith F old new read files before → IsFirstStop slice before stop
    → IsPerformed F old new (Split limit prefix names) (Err stop)
split_stopped F old new limit prefix read names files slice before stop e same ends first =
    let ends' : EndsWith F old new names files before = subst (λ (l : Names). EndsWith F old new l files before) e ends in
    let first' : IsFirstStop files before stop = subst (λ (l : List KeptFile). IsFirstStop l before stop) same first in
    record {
      read = stopped_at_read F old new names (λ m. each (message_at m) names) (split_files limit prefix) stop (messages_stopped F old new names files before stop ends' first');
      kept = tt;
      targets = tt;
    }
