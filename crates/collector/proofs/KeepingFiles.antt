-- Files whose bytes are kept, one after the other, and the messages in them.
use Rattle.std.proofs.Common.{◌≡◌, ℕ, List, [], ◌∷◌, ◌++◌, ◌+◌, ◌<◌, length, take, drop, map, sym, ap, ◌∙◌, get_or, Ok, Err, IfSome, subst}
use Rattle.std.proofs.lemmas.List.{map-append}
use Rattle.outside.specs.declared.files.Files.{Ghosts as OfFiles}
use Rattle.otlp_msg.specs.Checked.{value_of}
use Rattle.otlp_msg.specs.Message.{Message}
use Rattle.otlp_msg.specs.declared.checked.Checked.{Checked}
use Rattle.collector.specs.declared.kept.KeptFile.{KeptFile}
use Rattle.collector.specs.declared.stop.Stop.{Stop}
use Rattle.collector.specs.declared.stop.Stop.TheVariants.{Refused, Read, Write, NoMemory}
use Rattle.collector.specs.Causes.{IsStop}
use Rattle.collector.specs.KeptFiles.{AreKept, StopsAfter, bodies_kept, kept_file, message_in}
use Rattle.collector.specs.Messages.{bytes_at, each}
use Rattle.collector.specs.RunSteps.{IsRead}
use Rattle.collector.proofs.Each.{Names, each_more, each_stopped, midst, up_to}
use Rattle.collector.proofs.Joining.{told_more}
use Rattle.collector.proofs.RunSteps.{read_more}

-- ---- bytes

pub kept_more : {S : Type 0} (F : OfFiles S) (old now new : S) (names : Names) (i : ℕ) (name body : List ℕ) (files files' : List KeptFile) → i < length names → name ≡ get_or names i name
    → AreKept F old now (take i names) files → IsRead F now new (name ∷ []) (λ m. bytes_at m name) (Ok body) → files' ≡ files ++ kept_file name body ∷ []
    → AreKept F old new (take (i + 1) names) files'
kept_more F old now new names i name body files files' lt is so_far one more =
    let all : AreKept F old new (take (i + 1) names) (files ++ kept_file name body ∷ []) = record {
      named = map-append (λ (f : KeptFile). f.name) files (kept_file name body ∷ []) ∙ ap (λ (l : Names). l ++ name ∷ []) so_far.named ∙ sym (up_to names i name lt is);
      read = record {
        ok = subst (λ (bs : Names). IfSome (F.told old) (λ m. each (bytes_at m) (take (i + 1) names) ≡ Ok bs)) (sym (map-append (λ (f : KeptFile). f.body) files (kept_file name body ∷ [])))
            (told_more (λ m. bytes_at m) (F.told old) (F.told now) names i name (bodies_kept files) body lt is so_far.read.reads.same so_far.read.ok one.ok);
        stopped = tt;
        reads = read_more F old now new (take i names) (name ∷ []) (take (i + 1) names) (bodies_kept files) body (bodies_kept (files ++ kept_file name body ∷ [])) so_far.read.reads one.reads;
      };
    } in
    subst (AreKept F old new (take (i + 1) names)) (sym more) all

pub kept_stop : {S : Type 0} (F : OfFiles S) (old now new : S) (names : Names) (i : ℕ) (name : List ℕ) (files files' : List KeptFile) (stop : Stop) → i < length names → name ≡ get_or names i name
    → AreKept F old now (take i names) files → IsRead {T = List ℕ} F now new (name ∷ []) (λ m. bytes_at m name) (Err stop) → files' ≡ files
    → StopsAfter F old new names files' stop
kept_stop F old now new names i name files files' stop lt is so_far one same = record {
  before = take i names;
  name = name;
  later = drop (i + 1) names;
  is = sym (midst names i name lt is);
  between = now;
  kept = subst (AreKept F old now (take i names)) (sym same) so_far;
  stopped = one;
}

-- ---- messages

pub messages_more : (files : List KeptFile) (i : ℕ) (file : KeptFile) (messages now : List Checked) (c : Checked) → i < length files → file ≡ get_or files i file
    → each message_in (take i files) ≡ Ok (map value_of messages) → message_in file ≡ Ok (value_of c) → now ≡ messages ++ c ∷ []
    → each message_in (take (i + 1) files) ≡ Ok (map value_of now)
messages_more files i file messages now c lt is so_far one more =
    each_more message_in files i file (map value_of messages) (value_of c) lt is so_far one
    ∙ ap (λ (l : List Message). Ok l) (sym (map-append value_of messages (c ∷ [])))
    ∙ ap (λ (l : List Checked). Ok (map value_of l)) (sym more)

pub messages_stop : (files : List KeptFile) (i : ℕ) (file : KeptFile) (messages : List Message) (stop : Stop) → i < length files → file ≡ get_or files i file
    → each message_in (take i files) ≡ Ok messages → IsStop (message_in file) stop → IsStop (each message_in files) stop
messages_stop files i file messages (Refused refusal) lt is so_far one = each_stopped message_in files i file messages (Refused refusal) lt is so_far one
messages_stop files i file messages (Read read) lt is so_far one = tt
messages_stop files i file messages (Write written) lt is so_far one = tt
messages_stop files i file messages NoMemory lt is so_far one = tt
