-- What was decided of a file, back from the decision and on to it.
use Rattle.std.proofs.Common.{◌≡◌, ℕ, ℤ, ◌<◌, ◌≤◌, Bool, true, false, cond, List, length, Option, Some, None, Ok, Err, refl, sym, ap, subst, ◌∙◌}
use Rattle.std.specs.Prelude.{nat_lt}
use Rattle.std.proofs.lemmas.Bool.{ltb-true, ltb-false, lt-ltb, le-ltb}
use Rattle.schema.specs.Fault as faults
use Rattle.schema.specs.Fault.{Fault, fault_at}
use Rattle.schema.specs.MessageFault.{HasFault}
use Rattle.schema.specs.Merge.{merge}
use Rattle.schema.specs.Messages.{envelope}
use Rattle.schema.specs.Shape.{empty}
use Rattle.schema.specs.Decoding.{◌>>=◌}
use Rattle.schema_laws.proofs.Agreement.{merge_err, merge_fault}
use Rattle.schema_laws.proofs.ValueRelation.{read_from, read_to}
use Rattle.pb_wire.specs.View.{fault_view}
use Rattle.pb_wire.specs.declared.fault.Reason.TheVariants as reasons
use Rattle.pb_wire.specs.declared.fault.Reason.{Reason}
use Rattle.pb_wire.specs.declared.fault.WireFault.{WireFault}
use Rattle.pb_wire.specs.declared.table_kind.TableKind.{TableKind}
use Rattle.otlp_msg.specs.declared.path.Path.{Path}
use Rattle.otlp_msg.specs.declared.refusal.Refusal.{Refusal}
use Rattle.otlp_msg.specs.declared.refusal.Refusal.TheVariants.{Size, Wire, ZeroEntry, Dangling, NoMemory}
use Rattle.otlp_msg.specs.Acceptance.{IsMessageOf, IsAccepted, IsNotZero, IsDangling}
use Rattle.otlp_msg.specs.Message.{Message, message_of, message_limit, tested, with_zeros, dictionary_of, refusal_at}
use Rattle.otlp_msg.specs.Walk.{dangling, lengths_in, message_spots, within}
use Rattle.otlp_msg.specs.Within.{Passed}
use Rattle.otlp_msg.specs.ZeroEntries.{HasZeroEntry, all_tables, first_other}
use Rattle.otlp_msg.proofs.Acceptance.{Read, Answer, accepted_back, accepted_inside, accepted_passed, accepted_read}
use Rattle.otlp_msg.proofs.IndexTests.{inside_to, outside_from, outside_to}
use Rattle.otlp_msg.proofs.Zeros.{all_from, all_to, none_from, none_to, other_from, other_to}

-- ---- the answer, by whether there are too many bytes, their number and what was read of them

-- the answer
abbrev answer : Bool → ℕ → Read → Answer
answer t n r = cond t (Err (Size n)) (tested r)

-- the answers of the two tests
abbrev zeros_of : Message → Option TableKind
zeros_of m = first_other (dictionary_of m) all_tables

abbrev inside_of : Message → Passed
inside_of m = within (lengths_in (dictionary_of m)) (message_spots m)

-- why it is a refusal
abbrev Why : Bool → ℕ → Read → Refusal → Type 0
Why t n r (Size len) = (t ≡ true) × (len ≡ n)
Why t n r (Wire f) = (t ≡ false) × (r ≡ Err (fault_view f))
Why t n r (ZeroEntry table) = (m : Message) × (t ≡ false) × (r ≡ Ok m) × (zeros_of m ≡ Some table)
Why t n r (Dangling table index len path) = (m : Message) × (t ≡ false) × (r ≡ Ok m) × (zeros_of m ≡ None) × (inside_of m ≡ Err (Dangling table index len path))
Why t n r NoMemory = ⊥

-- refusals that are equal as answers are equal
same_refusal : (a b : Refusal) → (let x : Answer = Err a in let y : Answer = Err b in x ≡ y) → a ≡ b
same_refusal a b e = cc

-- the reason of a fault's refusal
why_fault : (n place : ℕ) (reason : faults.Reason) → Why false n (Err (fault_at place reason)) (refusal_at place reason)
why_fault n place faults.Truncated = (refl, refl)
why_fault n place faults.VarintLong = (refl, refl)
why_fault n place faults.FieldNumber = (refl, refl)
why_fault n place faults.WireType = (refl, refl)
why_fault n place faults.NotUtf8 = (refl, refl)
why_fault n place faults.PackedLength = (refl, refl)
why_fault n place faults.TooDeep = (refl, refl)

-- the reason of a refusal for an index
why_outside : (n : ℕ) (m : Message) (r : Passed) (why : Refusal) → zeros_of m ≡ None → inside_of m ≡ r → (let a : Answer = r >>= λ _. Ok m in a ≡ Err why) → Why false n (Ok m) why
why_outside n m (Ok u) why z q e = absurd cc
why_outside n m (Err w) why z q e =
    let f = outside_from (lengths_in (dictionary_of m)) (message_spots m) w q in
    let is : dangling (lengths_in (dictionary_of m)) f.spot ≡ why = sym f.refusal ∙ same_refusal w why e in
    subst (λ (x : Refusal). Why false n (Ok m) x) is (m, refl, refl, z, q ∙ ap (λ (x : Refusal). let p : Passed = Err x in p) f.refusal)

-- and of one for a first entry, or else for an index
why_tested : (n : ℕ) (m : Message) (o : Option TableKind) (why : Refusal) → zeros_of m ≡ o → with_zeros o m ≡ Err why → Why false n (Ok m) why
why_tested n m (Some table) why z e = subst (λ (w : Refusal). Why false n (Ok m) w) (same_refusal (ZeroEntry table) why e) (m, refl, refl, z)
why_tested n m None why z e = why_outside n m (inside_of m) why z refl e

-- a refusal has its reason
why_from : (t : Bool) (n : ℕ) (r : Read) (why : Refusal) → answer t n r ≡ Err why → Why t n r why
why_from true n r why e = subst (λ (w : Refusal). Why true n r w) (same_refusal (Size n) why e) (refl, refl)
why_from false n (Ok m) why e = why_tested n m (zeros_of m) why refl e
why_from false n (Err f) why e = subst (λ (w : Refusal). Why false n (Err f) w) (same_refusal (refusal_at f.place f.reason) why e) (why_fault n f.place f.reason)

-- the refusal of a fault of the wire format
wire_back : (place : ℕ) (reason : Reason) → (let f : WireFault = record { place = place; reason = reason } in tested (Err (fault_view f)) ≡ Err (Wire f))
wire_back place reasons.Truncated = refl
wire_back place reasons.VarintLong = refl
wire_back place reasons.FieldNumber = refl
wire_back place reasons.WireType = refl
wire_back place reasons.NotUtf8 = refl
wire_back place reasons.PackedLength = refl
wire_back place reasons.TooDeep = refl

-- the answer where the size is right
sized : (t : Bool) (n : ℕ) (r s : Read) → t ≡ false → r ≡ s → answer t n r ≡ tested s
sized t n r s e f = ap (λ (x : Bool). answer x n r) e ∙ ap tested f

-- and where there is a reason, that is the refusal
why_to : (t : Bool) (n : ℕ) (r : Read) (why : Refusal) → Why t n r why → answer t n r ≡ Err why
why_to t n r (Size len) w = ap (λ (x : Bool). answer x n r) w.0 ∙ ap (λ (x : ℕ). let a : Answer = Err (Size x) in a) (sym w.1)
why_to t n r (Wire f) w = sized t n r (Err (fault_view f)) w.0 w.1 ∙ wire_back f.place f.reason
why_to t n r (ZeroEntry table) w = sized t n r (Ok w.0) w.1 w.2 ∙ ap (λ o. with_zeros o w.0) w.3
why_to t n r (Dangling table index len path) w =
    sized t n r (Ok w.0) w.1 w.2 ∙ ap (λ o. with_zeros o w.0) w.3 ∙ ap (λ (p : Passed). let a : Answer = p >>= λ _. Ok w.0 in a) w.4
why_to t n r NoMemory w = absurd w

-- ---- the bytes of a file

-- whether there are too many bytes
abbrev too_many : List ℕ → Bool
too_many body = nat_lt message_limit (length body)

-- what is read of them
abbrev read_of : List ℕ → Read
read_of body = merge envelope (empty envelope) 0 body

-- a refusal of the bytes has its reason
from_answer : (body : List ℕ) (why : Refusal) → message_of body ≡ Err why → Why (too_many body) (length body) (read_of body) why
from_answer body why e = why_from (too_many body) (length body) (read_of body) why e

-- and the other way
to_answer : (body : List ℕ) (why : Refusal) → Why (too_many body) (length body) (read_of body) why → message_of body ≡ Err why
to_answer body why w = why_to (too_many body) (length body) (read_of body) why w

-- the size is wrong
pub size_from : (body : List ℕ) (len : ℕ) → message_of body ≡ Err (Size len) → (message_limit < length body) × (len ≡ length body)
size_from body len e = let w = from_answer body (Size len) e in (ltb-true message_limit (length body) w.0, w.1)

-- and the other way
pub size_to : (body : List ℕ) (len : ℕ) → (message_limit < length body) × (len ≡ length body) → message_of body ≡ Err (Size len)
size_to body len h = to_answer body (Size len) (lt-ltb message_limit (length body) h.0, h.1)

-- the bytes have a fault
pub wire_from : (body : List ℕ) (f : WireFault) → message_of body ≡ Err (Wire f) → (length body ≤ message_limit) × HasFault envelope 0 body (fault_view f)
wire_from body f e =
    let w = from_answer body (Wire f) e in
    (ltb-false message_limit (length body) w.0, merge_err envelope (empty envelope) 0 body (fault_view f) w.1)

-- and the other way
pub wire_to : (body : List ℕ) (f : WireFault) → (length body ≤ message_limit) × HasFault envelope 0 body (fault_view f) → message_of body ≡ Err (Wire f)
wire_to body f h = to_answer body (Wire f) (le-ltb message_limit (length body) h.0, merge_fault envelope (empty envelope) 0 body (fault_view f) h.1)

-- the bytes are those of a message
is_message : (body : List ℕ) (m : Message) → too_many body ≡ false → read_of body ≡ Ok m → IsMessageOf body m
is_message body m t r = record { small = ltb-false message_limit (length body) t; read = read_from envelope (empty envelope) m 0 body r }

-- a table begins with another entry than its zero entry
pub zero_entry_from : (body : List ℕ) (table : TableKind) → message_of body ≡ Err (ZeroEntry table) → IsNotZero body table
zero_entry_from body table e =
    let w = from_answer body (ZeroEntry table) e in
    let f = other_from (dictionary_of w.0) all_tables table w.3 in
    record {
      message = w.0;
      is = is_message body w.0 w.1 w.2;
      before = f.before;
      after = f.after;
      tables = f.parts;
      zeros = f.zeros;
      other = f.other;
    }

-- and the other way
pub zero_entry_to : (body : List ℕ) (table : TableKind) → IsNotZero body table → message_of body ≡ Err (ZeroEntry table)
zero_entry_to body table z =
    let d = dictionary_of z.message in
    to_answer body (ZeroEntry table) (
      z.message,
      le-ltb message_limit (length body) z.is.small,
      read_to envelope (empty envelope) z.message 0 body z.is.read,
      ap (first_other d) z.tables ∙ other_to d z.before z.after table z.zeros z.other,
    )

-- an index is not in its table
pub dangling_from : (body : List ℕ) (table : TableKind) (index : ℤ) (len : ℕ) (path : Path) → message_of body ≡ Err (Dangling table index len path) → IsDangling body table index len path
dangling_from body table index len path e =
    let w = from_answer body (Dangling table index len path) e in
    let d = dictionary_of w.0 in
    let f = outside_from (lengths_in d) (message_spots w.0) (Dangling table index len path) w.4 in
    let same : Dangling table index len path ≡ dangling (lengths_in d) f.spot = f.refusal in
    let its_table : table ≡ f.spot.table = cc in
    record {
      message = w.0;
      is = is_message body w.0 w.1 w.2;
      zeros = all_from (HasZeroEntry d) (none_from d all_tables w.3);
      before = f.before;
      spot = f.spot;
      after = f.after;
      walk = f.parts;
      inside = f.inside;
      outside = f.outside;
      its_table = its_table;
      its_index = cc;
      its_length = let l : len ≡ lengths_in d f.spot.table = cc in l ∙ ap (lengths_in d) (sym its_table);
      its_path = cc;
    }

-- and the other way
pub dangling_to : (body : List ℕ) (table : TableKind) (index : ℤ) (len : ℕ) (path : Path) → IsDangling body table index len path → message_of body ≡ Err (Dangling table index len path)
dangling_to body table index len path h =
    let m = h.message in
    let d = dictionary_of m in
    let length_there : len ≡ lengths_in d h.spot.table = h.its_length ∙ ap (lengths_in d) h.its_table in
    let same : dangling (lengths_in d) h.spot ≡ Dangling table index len path = cc (h.its_table, h.its_index, h.its_path, length_there) in
    to_answer body (Dangling table index len path) (
      m,
      le-ltb message_limit (length body) h.is.small,
      read_to envelope (empty envelope) m 0 body h.is.read,
      none_to d all_tables (all_to (HasZeroEntry d) h.zeros),
      ap (within (lengths_in d)) h.walk ∙ outside_to (lengths_in d) h.before h.spot h.after h.inside h.outside ∙ ap (λ (x : Refusal). let p : Passed = Err x in p) same,
    )

-- memory is no matter of the bytes
pub never_memory : (body : List ℕ) → message_of body ≡ Err NoMemory → ⊥
never_memory body e = from_answer body NoMemory e

-- ---- accepted bytes

-- a message that is the answer was accepted
pub accepted_from : (body : List ℕ) (m : Message) → message_of body ≡ Ok m → IsAccepted body m
accepted_from body m e =
    let p = accepted_read body m e in
    let q = accepted_passed body m e in
    record {
      message = record { small = p.0; read = read_from envelope (empty envelope) m 0 body p.1 };
      zeros = all_from (HasZeroEntry (dictionary_of m)) (none_from (dictionary_of m) all_tables q.0);
      inside = accepted_inside body m e;
    }

-- and one that was accepted is the answer
pub accepted_to : (body : List ℕ) (m : Message) → IsAccepted body m → message_of body ≡ Ok m
accepted_to body m a =
    accepted_back body m a.message.small (read_to envelope (empty envelope) m 0 body a.message.read)
    (none_to (dictionary_of m) all_tables (all_to (HasZeroEntry (dictionary_of m)) a.zeros), inside_to (lengths_in (dictionary_of m)) (message_spots m) a.inside)
