-- What is known of a message that was accepted.
use Rattle.std.proofs.Common.{◌≡◌, ℕ, suc, ◌<◌, ◌≤◌, ◌^◌, Bool, true, false, cond, List, [], ◌∷◌, length, map, get_or, All, Option, Some, None, Result, Ok, Err, refl, ap, subst, ◌∙◌, arith}
use Rattle.std.specs.Prelude.{nat_lt}
use Rattle.std.proofs.lemmas.Bool.{le-ltb, ltb-false}
use Rattle.std.proofs.lemmas.List.Elements.{All-get_or, All-from_get_or}
use Rattle.schema.specs.Fault.{Fault}
use Rattle.schema.specs.Each.{Each}
use Rattle.schema.specs.Fits.{Fits}
use Rattle.schema.specs.Merge.{merge}
use Rattle.schema.specs.Messages.{envelope, resource_profiles}
use Rattle.schema.specs.Shape.{Table, empty}
use Rattle.schema.specs.Spell.{spell}
use Rattle.schema.specs.Decoding.{◌>>=◌}
use Rattle.schema_laws.proofs.Lawfulness.{lawful_from}
use Rattle.schema_laws.proofs.ReadFits.{read_fits, read_short}
use Rattle.schema_laws.proofs.Results.{ok_is}
use Rattle.meaning.specs.Canonical.{IsWithin}
use Rattle.meaning.specs.Meaning.{HasZeros}
use Rattle.meaning.specs.Message.{tables_in}
use Rattle.meaning.specs.Tables.{entry}
use Rattle.meaning.specs.Tree.{tree}
use Rattle.pb_wire.specs.declared.table_kind.TableKind.{TableKind}
use Rattle.otlp_msg.specs.declared.refusal.Refusal.{Refusal}
use Rattle.otlp_msg.specs.declared.refusal.Refusal.TheVariants.{Size}
use Rattle.otlp_msg.specs.Message.{Message, message_of, message_limit, tested, with_zeros, dictionary_of, records_of}
use Rattle.otlp_msg.specs.Walk.{IsInside, lengths_in, message_spots, within}
use Rattle.otlp_msg.specs.Within.{HasPlaces, Passed}
use Rattle.otlp_msg.specs.ZeroEntries.{HasZeroEntry, all_tables, first_other}
use Rattle.otlp_msg.proofs.IndexTests.{entries_inside, inside_from, records_inside}
use Rattle.otlp_msg.proofs.Places.{places_from}
use Rattle.otlp_msg.proofs.Zeros.{all_from, none_from, zeros_from}

-- each element in order
pub each : {A : Type 0} (P : A → Type 0) (xs : List A) → All P xs → Each P xs
each P [] h = tt
each P (x ∷ xs) h = (h 0 x (omega arith), each P xs (λ k d lt. h (suc k) d (omega arith)))

-- the bytes of a slice
pub bytes_of_slice : (xs : List ℕ) → ((k : ℕ) → get_or xs k 0 < 256) → All (λ b. b < 256) xs
bytes_of_slice xs h k d lt = All-get_or (λ b. b < 256) xs k d lt (All-from_get_or (λ b. b < 256) xs 0 (λ i _. h i))

abbrev pub Read : Type 0
Read = Result Message Fault

abbrev pub Answer : Type 0
Answer = Result Message Refusal

-- an answer that is right is no refusal
not_failed : (t : Bool) (r : Answer) (m : Message) (why : Refusal) → cond t (Err why) r ≡ Ok m → (t ≡ false) × (r ≡ Ok m)
not_failed true r m why e = absurd cc
not_failed false r m why e = (refl, e)

-- what is known of a message that passed the tests
abbrev pub HasPassed : Message → Type 0
HasPassed m = (first_other (dictionary_of m) all_tables ≡ None) × (within (lengths_in (dictionary_of m)) (message_spots m) ≡ Ok tt)

-- a test of indexes that was passed
indexes_ok : (r : Passed) (n m : Message) → (let a : Answer = r >>= λ _. Ok n in a ≡ Ok m) → (r ≡ Ok tt) × (n ≡ m)
indexes_ok (Ok u) n m e = (refl, ok_is n m e)
indexes_ok (Err why) n m e = absurd cc

-- and one of first entries
zeros_ok : (o : Option TableKind) (n m : Message) → with_zeros o n ≡ Ok m → (o ≡ None) × (within (lengths_in (dictionary_of n)) (message_spots n) ≡ Ok tt) × (n ≡ m)
zeros_ok (Some table) n m e = absurd cc
zeros_ok None n m e = let p = indexes_ok (within (lengths_in (dictionary_of n)) (message_spots n)) n m e in (refl, p.0, p.1)

-- what passed the tests was read
tested_ok : (r : Read) (m : Message) → tested r ≡ Ok m → (r ≡ Ok m) × HasPassed m
tested_ok (Ok n) m e =
    let p = zeros_ok (first_other (dictionary_of n) all_tables) n m e in
    (ap (λ (x : Message). let r : Read = Ok x in r) p.2, subst HasPassed p.2 (p.0, p.1))
tested_ok (Err f) m e = absurd cc

-- an accepted message was read of few bytes, and passed the tests
accepted_all : (body : List ℕ) (m : Message) → message_of body ≡ Ok m → (length body ≤ message_limit) × ((merge envelope (empty envelope) 0 body ≡ Ok m) × HasPassed m)
accepted_all body m e =
    let p = not_failed (nat_lt message_limit (length body)) (tested (merge envelope (empty envelope) 0 body)) m (Size (length body)) e in
    (ltb-false message_limit (length body) p.0, tested_ok (merge envelope (empty envelope) 0 body) m p.1)

pub accepted_read : (body : List ℕ) (m : Message) → message_of body ≡ Ok m → (length body ≤ message_limit) × (merge envelope (empty envelope) 0 body ≡ Ok m)
accepted_read body m e = let p = accepted_all body m e in (p.0, p.1.0)

pub accepted_passed : (body : List ℕ) (m : Message) → message_of body ≡ Ok m → HasPassed m
accepted_passed body m e = (accepted_all body m e).1.1

-- ---- what is read of few bytes

-- its spelling is short, it fits, and its elements are at places of 32 bits
pub read_fit : (body : List ℕ) (m : Message) → All (λ b. b < 256) body → length body ≤ message_limit → merge envelope (empty envelope) 0 body ≡ Ok m → Fits envelope m
read_fit body m bytes few e = read_fits envelope tt (lawful_from envelope refl) 0 body m (each (λ b. b < 256) body bytes) (omega arith) e

pub read_places : (body : List ℕ) (m : Message) → All (λ b. b < 256) body → length body ≤ message_limit → merge envelope (empty envelope) 0 body ≡ Ok m → HasPlaces envelope m
read_places body m bytes few e =
    let short = read_short envelope 0 body m (each (λ b. b < 256) body bytes) (omega arith) e in
    places_from envelope m (read_fit body m bytes few e) (omega arith)

-- the same over a message that is empty
pub read_over : (u m : Message) (body : List ℕ) → u ≡ empty envelope → merge envelope u 0 body ≡ Ok m → merge envelope (empty envelope) 0 body ≡ Ok m
read_over u m body e r = subst (λ (x : Message). merge envelope x 0 body ≡ Ok m) e r

-- what is read of few bytes and passes the tests is accepted
pub accepted_back : (body : List ℕ) (m : Message) → length body ≤ message_limit → merge envelope (empty envelope) 0 body ≡ Ok m → HasPassed m → message_of body ≡ Ok m
accepted_back body m few e passed =
    ap (λ b. let a : Answer = cond b (Err (Size (length body))) (tested (merge envelope (empty envelope) 0 body)) in a) (le-ltb message_limit (length body) few)
    ∙ ap tested e
    ∙ ap (λ o. with_zeros o m) passed.0
    ∙ ap (λ (r : Passed). let a : Answer = r >>= λ _. Ok m in a) passed.1

-- ---- what is known of an accepted message

-- so its spelling is short
pub accepted_short : (body : List ℕ) (m : Message) → All (λ b. b < 256) body → message_of body ≡ Ok m → length (spell envelope m) < 2 ^ 60
accepted_short body m bytes e =
    let p = accepted_read body m e in
    let few : length body ≤ message_limit = p.0 in
    let short = read_short envelope 0 body m (each (λ b. b < 256) body bytes) (omega arith) p.1 in
    omega arith

-- and it fits
pub accepted_fits : (body : List ℕ) (m : Message) → All (λ b. b < 256) body → message_of body ≡ Ok m → Fits envelope m
accepted_fits body m bytes e = let p = accepted_read body m e in read_fit body m bytes p.0 p.1

-- each of its tables begins with its zero entry
pub accepted_zeros : (body : List ℕ) (m : Message) → message_of body ≡ Ok m → HasZeros (tables_in (dictionary_of m))
accepted_zeros body m e =
    let p = accepted_passed body m e in
    zeros_from (dictionary_of m) (all_from (HasZeroEntry (dictionary_of m)) (none_from (dictionary_of m) all_tables p.0))

-- and each of its indexes is in its table
pub accepted_inside : (body : List ℕ) (m : Message) → message_of body ≡ Ok m → Each (IsInside (lengths_in (dictionary_of m))) (message_spots m)
accepted_inside body m e = let p = accepted_passed body m e in inside_from (lengths_in (dictionary_of m)) (message_spots m) p.1

pub accepted_entries : (body : List ℕ) (m : Message) → message_of body ≡ Ok m → (T : Table) → Each (IsWithin (tables_in (dictionary_of m)) (entry T)) (tables_in (dictionary_of m) T)
accepted_entries body m e = entries_inside m (accepted_inside body m e)

pub accepted_records : (body : List ℕ) (m : Message) → message_of body ≡ Ok m → Each (IsWithin (tables_in (dictionary_of m)) resource_profiles) (map (tree resource_profiles) (records_of m))
accepted_records body m e = records_inside m (accepted_inside body m e)
