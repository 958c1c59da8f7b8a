-- Canonical bytes are accepted, with their meaning, and are those of no other meaning.
use Rattle.std.proofs.Common.{◌≡◌, ℕ, ◌<◌, ◌≤◌, Bool, true, false, cond, List, length, Result, Ok, Err, refl, sym, ap, subst, ◌∙◌}
use Rattle.std.specs.Prelude.{nat_lt}
use Rattle.std.proofs.lemmas.Bool.{ltb-false, le-ltb, lt-ltb}
use Rattle.schema.specs.Fits.{Fits}
use Rattle.schema.specs.Messages.{resource_profiles, envelope}
use Rattle.meaning.specs.Message.{meaning_text}
use Rattle.otlp_msg.specs.Message.{Message, message_of, message_limit}
use Rattle.otlp_msg.specs.declared.refusal.Refusal.{Refusal}
use Rattle.draft_contents.specs.declared.fault.BuildFault.{BuildFault}
use Rattle.draft_contents.specs.declared.fault.BuildFault.TheVariants.{OutputLimit, NoMemory}
use Rattle.draft_contents.specs.Draft.{IsFaultOf}
use Rattle.draft_contents.specs.Meanings.{size_of}
use Rattle.draft_contents.proofs.Acceptance.{apart, meaning_accepted, message_written}
use Rattle.split_merge.specs.Canonical.{Meaning, meaning, canonical_bytes, canon_of, within_limit, CanBeWritten, IsAcceptedAs, IsBuildFault, IsOnlyOf}

-- the canonical bytes of a meaning that can be written are those of this meaning alone, and are accepted with it
pub only_meaning : (ms : Meaning) → CanBeWritten ms → IsOnlyOf (canonical_bytes ms) ms
unfolding canonical_bytes
only_meaning ms w ns x e = apart ns ms x w e

pub accepted_meaning : (ms : Meaning) → CanBeWritten ms → IsAcceptedAs (canonical_bytes ms) ms
unfolding canonical_bytes
accepted_meaning ms w = meaning_accepted ms w

-- what is within the limit is answered as it is
limited : (t : Bool) (bytes b : List ℕ) (size : ℕ) → (let r : Result (List ℕ) BuildFault = cond t (Err (OutputLimit size)) (Ok bytes) in let q : Result (List ℕ) BuildFault = Ok b in r ≡ q)
    → (t ≡ false) × (bytes ≡ b)
limited true bytes b size e = absurd cc
limited false bytes b size e = (refl, cc)

pub within : (bytes b : List ℕ) → within_limit bytes ≡ Ok b → (length bytes ≤ message_limit) × (bytes ≡ b)
within bytes b e = let p = limited (nat_lt message_limit (length bytes)) bytes b (length bytes) e in (ltb-false _ _ p.0, p.1)

-- so those of a message are accepted with its meaning
pub accepted_as : (m : Message) → Fits envelope m → (b : List ℕ) → canon_of m ≡ Ok b → IsAcceptedAs b (meaning m)
unfolding canonical_bytes
accepted_as m fits b e =
    let p = within (canonical_bytes (meaning m)) b e in
    subst (λ (x : List ℕ). IsAcceptedAs x (meaning m)) p.1 (meaning_accepted (meaning m) (message_written m fits p.0))

-- and are those of this meaning alone
pub only_of : (m : Message) → Fits envelope m → (b : List ℕ) → canon_of m ≡ Ok b → IsOnlyOf b (meaning m)
unfolding canonical_bytes
only_of m fits b e ns w q =
    let p = within (canonical_bytes (meaning m)) b e in
    apart ns (meaning m) w (message_written m fits p.0) (q ∙ sym p.1)

-- ---- laws

-- the canonical bytes of canonical bytes are the same
pub canon_again : (m : Message) → Fits envelope m → (b : List ℕ) → canon_of m ≡ Ok b → (n : Message) → message_of b ≡ Ok n → canon_of n ≡ Ok b
canon_again m fits b e n r =
    let a = accepted_as m fits b e in
    let s : n ≡ a.message = same_message n a.message (sym r ∙ a.accepted) in
    ap canon_of s ∙ ap (λ ms. within_limit (canonical_bytes ms)) a.same ∙ e
  where
    same_message : (x y : Message) → (let r : Result Message Refusal = Ok x in r ≡ Ok y) → x ≡ y
    same_message x y e = cc

-- two messages with the same canonical bytes mean the same
pub canon_apart : (m n : Message) → Fits envelope m → Fits envelope n → (b : List ℕ) → canon_of m ≡ Ok b → canon_of n ≡ Ok b → meaning m ≡ meaning n
unfolding canonical_bytes
canon_apart m n f g b e q =
    let p = within (canonical_bytes (meaning n)) b q in
    sym (only_of m f b e (meaning n) (message_written n g p.0) p.1)

-- ---- the code

-- the bytes of a draft of a message are answered
pub answered : (m : Message) (b : List ℕ) → b ≡ meaning_text resource_profiles (meaning m) → size_of (meaning m) ≤ message_limit → canon_of m ≡ Ok b
unfolding canonical_bytes
answered m b e few =
    ap (λ (t : Bool). let r : Result (List ℕ) BuildFault = cond t (Err (OutputLimit (size_of (meaning m)))) (Ok (meaning_text resource_profiles (meaning m))) in r)
    (le-ltb message_limit (size_of (meaning m)) few)
    ∙ ap (λ (x : List ℕ). let r : Result (List ℕ) BuildFault = Ok x in r) (sym e)

-- and are those of its meaning alone
pub only_answer : (ms : Meaning) (b : List ℕ) → CanBeWritten ms → b ≡ meaning_text resource_profiles ms → IsOnlyOf b ms
unfolding canonical_bytes
only_answer ms b w e ns x q = apart ns ms x w (q ∙ e)

-- and its fault, where there are too many
pub refused_as : (m : Message) (fault : BuildFault) → IsFaultOf message_limit (meaning m) fault → IsBuildFault (canon_of m) fault
unfolding canonical_bytes
refused_as m (OutputLimit size) l =
    ap (λ (t : Bool). let r : Result (List ℕ) BuildFault = cond t (Err (OutputLimit (size_of (meaning m)))) (Ok (meaning_text resource_profiles (meaning m))) in r)
    (lt-ltb message_limit (size_of (meaning m)) (subst (λ n. message_limit < n) l.0 l.1))
    ∙ ap (λ n. let r : Result (List ℕ) BuildFault = Err (OutputLimit n) in r) (sym l.0)
refused_as m NoMemory l = tt
