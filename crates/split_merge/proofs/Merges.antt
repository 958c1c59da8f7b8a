-- Messages that are joined one after the other.
use Rattle.std.proofs.Common.{◌≡◌, ℕ, ◌+◌, ◌<◌, ◌≤◌, get_or, length, map, take, Bool, cond, List, [], ◌∷◌, ◌++◌, Some, None, Result, Ok, Err, IfOk, IfErr, refl, sym, ap, subst, ◌∙◌, append_assoc}
use Rattle.std.proofs.lemmas.Bool.{le-ltb, lt-ltb}
use Rattle.std.proofs.lemmas.List.{append-nil, map-append, take_all, take_more}
use Rattle.meaning.specs.Message.{meaning_text}
use Rattle.schema.specs.Messages.{resource_profiles}
use Rattle.otlp_msg.specs.Message.{Message, message_limit}
use Rattle.draft_contents.specs.Contents.{Contents}
use Rattle.draft_contents.specs.Draft.{IsFaultOf, StandsFor}
use Rattle.draft_contents.specs.Meanings.{Meaning, joined, size_of}
use Rattle.draft_contents.specs.declared.fault.BuildFault.{BuildFault}
use Rattle.draft_contents.specs.declared.fault.BuildFault.TheVariants.{OutputLimit}
use Rattle.split_merge.specs.Canonical.{IsBuildFault, IsOnlyOf, canonical_bytes}
use Rattle.split_merge.specs.Merged.{IsMerge, IsMergeOf, Merge, joined_meaning, joined_onto, merged, merged_onto}
use Rattle.split_merge.proofs.Bytes.{only_answer}

-- one message more is joined to those before it
pub joined-more : (messages : List Message) (ms : Meaning) (m : Message) → joined_onto ms (messages ++ m ∷ []) ≡ joined (joined_onto ms messages) m
joined-more [] ms m = refl
joined-more (n ∷ messages) ms m = joined-more messages (joined ms n) m

-- a message that doesn't make the bytes too many is followed by the next ones
pub merged-within : (ms : Meaning) (m : Message) (more : List Message) → size_of (joined ms m) ≤ message_limit → merged_onto ms (m ∷ more) ≡ merged_onto (joined ms m) more
merged-within ms m more few =
    ap (λ (t : Bool). let r : Result (List ℕ) BuildFault = cond t (Err (OutputLimit (size_of (joined ms m)))) (merged_onto (joined ms m) more) in r)
    (le-ltb message_limit (size_of (joined ms m)) few)

-- one that does isn't
merged-beyond : (ms : Meaning) (m : Message) (more : List Message) → message_limit < size_of (joined ms m) → let r : Result (List ℕ) BuildFault = Err (OutputLimit (size_of (joined ms m))) in merged_onto ms (m ∷ more) ≡ r
merged-beyond ms m more many =
    ap (λ (t : Bool). let r : Result (List ℕ) BuildFault = cond t (Err (OutputLimit (size_of (joined ms m)))) (merged_onto (joined ms m) more) in r)
    (lt-ltb message_limit (size_of (joined ms m)) many)

-- a draft of some messages to which one more was joined
pub one_more : (c d : Contents) (m : Message) → ((ms : Meaning) → StandsFor c ms → StandsFor d (joined ms m))
    → (messages : List Message) → IsMergeOf c None messages → IsMergeOf d None (messages ++ m ∷ [])
one_more c d m s messages g =
    let t : StandsFor d (joined (joined_meaning messages) m) = s (joined_meaning messages) g.0 in
    let e : joined_meaning (messages ++ m ∷ []) ≡ joined (joined_meaning messages) m = joined-more messages [] m in
    let w = t.written in (
      subst (λ ms. StandsFor d ms) (sym e) t,
      λ more.
          ap merged (append_assoc messages (m ∷ []) more) ∙ g.1 (m ∷ more) ∙ merged-within (joined_meaning messages) m more w.small
          ∙ ap (λ ms. merged_onto ms more) (sym e),
    )

-- one to which no more can be joined
pub too_many : (c d : Contents) (m : Message) (size : ℕ) → ((ms : Meaning) → StandsFor c ms → IsFaultOf message_limit (joined ms m) (OutputLimit size))
    → (messages : List Message) → IsMergeOf c None messages → IsMergeOf d (Some size) (messages ++ m ∷ [])
too_many c d m size f messages g more =
    let l = f (joined_meaning messages) g.0 in
    ap merged (append_assoc messages (m ∷ []) more) ∙ g.1 (m ∷ more)
    ∙ merged-beyond (joined_meaning messages) m more (subst (λ n. message_limit < n) l.0 l.1)
    ∙ ap (λ n. let r : Result (List ℕ) BuildFault = Err (OutputLimit n) in r) (sym l.0)

-- the bytes of a draft are those of its messages
pub merged_bytes : (d : Contents) (b : List ℕ) → ((ms : Meaning) → StandsFor d ms → b ≡ meaning_text resource_profiles ms)
    → (messages : List Message) → IsMergeOf d None messages → merged messages ≡ Ok b
unfolding canonical_bytes
merged_bytes d b e messages g =
    ap merged (sym (append-nil messages)) ∙ g.1 []
    ∙ ap (λ (x : List ℕ). let r : Result (List ℕ) BuildFault = Ok x in r) (sym (e (joined_meaning messages) g.0))

pub merged_only : (d : Contents) (b : List ℕ) → ((ms : Meaning) → StandsFor d ms → b ≡ meaning_text resource_profiles ms)
    → (messages : List Message) → IsMergeOf d None messages → IsOnlyOf b (joined_meaning messages)
merged_only d b e messages g = let s = g.0 in only_answer (joined_meaning messages) b s.written (e (joined_meaning messages) s)

-- a size that was too many is their fault
pub merged_fault : (d : Contents) (size : ℕ) (messages : List Message) → IsMergeOf d (Some size) messages → IsBuildFault (merged messages) (OutputLimit size)
merged_fault d size messages g = ap merged (sym (append-nil messages)) ∙ g []

-- ---- a list of messages

-- those up to a place, and the one there
pub values-more : {X : Type 0} (f : X → Message) (xs : List X) (i : ℕ) (x : X) → i < length xs → x ≡ get_or xs i x → map f (take (i + 1) xs) ≡ map f (take i xs) ++ f x ∷ []
values-more f xs i x l e =
    ap (map f) (take_more xs i x l ∙ ap (λ y. take i xs ++ y ∷ []) (sym e)) ∙ map-append f (take i xs) (x ∷ [])

-- at the end of a list all of it was joined
pub all_joined : {X : Type 0} (f : X → Message) (g : Merge) (xs ys : List X) (n : ℕ) → length xs ≤ n → xs ≡ ys → IsMerge g (map f (take n xs)) → IsMerge g (map f ys)
all_joined f g xs ys n l e = subst (IsMerge g) (ap (map f) (take_all n xs l ∙ e))

-- what an answer says of any messages that were joined, it says of these
pub of_these_ok : {T E : Type 0} (P : List Message → T → Type 0) (r : Result T E) (g : Merge) (messages : List Message) → IsMerge g messages
    → IfOk r (λ x. (ms : List Message) → IsMerge g ms → P ms x) → IfOk r (P messages)
of_these_ok P (Ok x) g messages m p = p messages m
of_these_ok P (Err e) g messages m p = tt

pub of_these_err : {T E : Type 0} (P : List Message → E → Type 0) (r : Result T E) (g : Merge) (messages : List Message) → IsMerge g messages
    → IfErr r (λ e. (ms : List Message) → IsMerge g ms → P ms e) → IfErr r (P messages)
of_these_err P (Ok x) g messages m p = tt
of_these_err P (Err e) g messages m p = p messages m
