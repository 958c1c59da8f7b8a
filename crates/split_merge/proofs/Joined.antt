-- Laws of several messages as one.
use Rattle.std.proofs.Common.{◌≡◌, ℕ, zero, suc, ◌<◌, ◌≤◌, ◌⊎◌, inl, inr, Bool, true, false, cond, List, [], ◌∷◌, ◌++◌, length, map, take, Result, Ok, Err, refl, sym, ap, subst, ◌∙◌, arith}
use Rattle.std.specs.Prelude.{nat_lt}
use Rattle.std.specs.List.{flat_map}
use Rattle.std.proofs.lemmas.Bool.{ltb-false, ltb-true}
use Rattle.otlp_msg.specs.Message.{Message, message_limit}
use Rattle.operations.specs.Flat.{flat, bare}
use Rattle.operations.specs.Seams.{join_onto}
use Rattle.operations.proofs.Bare.{flat-join}
use Rattle.operations.proofs.Growing.{seam-longer}
use Rattle.draft_contents.specs.Meanings.{Meaning, joined, meaning, size_of}
use Rattle.draft_contents.specs.declared.fault.BuildFault.{BuildFault}
use Rattle.draft_contents.specs.declared.fault.BuildFault.TheVariants.{OutputLimit}
use Rattle.draft_contents.proofs.Drafts.{none_size}
use Rattle.split_merge.specs.Canonical.{canon_of, canonical_bytes}
use Rattle.split_merge.specs.Merged.{IsFirstExcess, joined_meaning, joined_onto, merged, merged_onto}
use Rattle.split_merge.proofs.Merges.{merged-within}

-- what messages mean as one is their meanings, joined
pub joined-onto : (messages : List Message) (ms : Meaning) → joined_onto ms messages ≡ join_onto ms (map meaning messages)
joined-onto [] ms = refl
joined-onto (m ∷ more) ms = joined-onto more (joined ms m)

-- with more messages it is no shorter
joined-longer : (messages : List Message) (ms : Meaning) → size_of ms ≤ size_of (joined_onto ms messages)
joined-longer [] ms = omega arith
joined-longer (m ∷ more) ms = let x = seam-longer ms (meaning m) in let y = joined-longer more (joined ms m) in omega arith

none_few : size_of [] ≤ message_limit
none_few = omega (arith, none_size)

-- ---- answers

-- bytes that are made, after a test
made : (t : Bool) (size : ℕ) (r : Result (List ℕ) BuildFault) (b : List ℕ)
    → (let q : Result (List ℕ) BuildFault = Ok b in cond t (Err (OutputLimit size)) r ≡ q) → (t ≡ false) × (let q : Result (List ℕ) BuildFault = Ok b in r ≡ q)
made true size r b e = absurd cc
made false size r b e = (refl, e)

-- a number that is told, after a test
told : (t : Bool) (size n : ℕ) (r : Result (List ℕ) BuildFault) → (let q : Result (List ℕ) BuildFault = Err (OutputLimit n) in cond t (Err (OutputLimit size)) r ≡ q)
    → ((t ≡ true) × (n ≡ size)) ⊎ ((t ≡ false) × (let q : Result (List ℕ) BuildFault = Err (OutputLimit n) in r ≡ q))
told true size n r e = inl (refl, cc)
told false size n r e = inr (refl, e)

-- bytes that are made are the canonical ones of all, and few
made-onto : (messages : List Message) (ms : Meaning) (b : List ℕ) → size_of ms ≤ message_limit → (let q : Result (List ℕ) BuildFault = Ok b in merged_onto ms messages ≡ q)
    → (b ≡ canonical_bytes (joined_onto ms messages)) × (size_of (joined_onto ms messages) ≤ message_limit)
made-onto [] ms b few e = (cc, few)
made-onto (m ∷ more) ms b few e =
    let p = made (nat_lt message_limit (size_of (joined ms m))) (size_of (joined ms m)) (merged_onto (joined ms m) more) b e in
    made-onto more (joined ms m) b (ltb-false _ _ p.0) p.1

pub made-all : (messages : List Message) (b : List ℕ) → (let q : Result (List ℕ) BuildFault = Ok b in merged messages ≡ q)
    → (b ≡ canonical_bytes (joined_meaning messages)) × (length b ≤ message_limit)
unfolding canonical_bytes
made-all messages b e =
    let p = made-onto messages [] b none_few e in
    (p.0, subst (λ n. n ≤ message_limit) (sym (ap length p.0)) p.1)

-- fewer messages have few, where those after the first one have
first_few : (ms : Meaning) (m : Message) (more : List Message) (k : ℕ) → size_of ms ≤ message_limit
    → ((j : ℕ) → j < k → size_of (joined_onto (joined ms m) (take j more)) ≤ message_limit)
    → (j : ℕ) → j < suc k → size_of (joined_onto ms (take j (m ∷ more))) ≤ message_limit
first_few ms m more k few rest zero h = few
first_few ms m more k few rest (suc j) h = rest j (omega arith)

pub first_excess : (messages : List Message) (ms : Meaning) (n : ℕ) → size_of ms ≤ message_limit
    → (let q : Result (List ℕ) BuildFault = Err (OutputLimit n) in merged_onto ms messages ≡ q) → IsFirstExcess ms messages n
first_excess [] ms n few e = absurd cc
first_excess (m ∷ more) ms n few e =
    elim (told (nat_lt message_limit (size_of (joined ms m))) (size_of (joined ms m)) n (merged_onto (joined ms m) more) e) [
      | inl p ↦ record {
        count = 1;
        within = omega arith;
        told = p.1;
        many = subst (λ x. message_limit < x) (sym p.1) (ltb-true message_limit (size_of (joined ms m)) p.0);
        few = first_few ms m more 0 few (λ j h. absurd (omega arith));
      }
      | inr p ↦
          let r = first_excess more (joined ms m) n (ltb-false message_limit (size_of (joined ms m)) p.0) p.1 in
          record { count = suc r.count; within = let h = r.within in omega arith; told = r.told; many = r.many; few = first_few ms m more r.count few r.few }
    ]

pub first_excess_of_all : (messages : List Message) (n : ℕ) → (let q : Result (List ℕ) BuildFault = Err (OutputLimit n) in merged messages ≡ q) → IsFirstExcess [] messages n
first_excess_of_all messages n e = first_excess messages [] n none_few e

-- where those of all are few, there are some
pub fits_onto : (messages : List Message) (ms : Meaning) → size_of (joined_onto ms messages) ≤ message_limit
    → (let q : Result (List ℕ) BuildFault = Ok (canonical_bytes (joined_onto ms messages)) in merged_onto ms messages ≡ q)
fits_onto [] ms few = refl
fits_onto (m ∷ more) ms few =
    let x = joined-longer more (joined ms m) in
    merged-within ms m more (omega arith) ∙ fits_onto more (joined ms m) few

-- a single message has its canonical bytes
pub merged-one : (m : Message) → merged (m ∷ []) ≡ canon_of m
unfolding canonical_bytes
merged-one m = refl

-- ---- profiles

pub flat_map-map : {X Y Z : Type 0} (f : Y → List Z) (g : X → Y) (xs : List X) → flat_map f (map g xs) ≡ flat_map (λ x. f (g x)) xs
flat_map-map f g [] = refl
flat_map-map f g (x ∷ xs) = ap (λ l. f (g x) ++ l) (flat_map-map f g xs)

pub same_profiles : (messages : List Message) → map bare (flat (joined_meaning messages ∷ [])) ≡ flat_map (λ m. map bare (flat (meaning m ∷ []))) messages
same_profiles messages =
    ap (λ ms. map bare (flat (ms ∷ []))) (joined-onto messages [])
    ∙ flat-join (map meaning messages)
    ∙ flat_map-map (λ ms. map bare (flat (ms ∷ []))) meaning messages
