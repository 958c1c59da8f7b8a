-- A part that is cut off, and one that is refused.
use Rattle.std.proofs.Common.{◌≡◌, ℕ, zero, suc, ◌+◌, ◌-◌, ◌<◌, ◌≤◌, ◌⊎◌, inl, inr, Bool, true, false, cond, List, [], ◌∷◌, ◌++◌, length, take, drop, Option, Some, None, Result, Ok, Err, IfOk, IfSome, refl, sym, ap, subst, ◌∙◌, arith}
use Rattle.std.specs.Prelude.{nat_lt}
use Rattle.std.proofs.lemmas.Bool.{le-ltb, lt-ltb}
use Rattle.std.proofs.lemmas.List.{drop_all, take-append-drop}
use Rattle.schema.specs.Messages.{resource_profiles}
use Rattle.meaning.specs.Message.{meaning_text}
use Rattle.operations.specs.Cuts.{first_length, size_of}
use Rattle.operations.specs.Flat.{FlatProfile, group}
use Rattle.operations.proofs.Growing.{prefix-shorter}
use Rattle.operations.proofs.Longest.{first-between, longest-is}
use Rattle.otlp_msg.specs.Message.{Message, message_limit}
use Rattle.draft_contents.specs.Contents.{Contents}
use Rattle.draft_contents.specs.Draft.{AreAcceptedFor, AreBytesOf, IsFaultOf, IsFaultOfPlaced, StandsFor}
use Rattle.draft_contents.specs.Meanings.{Meaning, meaning}
use Rattle.draft_contents.specs.declared.fault.BuildFault.{BuildFault}
use Rattle.draft_contents.specs.declared.fault.BuildFault.TheVariants.{OutputLimit, NoMemory}
use Rattle.draft_contents.specs.declared.incoming.Joining.TheVariants.{Resource}
use Rattle.split_merge.specs.Canonical.{IsAcceptedAs, IsBuildFault, IsOnlyOf, canonical_bytes, within_limit}
use Rattle.split_merge.specs.Cutting.{IsCutPart}
use Rattle.split_merge.specs.PartSteps.{IsPlaceIfAny, IsWholePart, left_at, left_from, messages_in, splitting_at}
use Rattle.split_merge.specs.Places.{IsPlace, IsPlaceOf, alone_at, place_index, profiles_of_all}
use Rattle.split_merge.specs.Splits.{Splitting, after_next, bytes_if_left, next_of, next_part, some_ok, splitting}
use Rattle.split_merge.specs.declared.cutting.CutPart.{CutPart}
use Rattle.split_merge.specs.declared.cutting.SplitInput.{SplitInput}
use Rattle.split_merge.specs.declared.places.Place.{Place}
use Rattle.split_merge.proofs.AllProfiles.{all, all_len, place_within}
use Rattle.split_merge.proofs.Bytes.{only_answer}
use Rattle.split_merge.proofs.Growth.{first_alone, left_len}

-- where some profile is left, the bytes are asked for
bytes_some : (l : List FlatProfile) (bytes : List ℕ) → 0 < length l → bytes_if_left l bytes ≡ some_ok (within_limit bytes)
bytes_some [] bytes h = absurd (omega arith)
bytes_some (e ∷ l) bytes h = refl

-- they are given where they are few
few_bytes : (bytes : List ℕ) → length bytes ≤ message_limit → within_limit bytes ≡ Ok bytes
few_bytes bytes few =
    ap (λ (t : Bool). let r : Result (List ℕ) BuildFault = cond t (Err (OutputLimit (length bytes))) (Ok bytes) in r) (le-ltb message_limit (length bytes) few)

-- and their number is told where they are many
many_bytes : (bytes : List ℕ) → message_limit < length bytes → within_limit bytes ≡ Err (OutputLimit (length bytes))
many_bytes bytes many =
    ap (λ (t : Bool). let r : Result (List ℕ) BuildFault = cond t (Err (OutputLimit (length bytes))) (Ok bytes) in r) (lt-ltb message_limit (length bytes) many)

-- what is left after some of what is left
drop_more_of : {X : Type 0} (i n : ℕ) (xs : List X) → drop n (drop i xs) ≡ drop (i + n) xs
drop_more_of zero n xs = let e : n ≡ 0 + n = omega arith in ap (λ k. drop k xs) e
drop_more_of (suc i) n [] = drop_all n [] (omega arith) ∙ sym (drop_all (suc i + n) [] (omega arith))
drop_more_of (suc i) n (x ∷ xs) = let e : suc (i + n) ≡ suc i + n = omega arith in drop_more_of i n xs ∙ ap (λ k. drop k (x ∷ xs)) e

-- two profiles have no fewer bytes than the first of them
second_of : (l : List FlatProfile) → take 1 l ++ drop 1 (take 2 l) ≡ take 2 l
second_of [] = refl
second_of (e ∷ []) = refl
second_of (e ∷ f ∷ l) = refl

two_longer : (l : List FlatProfile) → size_of (take 1 l) ≤ size_of (take 2 l)
two_longer l = subst (λ x. size_of (take 1 l) ≤ size_of x) (second_of l) (prefix-shorter (take 1 l) (drop 1 (take 2 l)))

module _ (ms : List Message) (first : Place) (p : IsPlace ms first) where
  abbrev rest : List FlatProfile
  rest = left_from ms (place_index ms first)

  some_left : 0 < length rest
  some_left = omega (arith, left_len ms (place_index ms first), place_within ms first p)

  -- ---- refused

  module _ (limit : ℕ) (small : limit ≤ message_limit) where
    -- a profile that is too much alone is the part
    alone_first : message_limit < size_of (take 1 rest) → first_length limit rest ≡ 1
    alone_first many = longest-is limit rest 1 (omega arith) (omega (arith, some_left)) (inl refl) (inr (omega (arith, many, small, two_longer rest)))

    pub refused_first : (c : Contents) (fault : BuildFault) → StandsFor c [] → IsFaultOfPlaced message_limit Resource c (alone_at ms first) fault
        → IsBuildFault (next_of (splitting limit rest)) fault
    unfolding canonical_bytes
    refused_first c NoMemory empty f = tt
    refused_first c (OutputLimit size) empty f =
        let r = f [] empty in
        let e : group (take 1 rest) ≡ meaning (alone_at ms first) = first_alone ms first p in
        let told : size ≡ size_of (take 1 rest) = r.0 ∙ ap (λ x. length (meaning_text resource_profiles x)) (sym e) in
        let many : message_limit < size_of (take 1 rest) = subst (λ n. message_limit < n) told r.1 in
        bytes_some rest (canonical_bytes (next_part (splitting limit rest))) some_left
        ∙ ap (λ n. some_ok (within_limit (canonical_bytes (group (take n rest))))) (alone_first many)
        ∙ ap some_ok (many_bytes (canonical_bytes (group (take 1 rest))) many)
        ∙ ap (λ n. let q : Result (Option (List ℕ)) BuildFault = Err (OutputLimit n) in q) (sym told)

-- ---- cut off

-- what is left after a part
left_after : (ms : List Message) (before n : ℕ) (next : Option Place) → IsPlaceOf ms (before + n) next → left_at ms next ≡ drop n (left_from ms before)
left_after ms before n (Some place) q = ap (left_from ms) q.1 ∙ sym (drop_more_of before n (all ms))
left_after ms before n None q =
    let e : profiles_of_all ms ≡ before + n = q in sym (drop_more_of before n (all ms) ∙ drop_all (before + n) (all ms) (omega (arith, all_len ms, e)))

pub place_if_any : (ms : List Message) (n : ℕ) (next : Option Place) → IsPlaceOf ms n next → IsPlaceIfAny ms next
place_if_any ms n (Some place) q = q.0
place_if_any ms n None q = tt

pub cut_of : (input : SplitInput) (first : Place) (next : Option Place) (d : Contents) (b : List ℕ) → IsPlace (messages_in input) first
    → IsWholePart (messages_in input) input.limit (place_index (messages_in input) first) next d → AreBytesOf d b → AreAcceptedFor d b
    → IsCutPart input first (record { bytes = b; next = next })
unfolding canonical_bytes
cut_of input first next d b p whole text accepted =
    let ms : List Message = messages_in input in
    let before : ℕ = place_index ms first in
    let rest : List FlatProfile = left_from ms before in
    let n : ℕ = first_length input.limit rest in
    let part : Meaning = group (take n rest) in
    let s : StandsFor d part = whole.stands in
    let w = s.written in
    let e : b ≡ meaning_text resource_profiles part = text part s in
    record {
      bytes =
          bytes_some rest (canonical_bytes part) (some_left ms first p) ∙ ap some_ok (few_bytes (canonical_bytes part) w.small)
          ∙ ap (λ (x : List ℕ). let r : Result (Option (List ℕ)) BuildFault = Ok (Some x) in r) (sym e);
      accepted = accepted part s;
      unique = only_answer part b w e;
      next = ap (splitting input.limit) (left_after ms before n next whole.follows);
      place = place_if_any ms (before + n) next whole.follows;
    }

-- at the beginning nothing is cut off
pub left_first : (ms : List Message) (next : Option Place) → IsPlaceOf ms 0 next → left_at ms next ≡ all ms
left_first ms (Some place) q = ap (left_from ms) q.1
left_first ms None q = let e : profiles_of_all ms ≡ 0 = q in sym (drop_all 0 (all ms) (omega (arith, all_len ms, e)))

-- what an answer says of what was there, in other words
pub unique_next : (s t : Splitting) (q r : Result (Option (List ℕ)) BuildFault) → s ≡ t → r ≡ q → IfOk q (λ part. IfSome part (λ b. IsOnlyOf b (next_part s)))
    → IfOk r (λ part. IfSome part (λ b. IsOnlyOf b (next_part t)))
unique_next s t q r e f u =
    subst (λ (x : Splitting). IfOk r (λ part. IfSome part (λ b. IsOnlyOf b (next_part x)))) e
    (subst (λ (x : Result (Option (List ℕ)) BuildFault). IfOk x (λ part. IfSome part (λ b. IsOnlyOf b (next_part s)))) (sym f) u)
