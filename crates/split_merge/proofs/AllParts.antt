-- Laws of the parts that messages are cut into.
use Rattle.std.proofs.Common.{◌≡◌, ℕ, zero, suc, ◌<◌, ◌≤◌, ◌⊎◌, inl, inr, List, [], ◌∷◌, length, map, drop, refl, sym, ap, subst, ◌∙◌, arith}
use Rattle.std.specs.List.{flat_map}
use Rattle.std.proofs.lemmas.List.{length-drop}
use Rattle.schema.specs.Each.{Each}
use Rattle.operations.specs.Cuts.{cut, first_length, flat_parts}
use Rattle.operations.specs.Cuts as cuts
use Rattle.operations.specs.Flat.{FlatProfile, bare, flat, group}
use Rattle.operations.proofs.Longest.{cut-fits, first-between, parts-next}
use Rattle.operations.proofs.PartProfiles.{each-flat, parts-flat}
use Rattle.otlp_msg.specs.Message.{Message}
use Rattle.draft_contents.specs.Meanings.{Meaning, meaning}
use Rattle.split_merge.specs.Splits.{FitsOrIsOne, GivesParts, after_next, next_part, split_parts, splitting, splitting_of}
use Rattle.split_merge.proofs.Joined.{flat_map-map}

-- the profiles are kept
pub kept : (limit : ℕ) (messages : List Message) → map bare (flat (split_parts limit messages)) ≡ flat_map (λ m. map bare (flat (meaning m ∷ []))) messages
kept limit messages =
    parts-flat limit (map meaning messages) ∙ each-flat (map meaning messages) ∙ flat_map-map (λ ms. map bare (flat (ms ∷ []))) meaning messages

-- ---- sizes

-- one profile alone is grouped to one
one_profile : (limit : ℕ) (l : List FlatProfile) → (cuts.size_of l ≤ limit) ⊎ (length l ≡ 1) → FitsOrIsOne limit (group l)
one_profile limit l (inl few) = inl few
one_profile limit [] (inr e) = absurd (omega arith)
one_profile limit (e ∷ []) (inr i) = inr refl
one_profile limit (e ∷ f ∷ l) (inr i) = absurd (omega arith)

all_fit : (limit : ℕ) (ls : List (List FlatProfile)) → Each (λ l. (cuts.size_of l ≤ limit) ⊎ (length l ≡ 1)) ls → Each (FitsOrIsOne limit) (map group ls)
all_fit limit [] h = tt
all_fit limit (l ∷ ls) h = (one_profile limit l h.0, all_fit limit ls h.1)

pub parts_fit : (limit : ℕ) (messages : List Message) → Each (FitsOrIsOne limit) (split_parts limit messages)
parts_fit limit messages =
    let l : List FlatProfile = flat (map meaning messages) in
    all_fit limit (cut (length l) limit l) (cut-fits (length l) limit l)

-- ---- one by one

gives : (most limit : ℕ) (l : List FlatProfile) → length l ≤ most → GivesParts (splitting limit l) (flat_parts limit l)
gives most limit [] h = refl
gives zero limit (e ∷ l) h = absurd (omega arith)
gives (suc most) limit (e ∷ l) h =
    let some : 0 < length (e ∷ l) = omega arith in
    let n : ℕ = first_length limit (e ∷ l) in
    let fewer : length (drop n (e ∷ l)) ≤ most = omega (arith, length-drop n (e ∷ l), (first-between limit (e ∷ l) some).0) in
    subst (GivesParts (splitting limit (e ∷ l))) (sym (parts-next limit (e ∷ l) some)) (some, refl, gives most limit (drop n (e ∷ l)) fewer)

pub gives_parts : (limit : ℕ) (messages : List Message) → GivesParts (splitting_of limit messages) (split_parts limit messages)
gives_parts limit messages = let l : List FlatProfile = flat (map meaning messages) in gives (length l) limit l (omega arith)

only : (given : List Meaning) (limit : ℕ) (l : List FlatProfile) → GivesParts (splitting limit l) given → given ≡ flat_parts limit l
only [] limit l e = ap (flat_parts limit) (sym e)
only (p ∷ ps) limit l g =
    ap (λ x. x ∷ ps) g.1
    ∙ ap (λ xs. next_part (splitting limit l) ∷ xs) (only ps limit (drop (first_length limit l) l) g.2)
    ∙ sym (parts-next limit l g.0)

pub only_parts : (limit : ℕ) (messages : List Message) (given : List Meaning) → GivesParts (splitting_of limit messages) given → given ≡ split_parts limit messages
only_parts limit messages given g = only given limit (flat (map meaning messages)) g
