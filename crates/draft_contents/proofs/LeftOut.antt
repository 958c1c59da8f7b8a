-- What a message adds: all but the heads that repeat the last ones.
use Rattle.std.proofs.Common.{◌≡◌, ℕ, ℤ, suc, ◌<◌, ◌≤◌, get_or, ◌-◌, List, [], ◌∷◌, ◌++◌, length, drop, take, map, Option, Bool, true, false, cond, Result, Ok, Err, IfOk, refl, sym, ap, ◌∙◌, arith}
use Rattle.std.proofs.lemmas.List.{take_all}
use Rattle.schema.specs.Messages.{resource}
use Rattle.schema.specs.Moved.{moved}
use Rattle.schema.specs.Shape.{Table}
use Rattle.schema.specs.Spell.{spell}
use Rattle.schema.specs.Texts.{bytes_field}
use Rattle.parts.specs.LastHeads.{LastHeads, is_head, last_heads, repeated_parts, repeated_scope}
use Rattle.parts.specs.Parts.{RecordPart}
use Rattle.parts.specs.Sums.{Sums, sums_from}
use Rattle.prof_rec.specs.declared.resource_profiles.ResourceProfiles.{ResourceProfiles}
use Rattle.prof_rec.specs.declared.scope_profiles.ScopeProfiles.{ScopeProfiles}
use Rattle.prof_rec.specs.Views.{resource_profiles_view, resource_view, scope_profiles_view}
use Rattle.draft_contents.specs.Adding.{added_moved, resources_moved, scopes_moved, unrepeated_parts, unrepeated_scopes}
use Rattle.draft_contents.specs.declared.unrepeated.Added.{Added}
use Rattle.draft_contents.proofs.Rows.{measured_more}

-- ---- heads

-- without scope records none is left out
pub no_scopes : (to : Table → ℤ → ℤ) (last : Option (List ℕ × List ℕ)) (found : List ScopeProfiles) (resources : List ResourceProfiles) → length found < 1
    → scopes_moved to (map scope_profiles_view found) ++ resources_moved to (map resource_profiles_view resources)
    ≡ unrepeated_scopes last (scopes_moved to (map scope_profiles_view found) ++ resources_moved to (map resource_profiles_view resources))
no_scopes to last [] [] l = refl
no_scopes to last [] (x ∷ xs) l = refl
no_scopes to last (y ∷ ys) xs l = absurd (omega arith)

-- the first part is left out where the test is true
left_out : (c b : Bool) (n : ℕ) (p : RecordPart) (ps : List RecordPart) → b ≡ c → b ≡ true → drop (cond c (suc n) 0) (p ∷ ps) ≡ drop n ps
left_out true b n p ps e t = refl
left_out false b n p ps e t = absurd cc

-- a first resource record whose head is the last one
first_repeated : (to : Table → ℤ → ℤ) (l : LastHeads) (first : ResourceProfiles) (found rest : List ResourceProfiles) (b : Bool) → found ≡ first ∷ rest
    → b ≡ is_head l.resource (bytes_field 1 (spell resource (moved to resource (resource_view first.resource)))) (bytes_field 3 first.schema_url) → b ≡ true
    → (a : List RecordPart) → a ≡ unrepeated_scopes l.scope (scopes_moved to (map scope_profiles_view first.scope_profiles) ++ resources_moved to (map resource_profiles_view rest))
    → a ≡ drop (repeated_parts l (resources_moved to (map resource_profiles_view found))) (resources_moved to (map resource_profiles_view found))
first_repeated to l first found rest b f e t a h =
    let ps : List RecordPart = scopes_moved to (map scope_profiles_view first.scope_profiles) ++ resources_moved to (map resource_profiles_view rest) in
    let all : List RecordPart = resources_moved to (map resource_profiles_view (first ∷ rest)) in
    rw f (h ∙ sym (left_out (is_head l.resource (bytes_field 1 (spell resource (moved to resource (resource_view first.resource)))) (bytes_field 3 first.schema_url)) b (repeated_scope l.scope ps) _ ps e t))

-- so what is added after it is what is left of all
pub after_first : {E : Type 0} (to : Table → ℤ → ℤ) (ps new : List RecordPart) (first : ResourceProfiles) (found rest : List ResourceProfiles) (b : Bool) (scopes : List ScopeProfiles) (r : Result Added E)
    → 1 ≤ length found → first ≡ get_or found 0 first → rest ≡ take (length found - 1) (drop 1 found) → scopes ≡ first.scope_profiles → new ≡ ps
    → b ≡ is_head (last_heads ps).resource (bytes_field 1 (spell resource (moved to resource (resource_view first.resource)))) (bytes_field 3 first.schema_url) → b ≡ true
    → IfOk r (λ a. added_moved to a ≡ unrepeated_scopes (last_heads new).scope (scopes_moved to (map scope_profiles_view scopes) ++ resources_moved to (map resource_profiles_view rest)))
    → IfOk r (λ a. added_moved to a ≡ unrepeated_parts ps (resources_moved to (map resource_profiles_view found)))
after_first to ps new first found rest b scopes (Err x) l e f g n h t i = tt
after_first to ps new first found rest b scopes (Ok a) l e f g n h t i =
    first_repeated to (last_heads ps) first found rest b (split found l e ∙ ap (λ x. first ∷ x) (sym (take_all (length found - 1) (drop 1 found) (rest_len found l)) ∙ sym f)) h t (added_moved to a)
    (i ∙ ap (λ x. unrepeated_scopes (last_heads x).scope (scopes_moved to (map scope_profiles_view scopes) ++ resources_moved to (map resource_profiles_view rest))) n
    ∙ ap (λ x. unrepeated_scopes (last_heads ps).scope (scopes_moved to (map scope_profiles_view x) ++ resources_moved to (map resource_profiles_view rest))) g)
  where
    rest_len : (xs : List ResourceProfiles) → 1 ≤ length xs → length (drop 1 xs) ≤ length xs - 1
    rest_len [] l = absurd (omega arith)
    rest_len (x ∷ xs) l = omega arith

    split : (xs : List ResourceProfiles) → 1 ≤ length xs → first ≡ get_or xs 0 first → xs ≡ first ∷ drop 1 xs
    split [] l e = absurd (omega arith)
    split (x ∷ xs) l e = ap (λ y. y ∷ xs) (sym e)

-- ---- sums

-- sums that went over some parts, and over the rest if all goes well
pub sums_then : {E : Type 0} (r : Result Sums E) (s before : Sums) (ps qs more : List RecordPart) → more ≡ ps ++ qs → before ≡ sums_from s ps
    → IfOk r (λ x. x ≡ sums_from before qs) → IfOk r (λ x. x ≡ sums_from s more)
sums_then (Ok x) s before ps qs more e f h = measured_more s before x ps qs more e f h
sums_then (Err x) s before ps qs more e f h = tt
