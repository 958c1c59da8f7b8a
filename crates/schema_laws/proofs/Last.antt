-- The last payload that fits: the fold over the payloads against the relation.
use Rattle.std.proofs.Common.{◌≡◌, List, [], ◌∷◌, ◌++◌, refl, sym, ap, ◌∙◌, inl, inr}
use Rattle.std.specs.Prelude.{Option, Some, None}
use Rattle.schema.specs.Field.{Payload}
use Rattle.schema.specs.Each.{Each}
use Rattle.schema.specs.RowValue.{IsLast}
use Rattle.schema_laws.proofs.Folds.{or_else, last_said}

-- where none fits, it is what was there before
last_none : {A : Type 0} (said : Payload → Option A) (ps : List Payload) (u : A) → Each (λ p. said p ≡ None) ps → last_said said ps u ≡ u
last_none said [] u h = refl
last_none {A} said (p ∷ ps) u h = ap (λ (o : Option A). last_said said ps (or_else o u)) h.0 ∙ last_none said ps u h.1

-- where one fits and none after it, it is what that one says
last_at : {A : Type 0} (said : Payload → Option A) (before : List Payload) (last : Payload) (after : List Payload) (u v : A)
    → said last ≡ Some v → Each (λ p. said p ≡ None) after → last_said said (before ++ last ∷ after) u ≡ v
last_at {A} said [] last after u v e none = ap (λ (o : Option A). last_said said after (or_else o u)) e ∙ last_none said after v none
last_at said (p ∷ before) last after u v e none = last_at said before last after (or_else (said p) u) v e none

-- the last that fits is what the fold gives
pub last_is : {A : Type 0} (said : Payload → Option A) (ps : List Payload) (u v : A) → IsLast said ps u v → v ≡ last_said said ps u
last_is said ps u v (inl h) = h.1 ∙ sym (last_none said ps u h.0)
last_is said ps u v (inr h) = sym (ap (λ (l : List Payload). last_said said l u) h.3 ∙ last_at said h.0 h.1 h.2 u v h.4 h.5)

-- the same with a payload in front
further : {A : Type 0} (said : Payload → Option A) (p : Payload) (ps : List Payload) (o : Option A) (u v : A) → said p ≡ o → IsLast said ps (or_else o u) v → IsLast said (p ∷ ps) u v
further said p ps None u v q (inl h) = inl ((q, h.0), h.1)
further {A} said p ps (Some x) u v q (inl h) = inr ([], p, ps, refl, q ∙ ap (λ (y : A). let o : Option A = Some y in o) (sym h.1), h.0)
further said p ps o u v q (inr h) = inr (p ∷ h.0, h.1, h.2, ap (λ (l : List Payload). p ∷ l) h.3, h.4, h.5)

-- and what the fold gives is the last that fits
pub is_last : {A : Type 0} (said : Payload → Option A) (ps : List Payload) (u v : A) → v ≡ last_said said ps u → IsLast said ps u v
is_last said [] u v e = inl (tt, e)
is_last said (p ∷ ps) u v e = further said p ps (said p) u v refl (is_last said ps (or_else (said p) u) v e)
