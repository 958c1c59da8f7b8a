-- The memo where it begins, and after a note.
use Rattle.std.proofs.Common.{◌≡◌, ℕ, zero, suc, List, [], ◌∷◌, get_or, set, map, replicate, Some, None, refl, sym, ap, ◌∙◌}
use Rattle.std.specs.Prelude.{slice_get}
use Rattle.std.proofs.lemmas.Option.{none-some, same_Some}
use Rattle.renumber.specs.Walk.{unmet_in}

-- a list in a list of lists that changes, seen through a view
pub set_seen : {X A : Type 0} (xs : List X) (p : ℕ) (x y : X) (view : X → List A) (f : List A → List A) → slice_get xs p ≡ Some x → view y ≡ f (view x)
    → map view (set xs p y) ≡ set (map view xs) p (f (get_or (map view xs) p []))
set_seen [] p x y view f e h = absurd (none-some x e)
set_seen (z ∷ xs) zero x y view f e h = ap (λ l. l ∷ map view xs) (h ∙ ap (λ w. f (view w)) (sym (same_Some z x e)))
set_seen (z ∷ xs) (suc p) x y view f e h = ap (λ l. view z ∷ l) (set_seen xs p x y view f e h)

-- where nothing was met, each entry is unmet
pub unmet_replicate : (n : ℕ) → unmet_in (replicate n None) ≡ n
unmet_replicate zero = refl
unmet_replicate (suc n) = ap suc (unmet_replicate n)
