-- Results, and what comes next where they don't fail.
use Rattle.std.proofs.Common.{◌≡◌, Bool, true, false, cond, Result, Ok, Err, refl, sym, ap, ◌∙◌}
use Rattle.schema.specs.Decoding.{◌>>=◌}

-- two that are right are the same value
pub ok_is : {A E : Type 0} (x y : A) → (let r : Result A E = Ok x in let q : Result A E = Ok y in r ≡ q) → x ≡ y
ok_is x y e = cc

-- and two that fail are the same fault
pub err_is : {A E : Type 0} (x y : E) → (let r : Result A E = Err x in let q : Result A E = Err y in r ≡ q) → x ≡ y
err_is x y e = cc

-- where the whole is right, so are both steps
pub bind_ok : {A B E : Type 0} (r : Result A E) (f : A → Result B E) (y : B) → (r >>= f) ≡ Ok y → (x : A) × (r ≡ Ok x) × (f x ≡ Ok y)
bind_ok (Ok x) f y e = (x, refl, e)
bind_ok (Err d) f y e = absurd cc

-- the same where the second step can't fail
pub map_ok : {A B E : Type 0} (r : Result A E) (h : A → B) (y : B) → (r >>= λ x. Ok (h x)) ≡ Ok y → (x : A) × (r ≡ Ok x) × (h x ≡ y)
map_ok {B} {E} (Ok x) h y e = (x, refl, ok_is {A = B} {E = E} (h x) y e)
map_ok (Err d) h y e = absurd cc

-- there only the first can have failed
pub map_err : {A B E : Type 0} (r : Result A E) (h : A → B) (e : E) → (r >>= λ x. Ok (h x)) ≡ Err e → r ≡ Err e
map_err (Ok x) h e p = absurd cc
map_err {E} (Err d) h e p = let q : d ≡ e = cc in ap (λ (x : E). Err x) q

-- and where it does, the whole does
pub map_at : {A B E : Type 0} (r : Result A E) (h : A → B) (e : E) → r ≡ Err e → (r >>= λ x. Ok (h x)) ≡ Err e
map_at r h e p = ap (λ x. x >>= λ y. Ok (h y)) p

-- a first step that is right where this one is gives the same
pub map_both : {A B E : Type 0} (r q : Result A E) (h : A → B) (y : B) → ((x : A) → r ≡ Ok x → q ≡ Ok x) → (r >>= λ x. Ok (h x)) ≡ Ok y → (q >>= λ x. Ok (h x)) ≡ Ok y
map_both {A} {B} {E} r q h y same e =
    let x = map_ok r h y e in
    ap (λ (z : Result A E). z >>= λ x. Ok (h x)) (same x.0 x.1) ∙ ap (λ (z : B). let t : Result B E = Ok z in t) x.2

-- a second step that does nothing
pub map_same : {A E : Type 0} (r : Result A E) → r ≡ (r >>= λ w. Ok w)
map_same (Ok x) = refl
map_same (Err e) = refl

-- two steps that can't fail are one
pub map_map : {A B C E : Type 0} (r : Result A E) (f : A → B) (g : B → C) → ((r >>= λ x. Ok (f x)) >>= λ y. Ok (g y)) ≡ (r >>= λ x. Ok (g (f x)))
map_map (Ok x) f g = refl
map_map (Err e) f g = refl

-- ---- tests

-- what is right by a test, and else fails
abbrev pub checked : {A E : Type 0} → Bool → A → E → Result A E
checked t x f = cond t (Ok x) (Err f)

pub checked_ok : {A E : Type 0} (t : Bool) (x y : A) (f : E) → checked t x f ≡ Ok y → (t ≡ true) × (x ≡ y)
checked_ok {A} {E} true x y f e = (refl, ok_is {A = A} {E = E} x y e)
checked_ok false x y f e = absurd cc

pub checked_err : {A E : Type 0} (t : Bool) (x : A) (f g : E) → checked t x f ≡ Err g → (t ≡ false) × (g ≡ f)
checked_err true x f g e = absurd cc
checked_err {A} {E} false x f g e = (refl, sym (err_is {A = A} {E = E} f g e))

pub checked_fails : {A E : Type 0} (t : Bool) (x : A) (f g : E) → (t ≡ false) × (g ≡ f) → checked t x f ≡ Err g
checked_fails true x f g w = absurd (let z = w.0 in cc)
checked_fails {A} {E} false x f g w = ap (λ (h : E). let r : Result A E = Err h in r) (sym w.1)

-- what is right does not depend on the fault
pub checked_steady : {A E : Type 0} (t : Bool) (x : A) (f h : E) (w : A) → checked t x f ≡ Ok w → checked t x h ≡ Ok w
checked_steady true x f h w e = e
checked_steady false x f h w e = absurd cc
