-- Facts of one answer.
use Rattle.std.proofs.Common.{◌≡◌, Result, Ok, Err, IfErr, OnOk, OnErr, ◌∙◌, sym, subst}

-- what follows from two facts of an answer that is Ok
pub on_ok : {T E A B C : Type 0} (r : Result T E) → (A → B → C) → OnOk r A → OnOk r B → OnOk r C
on_ok (Ok x) f a b = f a b
on_ok (Err e) f a b = tt

-- and from one of an answer that is Err
pub if_err : {T E : Type 0} {P Q : E → Type 0} (r : Result T E) → ((e : E) → P e → Q e) → IfErr r P → IfErr r Q
if_err (Ok x) f p = tt
if_err (Err e) f p = f e p

-- what holds of one value holds of another one that is the same after Ok, by an answer that is the same
pub kept_ok : {T E X : Type 0} (r done : Result T E) (P : X → Type 0) (x y : X) → r ≡ done → OnOk r (y ≡ x) → OnOk done (P x) → OnOk r (P y)
kept_ok (Ok v) done P x y e k h = subst P (sym k) (subst (λ q. OnOk q (P x)) (sym e) h)
kept_ok (Err v) done P x y e k h = tt

-- what is one value after Err is another one that is the same
pub kept_err : {T E X : Type 0} (r : Result T E) (x y z : X) → OnErr r (y ≡ x) → x ≡ z → OnErr r (y ≡ z)
kept_err (Ok v) x y z k e = tt
kept_err (Err v) x y z k e = k ∙ e
