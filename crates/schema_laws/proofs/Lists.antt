-- Properties of each element of a list.
use Rattle.std.proofs.Common.{ℕ, zero, suc, ◌<◌, List, [], ◌∷◌, ◌++◌, get_or, arith}
use Rattle.schema.specs.Each.{Each}

-- of each element of both lists
pub each_append : {A : Type 0} (P : A → Type 0) (xs ys : List A) → Each P xs → Each P ys → Each P (xs ++ ys)
each_append P [] ys a b = b
each_append P (x ∷ xs) ys a b = (a.0, each_append P xs ys a.1 b)

-- of each element of the first
pub each_left : {A : Type 0} (P : A → Type 0) (xs ys : List A) → Each P (xs ++ ys) → Each P xs
each_left P [] ys h = tt
each_left P (x ∷ xs) ys h = (h.0, each_left P xs ys h.1)

-- of each element of the second
pub each_right : {A : Type 0} (P : A → Type 0) (xs ys : List A) → Each P (xs ++ ys) → Each P ys
each_right P [] ys h = h
each_right P (x ∷ xs) ys h = each_right P xs ys h.1

-- each element is a byte
abbrev pub Octets : List ℕ → Type 0
Octets bytes = Each (λ b. b < 256) bytes

-- an element at an index is a byte
pub octet : (bytes : List ℕ) → Octets bytes → (i : ℕ) → get_or bytes i 0 < 256
octet [] h zero = omega arith
octet [] h (suc i) = omega arith
octet (b ∷ bytes) h zero = h.0
octet (b ∷ bytes) h (suc i) = octet bytes h.1 i
