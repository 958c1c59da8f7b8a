-- Lines of the elements of a list, put one after the other.
use Rattle.std.proofs.Common.{◌≡◌, ◌+◌, ◌<◌, ◌≤◌, ℕ, suc, List, [], ◌∷◌, ◌++◌, length, map, take, get_or, refl, sym, ap, ◌∙◌, arith, add-one, append_assoc}
use Rattle.std.specs.List.{flat_map}
use Rattle.std.proofs.Math.Seq.{take-suc}
use Rattle.std.proofs.lemmas.Grind.{flat_map-append}
use Rattle.std.proofs.lemmas.List.{take_all, append-nil, length-take-le}
use Rattle.shown.specs.TextLine.{TextLine, line_text, lines_text, numbered}
use Rattle.line_text.specs.Putting.{ArePuts}
use Rattle.line_text.proofs.Following.{put_as, put_all_of}

-- a line for each element
lines_mapped : {A B C : Type 0} (f : C → TextLine) (g : B → C) (h : A → B) (xs : List A)
    → flat_map (λ x. line_text (f (g (h x)))) xs ≡ lines_text (map f (map g (map h xs)))
lines_mapped f g h [] = refl
lines_mapped f g h (x ∷ xs) = ap (λ (l : List ℕ). line_text (f (g (h x))) ++ l) (lines_mapped f g h xs)

-- the lines of all elements
pub put_lines_of : {S A B C : Type 0} {a b : S} (puts : S → List ℕ → S → Type 0) (f : C → TextLine) (g : B → C) (h : A → B) (xs : List A) (i : ℕ)
    → length xs ≤ i → puts a (flat_map (λ x. line_text (f (g (h x)))) (take i xs)) b → puts a (lines_text (map f (map g (map h xs)))) b
put_lines_of {S} {A} {B} {C} {a} {b} puts f g h xs i above p =
    put_as puts a b _ _ (lines_mapped f g h xs) (put_all_of puts (λ x. line_text (f (g (h x)))) xs i above p)

-- ---- numbered lines

-- the text of the first elements, each with its position
abbrev pub numbered_text : {A C : Type 0} → (ℕ → C → List TextLine) → (A → C) → ℕ → List A → List ℕ
numbered_text lines g n [] = []
numbered_text lines g n (x ∷ xs) = lines_text (lines n (g x)) ++ numbered_text lines g (suc n) xs

one_more : {A C : Type 0} (lines : ℕ → C → List TextLine) (g : A → C) (n : ℕ) (xs : List A) (x : A)
    → numbered_text lines g n (xs ++ x ∷ []) ≡ numbered_text lines g n xs ++ lines_text (lines (n + length xs) (g x))
one_more lines g n [] x = append-nil (lines_text (lines n (g x))) ∙ ap (λ (k : ℕ). lines_text (lines k (g x))) {x = n} {y = n + 0} (omega arith)
one_more lines g n (y ∷ ys) x =
    ap (λ (l : List ℕ). lines_text (lines n (g y)) ++ l)
    (one_more lines g (suc n) ys x ∙ ap (λ (k : ℕ). numbered_text lines g (suc n) ys ++ lines_text (lines k (g x))) {x = suc n + length ys} {y = n + length (y ∷ ys)} (omega arith))
    ∙ sym (append_assoc (lines_text (lines n (g y))) (numbered_text lines g (suc n) ys) (lines_text (lines (n + length (y ∷ ys)) (g x))))

-- the lines of one more element, which is the one at this index
pub put_next_numbered : {S A C : Type 0} {a b c : S} (puts : S → List ℕ → S → Type 0) → ArePuts puts → (lines : ℕ → C → List TextLine) (g : A → C) (xs : List A) (i : ℕ) (x d : A)
    → i < length xs → x ≡ get_or xs i d → puts a (numbered_text lines g 0 (take i xs)) b → puts b (lines_text (lines i (g x))) c
    → puts a (numbered_text lines g 0 (take (i + 1) xs)) c
put_next_numbered {S} {A} {C} {a} {b} {c} puts laws lines g xs i x d below is p q =
    put_as puts a c _ _ (sym grown) (laws.both a b c (numbered_text lines g 0 (take i xs)) (lines_text (lines i (g x))) p q)
  where
    grown : numbered_text lines g 0 (take (i + 1) xs) ≡ numbered_text lines g 0 (take i xs) ++ lines_text (lines i (g x))
    grown =
        ap (λ (n : ℕ). numbered_text lines g 0 (take n xs)) (add-one i) ∙ ap (numbered_text lines g 0) (take-suc xs i d below)
        ∙ one_more lines g 0 (take i xs) (get_or xs i d)
        ∙ ap (λ (k : ℕ). numbered_text lines g 0 (take i xs) ++ lines_text (lines k (g (get_or xs i d)))) {x = 0 + length (take i xs)} {y = i} (omega (arith, length-take-le i xs (omega (arith, below))))
        ∙ ap (λ (z : A). numbered_text lines g 0 (take i xs) ++ lines_text (lines i (g z))) (sym is)

lines_numbered : {A B C : Type 0} (lines : ℕ → C → List TextLine) (g : B → C) (h : A → B) (n : ℕ) (xs : List A)
    → numbered_text lines (λ x. g (h x)) n xs ≡ lines_text (numbered lines n (map g (map h xs)))
lines_numbered lines g h n [] = refl
lines_numbered lines g h n (x ∷ xs) =
    ap (λ (l : List ℕ). lines_text (lines n (g (h x))) ++ l) (lines_numbered lines g h (suc n) xs)
    ∙ sym (flat_map-append line_text (lines n (g (h x))) (numbered lines (suc n) (map g (map h xs))))

-- the numbered lines of all elements
pub put_numbered_of : {S A B C : Type 0} {a b : S} (puts : S → List ℕ → S → Type 0) (lines : ℕ → C → List TextLine) (g : B → C) (h : A → B) (xs : List A) (i : ℕ)
    → length xs ≤ i → puts a (numbered_text lines (λ x. g (h x)) 0 (take i xs)) b → puts a (lines_text (numbered lines 0 (map g (map h xs)))) b
put_numbered_of {S} {A} {B} {C} {a} {b} puts lines g h xs i above p =
    put_as puts a b _ _ (ap (numbered_text lines (λ x. g (h x)) 0) (take_all i xs above) ∙ lines_numbered lines g h 0 xs) p

-- the lines of all elements that are not seen as others
pub put_plain_lines_of : {S A C : Type 0} {a b : S} (puts : S → List ℕ → S → Type 0) (f : C → TextLine) (g : A → C) (xs : List A) (i : ℕ)
    → length xs ≤ i → puts a (flat_map (λ x. line_text (f (g x))) (take i xs)) b → puts a (lines_text (map f (map g xs))) b
put_plain_lines_of {S} {A} {C} {a} {b} puts f g xs i above p =
    put_as puts a b _ _ (plain xs) (put_all_of puts (λ x. line_text (f (g x))) xs i above p)
  where
    plain : (xs : List A) → flat_map (λ x. line_text (f (g x))) xs ≡ lines_text (map f (map g xs))
    plain [] = refl
    plain (x ∷ xs) = ap (λ (l : List ℕ). line_text (f (g x)) ++ l) (plain xs)
