-- Places in lists of distinct values, and lists that gain values.
use Rattle.std.proofs.Common.{◌≡◌, suc, ◌<◌, List, [], ◌∷◌, ◌++◌, length, get_or, map, Bool, true, false, cond, refl, sym, ap, ◌∙◌, arith}
use Rattle.std.proofs.lemmas.Bool.{both_ways}
use Rattle.std.proofs.lemmas.List.{append-nil, append_assoc}
use Rattle.schema.specs.Each.{Each}
use Rattle.schema_laws.proofs.Lists.{each_append}
use Rattle.meaning.specs.Tree.{Tree, same}
use Rattle.meaning.specs.Tables.{has, place, with_one, with_new, Distinct}
use Rattle.meaning.proofs.Trees.{same-itself, same-true}

-- what holds of each element, where it follows from what holds
pub each_all : {X : Type 0} (P Q : X → Type 0) → ((x : X) → P x → Q x) → (xs : List X) → Each P xs → Each Q xs
each_all P Q f [] h = tt
each_all P Q f (x ∷ xs) h = (f x h.0, each_all P Q f xs h.1)

-- two maps one after the other
pub map-map : {A B C : Type 0} (f : A → B) (g : B → C) (xs : List A) → map g (map f xs) ≡ map (λ x. g (f x)) xs
map-map f g [] = refl
map-map f g (x ∷ xs) = ap (λ l. g (f x) ∷ l) (map-map f g xs)

-- ---- places

-- a value that a list has is at its place
pub at_place : (ks : List Tree) (t d : Tree) → has ks t ≡ true → get_or ks (place ks t) d ≡ t
at_place [] t d h = cc
at_place (k ∷ ks) t d h = by_test (same k t) refl h (at_place ks t d)
  where
    by_test : (b : Bool) → same k t ≡ b → cond b true (has ks t) ≡ true → (has ks t ≡ true → get_or ks (place ks t) d ≡ t) → get_or (k ∷ ks) (cond b 0 (suc (place ks t))) d ≡ t
    by_test true e h r = same-true k t e
    by_test false e h r = r h

-- its place is in the list
pub place-lt : (ks : List Tree) (t : Tree) → has ks t ≡ true → place ks t < length ks
place-lt [] t h = cc
place-lt (k ∷ ks) t h = by_test (same k t) h (place-lt ks t)
  where
    by_test : (b : Bool) → cond b true (has ks t) ≡ true → (has ks t ≡ true → place ks t < length ks) → cond b 0 (suc (place ks t)) < suc (length ks)
    by_test true h r = omega arith
    by_test false h r = let l : place ks t < length ks = r h in omega arith

-- what comes after a list changes nothing in it
pub has-append : (ks ls : List Tree) (t : Tree) → has ks t ≡ true → has (ks ++ ls) t ≡ true
has-append [] ls t h = cc
has-append (k ∷ ks) ls t h = by_test (same k t) h (has-append ks ls t)
  where
    by_test : (b : Bool) → cond b true (has ks t) ≡ true → (has ks t ≡ true → has (ks ++ ls) t ≡ true) → cond b true (has (ks ++ ls) t) ≡ true
    by_test true h r = refl
    by_test false h r = r h

pub place-append : (ks ls : List Tree) (t : Tree) → has ks t ≡ true → place (ks ++ ls) t ≡ place ks t
place-append [] ls t h = cc
place-append (k ∷ ks) ls t h = by_test (same k t) h (place-append ks ls t)
  where
    by_test : (b : Bool) → cond b true (has ks t) ≡ true → (has ks t ≡ true → place (ks ++ ls) t ≡ place ks t) → cond b 0 (suc (place (ks ++ ls) t)) ≡ cond b 0 (suc (place ks t))
    by_test true h r = refl
    by_test false h r = ap suc (r h)

-- a list has its last value
has-push : (ks : List Tree) (t : Tree) → has (ks ++ t ∷ []) t ≡ true
has-push [] t = rw (same-itself t)
has-push (k ∷ ks) t = by_test (same k t) (has-push ks t)
  where
    by_test : (b : Bool) → has (ks ++ t ∷ []) t ≡ true → cond b true (has (ks ++ t ∷ []) t) ≡ true
    by_test true r = refl
    by_test false r = r

-- ---- one more value, and more of them

-- a list keeps what it has
pub has-with_one : (ks : List Tree) (t x : Tree) → has ks x ≡ true → has (with_one ks t) x ≡ true
has-with_one ks t x h = by_test (has ks t)
  where
    by_test : (b : Bool) → has (cond b ks (ks ++ t ∷ [])) x ≡ true
    by_test true = h
    by_test false = has-append ks (t ∷ []) x h

-- and has what it gains
pub has-one : (ks : List Tree) (t : Tree) → has (with_one ks t) t ≡ true
has-one ks t = by_test (has ks t) refl
  where
    by_test : (b : Bool) → has ks t ≡ b → has (cond b ks (ks ++ t ∷ [])) t ≡ true
    by_test true e = e
    by_test false e = has-push ks t

pub has-with_new : (ts ks : List Tree) (x : Tree) → has ks x ≡ true → has (with_new ks ts) x ≡ true
has-with_new [] ks x h = h
has-with_new (t ∷ ts) ks x h = has-with_new ts (with_one ks t) x (has-with_one ks t x h)

-- each value is in the list that it was put into
pub all_in : (ts ks : List Tree) → Each (λ t. has (with_new ks ts) t ≡ true) ts
all_in [] ks = tt
all_in (t ∷ ts) ks = (has-with_new ts (with_one ks t) t (has-one ks t), all_in ts (with_one ks t))

-- values that are put in one after the other
pub with_new-append : (ts us ks : List Tree) → with_new ks (ts ++ us) ≡ with_new (with_new ks ts) us
with_new-append [] us ks = refl
with_new-append (t ∷ ts) us ks = with_new-append ts us (with_one ks t)

-- a list that has all of them gains nothing
pub with_new-all : (ts ks : List Tree) → Each (λ t. has ks t ≡ true) ts → with_new ks ts ≡ ks
with_new-all [] ks h = refl
with_new-all (t ∷ ts) ks h = rw h.0 (with_new-all ts ks h.1)

-- a list that has gained values begins with the old one
pub grown-begins : (ts ks : List Tree) → (ls : List Tree) × (with_new ks ts ≡ ks ++ ls)
grown-begins [] ks = ([], sym (append-nil ks))
grown-begins (t ∷ ts) ks = by_test (has ks t) (grown-begins ts ks) (grown-begins ts (ks ++ t ∷ []))
  where
    by_test : (b : Bool) → (ls : List Tree) × (with_new ks ts ≡ ks ++ ls) → (ls : List Tree) × (with_new (ks ++ t ∷ []) ts ≡ (ks ++ t ∷ []) ++ ls)
        → (ls : List Tree) × (with_new (cond b ks (ks ++ t ∷ [])) ts ≡ ks ++ ls)
    by_test true g h = g
    by_test false g h = (t ∷ h.0, h.1 ∙ append_assoc ks (t ∷ []) h.0)

-- its values keep their places
pub place-with_new : (ts ks : List Tree) (t : Tree) → has ks t ≡ true → place (with_new ks ts) t ≡ place ks t
place-with_new ts ks t h = let g = grown-begins ts ks in ap (λ l. place l t) g.1 ∙ place-append ks g.0 t h

-- what holds of the old and of the new values holds of all
pub each_with_new : (P : Tree → Type 0) (ts ks : List Tree) → Each P ks → Each P ts → Each P (with_new ks ts)
each_with_new P [] ks h l = h
each_with_new P (t ∷ ts) ks h l = each_with_new P ts (with_one ks t) (by_test (has ks t)) l.1
  where
    by_test : (b : Bool) → Each P (cond b ks (ks ++ t ∷ []))
    by_test true = h
    by_test false = each_append P ks (t ∷ []) h (l.0, tt)

-- ---- distinct values

-- the test of equality goes both ways
same-sym : (t u : Tree) → same t u ≡ false → same u t ≡ false
same-sym t u h = by_test (same u t) refl
  where
    by_test : (b : Bool) → same u t ≡ b → b ≡ false
    by_test false e = refl
    by_test true e =
        let i : u ≡ t = same-true u t e in
        let k : same t u ≡ true = rw i (same-itself t) in cc

-- a list has no value that neither it had nor came after it
has-neither : (ks : List Tree) (t x : Tree) → has ks x ≡ false → same t x ≡ false → has (ks ++ t ∷ []) x ≡ false
has-neither [] t x h e = rw e refl
has-neither (k ∷ ks) t x h e = by_test (same k x) h (has-neither ks t x)
  where
    by_test : (b : Bool) → cond b true (has ks x) ≡ false → (has ks x ≡ false → same t x ≡ false → has (ks ++ t ∷ []) x ≡ false) → cond b true (has (ks ++ t ∷ []) x) ≡ false
    by_test true h r = h
    by_test false h r = r h e

-- a new value after distinct ones
distinct-push : (ks : List Tree) (t : Tree) → Distinct ks → has ks t ≡ false → Distinct (ks ++ t ∷ [])
distinct-push [] t d h = (refl, tt)
distinct-push (k ∷ ks) t d h = by_test (same k t) refl h (distinct-push ks t d.1)
  where
    by_test : (b : Bool) → same k t ≡ b → cond b true (has ks t) ≡ false → (has ks t ≡ false → Distinct (ks ++ t ∷ [])) → Distinct ((k ∷ ks) ++ t ∷ [])
    by_test true e h r = absurd (both_ways true h refl)
    by_test false e h r = (has-neither ks t k d.0 (same-sym k t e), r h)

-- so a list stays distinct with one more value
distinct-with_one : (ks : List Tree) (t : Tree) → Distinct ks → Distinct (with_one ks t)
distinct-with_one ks t d = by_test (has ks t) refl
  where
    by_test : (b : Bool) → has ks t ≡ b → Distinct (cond b ks (ks ++ t ∷ []))
    by_test true e = d
    by_test false e = distinct-push ks t d e

-- and with more of them
pub distinct-with_new : (ts ks : List Tree) → Distinct ks → Distinct (with_new ks ts)
distinct-with_new [] ks d = d
distinct-with_new (t ∷ ts) ks d = distinct-with_new ts (with_one ks t) (distinct-with_one ks t d)

-- ---- a function that can be undone

-- it keeps which values are the same
same-map : (f g : Tree → Tree) (a x : Tree) → g (f a) ≡ a → g (f x) ≡ x → same (f a) (f x) ≡ same a x
same-map f g a x p q = by_tests (same (f a) (f x)) (same a x) refl refl
  where
    by_tests : (b c : Bool) → same (f a) (f x) ≡ b → same a x ≡ c → b ≡ c
    by_tests true true e h = refl
    by_tests false false e h = refl
    by_tests true false e h =
        let i : f a ≡ f x = same-true (f a) (f x) e in
        let j : a ≡ x = sym p ∙ ap g i ∙ q in
        let k : same a x ≡ true = rw j (same-itself x) in cc
    by_tests false true e h =
        let j : a ≡ x = same-true a x h in
        let k : same (f a) (f x) ≡ true = rw j (same-itself (f x)) in cc

-- so it keeps their places
pub place-map : (f g : Tree → Tree) (ks : List Tree) (x : Tree) → Each (λ a. g (f a) ≡ a) ks → g (f x) ≡ x → place (map f ks) (f x) ≡ place ks x
place-map f g [] x h q = refl
place-map f g (k ∷ ks) x h q =
    let e : same (f k) (f x) ≡ same k x = same-map f g k x h.0 q in
    let r : place (map f ks) (f x) ≡ place ks x = place-map f g ks x h.1 q in
    rw (e, r)

-- and which values a list has
has-map : (f g : Tree → Tree) (ks : List Tree) (x : Tree) → Each (λ a. g (f a) ≡ a) ks → g (f x) ≡ x → has (map f ks) (f x) ≡ has ks x
has-map f g [] x h q = refl
has-map f g (k ∷ ks) x h q =
    let e : same (f k) (f x) ≡ same k x = same-map f g k x h.0 q in
    let r : has (map f ks) (f x) ≡ has ks x = has-map f g ks x h.1 q in
    rw (e, r)

-- and distinct values have distinct images
pub distinct-map : (f g : Tree → Tree) (ks : List Tree) → Each (λ a. g (f a) ≡ a) ks → Distinct ks → Distinct (map f ks)
distinct-map f g [] h d = tt
distinct-map f g (k ∷ ks) h d = (has-map f g ks k h.1 h.0 ∙ d.0, distinct-map f g ks h.1 d.1)

-- the image of a list with one more value
map-push : (f : Tree → Tree) (ks : List Tree) (x : Tree) → map f (ks ++ x ∷ []) ≡ map f ks ++ f x ∷ []
map-push f [] x = refl
map-push f (k ∷ ks) x = ap (λ l. f k ∷ l) (map-push f ks x)

-- and a list that gains a value gains its image
pub map-with_one : (f g : Tree → Tree) (ks : List Tree) (x : Tree) → Each (λ a. g (f a) ≡ a) ks → g (f x) ≡ x → map f (with_one ks x) ≡ with_one (map f ks) (f x)
map-with_one f g ks x h q = rw (has-map f g ks x h q) (by_test (has ks x))
  where
    by_test : (b : Bool) → map f (cond b ks (ks ++ x ∷ [])) ≡ cond b (map f ks) (map f ks ++ f x ∷ [])
    by_test true = refl
    by_test false = map-push f ks x

-- functions that are the same at each element
pub map-same : {X Y : Type 0} (f g : X → Y) (xs : List X) → Each (λ x. f x ≡ g x) xs → map f xs ≡ map g xs
map-same f g [] h = refl
map-same f g (x ∷ xs) h = let e : f x ≡ g x = h.0 in let r : map f xs ≡ map g xs = map-same f g xs h.1 in cc

-- a map that is undone
pub map-back : (f g : Tree → Tree) (xs : List Tree) → Each (λ x. g (f x) ≡ x) xs → map g (map f xs) ≡ xs
map-back f g [] h = refl
map-back f g (x ∷ xs) h = let e : g (f x) ≡ x = h.0 in let r : map g (map f xs) ≡ xs = map-back f g xs h.1 in cc
