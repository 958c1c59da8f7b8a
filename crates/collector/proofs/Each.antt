-- Files taken one by one, up to the first stop.
use Rattle.std.proofs.Common.{◌≡◌, ℕ, List, [], ◌∷◌, ◌++◌, ◌+◌, ◌<◌, length, take, drop, take-append-drop, refl, sym, ap, ◌∙◌, get_or, Option, Some, None, Result, Ok, Err, IsOk, IfSome, subst}
use Rattle.std.proofs.lemmas.List.{drop_more, take_more}
use Rattle.collector.specs.declared.stop.Stop.{Stop}
use Rattle.collector.specs.declared.stop.Stop.TheVariants.{Refused, Read, Write, NoMemory}
use Rattle.outside.specs.FileMap.{FileMap}
use Rattle.collector.specs.Causes.{IsNextOf, ReadCause}
use Rattle.collector.specs.Messages.{after, each, message_at}

abbrev pub Names : Type 0
Names = List (List ℕ)

-- ---- a value that goes on

-- where a later value is there, the first one was
pub record WentOn {A B : Type 0} (r : Result A Stop) (next : A → Result B Stop) (b : B) : Type 0 where
  pub value : A
  pub is : r ≡ Ok value
  pub later : next value ≡ Ok b

pub went_on : {A B : Type 0} (r : Result A Stop) (next : A → Result B Stop) (b : B) → after r next ≡ Ok b → WentOn r next b
went_on (Ok a) next b e = record { value = a; is = refl; later = e }
went_on (Err stop) next b e = absurd cc

-- two parts: each of the first comes to a value, and then so does each of the others, or one stops
pub each-append : {A B : Type 0} (f : A → Result B Stop) (xs ys : List A) (vs ws : List B) → each f xs ≡ Ok vs → each f ys ≡ Ok ws → each f (xs ++ ys) ≡ Ok (vs ++ ws)
each-append f [] ys vs ws e h = let none : [] ≡ vs = cc in subst (λ l. each f ys ≡ Ok (l ++ ws)) none h
each-append f (x ∷ xs) ys vs ws e h =
    let first : WentOn (f x) (λ a. after (each f xs) (λ l. Ok (a ∷ l))) vs = went_on _ _ _ e in
    let rest : WentOn (each f xs) (λ l. Ok (first.value ∷ l)) vs = went_on _ _ _ first.later in
    let both : each f (xs ++ ys) ≡ Ok (rest.value ++ ws) = each-append f xs ys rest.value ws rest.is h in
    let all : first.value ∷ rest.value ≡ vs = let e' : Ok (first.value ∷ rest.value) ≡ Ok vs = rest.later in cc in
    rw first.is (rw both (ap (λ l. Ok (l ++ ws)) all))

pub each-stops : {A B : Type 0} (f : A → Result B Stop) (xs ys : List A) (vs : List B) (stop : Stop) → each f xs ≡ Ok vs → each f ys ≡ Err stop → each f (xs ++ ys) ≡ Err stop
each-stops f [] ys vs stop e h = h
each-stops f (x ∷ xs) ys vs stop e h =
    let first : WentOn (f x) (λ a. after (each f xs) (λ l. Ok (a ∷ l))) vs = went_on _ _ _ e in
    let rest : WentOn (each f xs) (λ l. Ok (first.value ∷ l)) vs = went_on _ _ _ first.later in
    let ends : each f (xs ++ ys) ≡ Err stop = each-stops f xs ys rest.value stop rest.is h in
    rw first.is (rw ends refl)

-- or one of the first stops
stopped_rest : {A : Type 0} (a : A) (q : Result (List A) Stop) (stop : Stop) → after q (λ l. Ok (a ∷ l)) ≡ Err stop → q ≡ Err stop
stopped_rest a (Ok l) stop e = absurd cc
stopped_rest a (Err s) stop e = let same : s ≡ stop = cc in ap (λ (t : Stop). Err t) same

stops_early : {A : Type 0} (r : Result A Stop) (q q' : Result (List A) Stop) (stop : Stop) → (q ≡ Err stop → q' ≡ Err stop)
    → after r (λ a. after q (λ l. Ok (a ∷ l))) ≡ Err stop → after r (λ a. after q' (λ l. Ok (a ∷ l))) ≡ Err stop
stops_early (Err s) q q' stop also e = e
stops_early (Ok a) q q' stop also e = rw (also (stopped_rest a q stop e)) refl

pub each-early : {A B : Type 0} (f : A → Result B Stop) (xs ys : List A) (stop : Stop) → each f xs ≡ Err stop → each f (xs ++ ys) ≡ Err stop
each-early f [] ys stop e = absurd cc
each-early f (x ∷ xs) ys stop e = stops_early (f x) (each f xs) (each f (xs ++ ys)) stop (each-early f xs ys stop) e

-- ---- no name
none_before : (told : Option FileMap) → IfSome told (λ m. IsOk (each (message_at m) []))
none_before None = tt
none_before (Some m) = refl

-- ---- one name more

-- those up to the one at i, and all with the one at i in their midst
pub up_to : {A : Type 0} (xs : List A) (i : ℕ) (x : A) → i < length xs → x ≡ get_or xs i x → take (i + 1) xs ≡ take i xs ++ x ∷ []
up_to {A = A} xs i x lt is = take_more xs i x lt ∙ ap (λ (y : A). take i xs ++ y ∷ []) (sym is)

pub midst : {A : Type 0} (xs : List A) (i : ℕ) (x : A) → i < length xs → x ≡ get_or xs i x → take i xs ++ (x ∷ drop (i + 1) xs) ≡ xs
midst {A = A} xs i x lt is =
    ap (λ (y : A). take i xs ++ (y ∷ drop (i + 1) xs)) is
    ∙ ap (λ (l : List A). take i xs ++ l) (sym (drop_more xs i x lt))
    ∙ take-append-drop i xs

-- the one at i comes to a value, after those before it
pub each_more : {A B : Type 0} (f : A → Result B Stop) (xs : List A) (i : ℕ) (x : A) (vs : List B) (v : B) → i < length xs → x ≡ get_or xs i x
    → each f (take i xs) ≡ Ok vs → f x ≡ Ok v → each f (take (i + 1) xs) ≡ Ok (vs ++ v ∷ [])
each_more {A = A} f xs i x vs v lt is so_far one =
    let last : each f (x ∷ []) ≡ Ok (v ∷ []) = rw one refl in
    subst (λ (l : List A). each f l ≡ Ok (vs ++ v ∷ [])) (sym (up_to xs i x lt is)) (each-append f (take i xs) (x ∷ []) vs (v ∷ []) so_far last)

-- the one at i stops, after those before it
pub each_stopped : {A B : Type 0} (f : A → Result B Stop) (xs : List A) (i : ℕ) (x : A) (vs : List B) (stop : Stop) → i < length xs → x ≡ get_or xs i x
    → each f (take i xs) ≡ Ok vs → f x ≡ Err stop → each f xs ≡ Err stop
each_stopped {A = A} f xs i x vs stop lt is so_far one =
    let ends : each f (x ∷ drop (i + 1) xs) ≡ Err stop = rw one refl in
    subst (λ (l : List A). each f l ≡ Err stop) (midst xs i x lt is) (each-stops f (take i xs) (x ∷ drop (i + 1) xs) vs stop so_far ends)

-- the file of one name comes after none
pub is_first : (told : Option FileMap) (name : List ℕ) → IsNextOf (name ∷ []) told name
is_first told name = record { before = []; later = []; is = refl; accepted = none_before told }

-- of one name, the next one is that name
pub only_name : (name read : List ℕ) (before later : Names) → name ∷ [] ≡ before ++ read ∷ later → read ≡ name
only_name name read [] later e = cc
only_name name read (x ∷ []) later e = absurd cc
only_name name read (x ∷ y ∷ rest) later e = absurd cc

-- a stop at the reading of the name at i is one at the reading of them all, where those before it are accepted
pub caused_at : (told now : Option FileMap) (failed failed' : List ℕ → Type 0) (names : Names) (i : ℕ) (name : List ℕ) (stop : Stop) → i < length names → name ≡ get_or names i name
    → IfSome told (λ m. IsOk (each (message_at m) (take i names))) → ((n : List ℕ) → failed n → failed' n) → ReadCause (name ∷ []) now failed stop → ReadCause names told failed' stop
caused_at told now failed failed' names i name (Refused refusal) lt is so_far also h = h
caused_at told now failed failed' names i name (Read read) lt is so_far also (next, at) = (
  record {
    before = take i names;
    later = drop (i + 1) names;
    is = sym (midst names i name lt is) ∙ ap (λ (x : List ℕ). take i names ++ (x ∷ drop (i + 1) names)) (sym (only_name name read next.before next.later next.is));
    accepted = so_far;
  },
  also read at,
)
caused_at told now failed failed' names i name (Write written) lt is so_far also h = h
caused_at told now failed failed' names i name NoMemory lt is so_far also h = tt
