-- To put texts with a pen is to put them.
use Rattle.std.specs.Prelude.{◌≡◌, ◌+◌, ℕ, zero, suc, List, [], ◌∷◌, ◌++◌, length, take, drop, Option, Some, None}
use Rattle.std.proofs.Common.{refl, sym, ap, ◌∙◌, subst, arith, append_assoc, length-append, length-drop}
use Rattle.std.proofs.lemmas.List.{append-nil, take-append-le, drop-append-le}
use Rattle.std.proofs.Math.Seq.{take-add}
use Rattle.outside.specs.Causes.{Rose}
use Rattle.outside.specs.Streams.{appended, TookPrefix}
use Rattle.outside.specs.declared.fault.IoFault.{IoFault}
use Rattle.outside.specs.declared.fault.IoFault.TheVariants.{Failed, NoMemory}
use Rattle.outside.specs.declared.sink.Sink.{Ghosts as OfSink}
use Rattle.line_text.specs.Putting.{ArePuts}
use Rattle.line_text.specs.Pens.{Place, place, Moved, Went, PutFrom, PenPuts}

appended_nothing : (taken : Option (List ℕ)) → taken ≡ appended taken []
appended_nothing None = refl
appended_nothing (Some t) = ap Some (sym (append-nil t))

appended_twice : (taken : Option (List ℕ)) (x y : List ℕ) → appended (appended taken x) y ≡ appended taken (x ++ y)
appended_twice None x y = refl
appended_twice (Some t) x y = ap Some (append_assoc t x y)

nothing_put : (stop : Option IoFault) (p : Place) → stop ≡ p.pen.stop → PutFrom stop [] p p
nothing_put None p e = subst (λ s. Went s (p.pen.waiting ++ []) p p) e (
  record {
    count = 0;
    within = omega arith;
    took = appended_nothing p.taken;
    waits = sym (append-nil p.pen.waiting);
  },
  refl,
)
nothing_put (Some f) p e = (sym e, refl, refl)

drop_nil : (n : ℕ) → drop {A = ℕ} n [] ≡ []
drop_nil zero = refl
drop_nil (suc n) = refl

drop_sum : (m n : ℕ) (l : List ℕ) → drop (m + n) l ≡ drop n (drop m l)
drop_sum zero n l = ap (λ (k : ℕ). drop k l) {x = 0 + n} {y = n} (omega arith)
drop_sum (suc m) n [] = drop_nil (suc m + n) ∙ sym (drop_nil n)
drop_sum (suc m) n (x ∷ l) = ap (λ (k : ℕ). drop k (x ∷ l)) {x = suc m + n} {y = suc (m + n)} (omega arith) ∙ drop_sum m n l

-- what a text comes to that is moved after another
pub moved_after : (z y w w' : List ℕ) (t t' t'' : Option (List ℕ)) → Moved z t t' w → Moved (w ++ y) t' t'' w' → Moved (z ++ y) t t'' w'
moved_after z y w w' t t' t'' first next = record {
  count = first.count + next.count;
  within = omega (arith, first.within, next.within, ap length first.waits, length-append w y, length-append z y, length-drop first.count z);
  took = next.took ∙ ap (λ (s : Option (List ℕ)). appended s (take next.count (w ++ y))) first.took
      ∙ appended_twice t (take first.count z) (take next.count (w ++ y))
      ∙ ap (appended t) (sym (together next.count));
  waits = next.waits ∙ ap (λ (l : List ℕ). drop next.count l) (sym rest) ∙ sym (drop_sum first.count next.count (z ++ y));
}
  where
    rest : drop first.count (z ++ y) ≡ w ++ y
    rest = drop-append-le first.count z y first.within ∙ ap (λ (l : List ℕ). l ++ y) (sym first.waits)

    together : (n : ℕ) → take (first.count + n) (z ++ y) ≡ take first.count z ++ take n (w ++ y)
    together n = take-add first.count n (z ++ y)
        ∙ ap (λ (l : List ℕ). l ++ take n (drop first.count (z ++ y))) (take-append-le first.count z y first.within)
        ∙ ap (λ (l : List ℕ). take first.count z ++ take n l) rest

-- a part of a text that comes after another one was taken
pub took_after : (z y w : List ℕ) (t t' t'' : Option (List ℕ)) → Moved z t t' w → TookPrefix (w ++ y) t' t'' → TookPrefix (z ++ y) t t''
took_after z y w t t' t'' first next = (
  first.count + next.0,
  omega (arith, first.within, next.1, ap length first.waits, length-append w y, length-append z y, length-drop first.count z),
  next.2 ∙ ap (λ (s : Option (List ℕ)). appended s (take next.0 (w ++ y))) first.took
      ∙ appended_twice t (take first.count z) (take next.0 (w ++ y))
      ∙ ap (appended t) (sym together),
)
  where
    rest : drop first.count (z ++ y) ≡ w ++ y
    rest = drop-append-le first.count z y first.within ∙ ap (λ (l : List ℕ). l ++ y) (sym first.waits)

    together : take (first.count + next.0) (z ++ y) ≡ take first.count z ++ take next.0 (w ++ y)
    together = take-add first.count next.0 (z ++ y)
        ∙ ap (λ (l : List ℕ). l ++ take next.0 (drop first.count (z ++ y))) (take-append-le first.count z y first.within)
        ∙ ap (λ (l : List ℕ). take first.count z ++ take next.0 l) rest

-- a part of a text is a part of a longer one
took_of_longer : (z y : List ℕ) (t t' : Option (List ℕ)) → TookPrefix z t t' → TookPrefix (z ++ y) t t'
took_of_longer z y t t' p = (p.0, omega (arith, p.1, length-append z y), p.2 ∙ ap (appended t) (sym (take-append-le p.0 z y (omega (arith, p.1)))))

went_after : (stop : Option IoFault) (z y : List ℕ) (a b c : Place) → Moved z a.taken b.taken b.pen.waiting → b.faults ≡ a.faults
    → Went stop (b.pen.waiting ++ y) b c → Went stop (z ++ y) a c
went_after None z y a b c first same next = (moved_after z y b.pen.waiting c.pen.waiting a.taken b.taken c.taken first next.0, next.1 ∙ same)
went_after (Some Failed) z y a b c first same next = (took_after z y b.pen.waiting a.taken b.taken c.taken first next.0, subst (λ n. Rose n c.faults) same next.1)
went_after (Some NoMemory) z y a b c first same next = (took_after z y b.pen.waiting a.taken b.taken c.taken first next.0, next.1 ∙ same)

went_stopped : (fault : IoFault) (z y : List ℕ) (a b c : Place) → Went (Some fault) z a b → c.taken ≡ b.taken → c.faults ≡ b.faults → Went (Some fault) (z ++ y) a c
went_stopped Failed z y a b c first taken faults =
    (subst (TookPrefix (z ++ y) a.taken) (sym taken) (took_of_longer z y a.taken b.taken first.0), subst (Rose a.faults) (sym faults) first.1)
went_stopped NoMemory z y a b c first taken faults =
    (subst (TookPrefix (z ++ y) a.taken) (sym taken) (took_of_longer z y a.taken b.taken first.0), faults ∙ first.1)

abbrev is_none : Option IoFault → Type 0
is_none None = Unit {0}
is_none (Some fault) = ⊥

-- a text that is put after another
put_after : (from mid : Option IoFault) (x y : List ℕ) (a b c : Place) → from ≡ a.pen.stop → mid ≡ b.pen.stop
    → PutFrom from x a b → PutFrom mid y b c → PutFrom from (x ++ y) a c
put_after None None x y a b c e e' p q =
    subst (λ t. Went c.pen.stop t a c) (append_assoc a.pen.waiting x y)
    (let first = subst (λ s. Went s (a.pen.waiting ++ x) a b) (sym e') p in
    went_after c.pen.stop (a.pen.waiting ++ x) y a b c first.0 first.1 q)
put_after None (Some f) x y a b c e e' p q =
    subst (λ t. Went c.pen.stop t a c) (append_assoc a.pen.waiting x y)
    (subst (λ s. Went s ((a.pen.waiting ++ x) ++ y) a c) (sym q.0)
    (went_stopped f (a.pen.waiting ++ x) y a b c (subst (λ s. Went s (a.pen.waiting ++ x) a b) (sym e') p) q.1 q.2))
put_after (Some f) None x y a b c e e' p q = absurd (subst is_none (e' ∙ p.0) tt)
put_after (Some f) (Some g) x y a b c e e' p q = (q.0 ∙ e' ∙ p.0, q.1 ∙ p.1, q.2 ∙ p.2)

pub pens_put : {S : Type 0} (O : OfSink S) → ArePuts (PenPuts O)
pens_put O = record {
  none = λ a. record { puts = nothing_put a.0.stop (place O a) refl; sound = λ s. (s, λ n. n) };
  both = λ a b c x y p q. record {
    puts = put_after a.0.stop b.0.stop x y (place O a) (place O b) (place O c) refl refl p.puts q.puts;
    sound = λ s. let mid = p.sound s in let last = q.sound mid.0 in (last.0, λ n. last.1 (mid.1 n));
  };
}
