-- Memos that go on, and go back.
use Rattle.std.proofs.Common.{◌≡◌, ℕ, zero, suc, ◌+◌, ◌-◌, ◌<◌, ◌≤◌, List, [], ◌∷◌, ◌++◌, length, get_or, set, map, take, drop, Option, Some, None, refl, sym, ap, ◌∙◌, subst, arith, length-append, append-nil, append_assoc}
use Rattle.std.proofs.lemmas.List.{drop_at, length-map, length-set, take_at, take_more}
use Rattle.pb_wire.specs.TableKinds.{place_of, table_of}
use Rattle.key_tables.specs.ByPlace.{at}
use Rattle.renumber.specs.declared.spot.Spot.{Spot}
use Rattle.renumber.specs.Memos.{IsMemoMark, MemoGoesOn, MemoLists, MemoState, NotedEach, memo_back, noted_at, noted_in, unset_each, unset_in}

-- memos with the same lists and spots
abbrev memo_with : MemoLists → List Spot → MemoState
memo_with lists noted = record { lists = lists; noted = noted }

pub same_memo : (a b : MemoState) → a.lists ≡ b.lists → a.noted ≡ b.noted → a ≡ b
same_memo a b e f = ap (λ l. memo_with l a.noted) e ∙ ap (memo_with b.lists) f

-- ---- unsetting what was noted

-- in its table
unset_once : (new_indexes : List (Option ℕ)) (i j : ℕ) → get_or new_indexes i None ≡ None → set (set new_indexes i (Some j)) i None ≡ new_indexes
unset_once [] i j e = refl
unset_once (x ∷ new_indexes) zero j e = ap (λ y. y ∷ new_indexes) (sym e)
unset_once (x ∷ new_indexes) (suc i) j e = ap (λ l. x ∷ l) (unset_once new_indexes i j e)

-- in all
unset_listed : (memo : MemoLists) (p i j : ℕ) → get_or (get_or memo p []) i None ≡ None
    → set (set memo p (set (get_or memo p []) i (Some j))) p (set (get_or (set memo p (set (get_or memo p []) i (Some j))) p []) i None) ≡ memo
unset_listed [] p i j e = refl
unset_listed (x ∷ memo) zero i j e = ap (λ l. l ∷ memo) (unset_once x i j e)
unset_listed (x ∷ memo) (suc p) i j e = ap (λ m. x ∷ m) (unset_listed memo p i j e)

-- one after the other
noted_back : (ss : List Spot) (a b : MemoLists) → NotedEach ss a b → unset_each ss b ≡ a
noted_back [] a b h = h
noted_back (s ∷ ss) a b h =
    ap (unset_in s) (noted_back ss (noted_in (table_of s.kind) s.place h.1.0 a) b h.1.1) ∙ unset_listed a (place_of (table_of s.kind)) s.place h.1.0 h.0

noted_then : (ss ts : List Spot) (a b c : MemoLists) → NotedEach ss a b → NotedEach ts b c → NotedEach (ss ++ ts) a c
noted_then [] ts a b c h k = subst (λ (m : MemoLists). NotedEach ts m c) h k
noted_then (s ∷ ss) ts a b c h k = (h.0, (h.1.0, noted_then ss ts (noted_in (table_of s.kind) s.place h.1.0 a) b c h.1.1 k))

-- ---- going on

pub goes_itself : (m : MemoState) → MemoGoesOn m m
goes_itself m = record { more = []; noted = sym (append-nil m.noted); lists = refl }

pub goes_over : (a b c : MemoState) → MemoGoesOn a b → MemoGoesOn b c → MemoGoesOn a c
goes_over a b c p q = record {
  more = p.more ++ q.more;
  noted = q.noted ∙ ap (λ l. l ++ q.more) p.noted ∙ append_assoc a.noted p.more q.more;
  lists = noted_then p.more q.more a.lists b.lists c.lists p.lists q.lists;
}

-- with one entry more, which was not met
pub goes_noted : (base a : MemoState) (s : Spot) (j : ℕ) → get_or (at a.lists (table_of s.kind)) s.place None ≡ None → MemoGoesOn base a → MemoGoesOn base (noted_at s j a)
goes_noted base a s j free p = goes_over base a (noted_at s j a) p (record { more = s ∷ []; noted = refl; lists = (free, (j, refl)) })

-- ---- going back

pub goes_back : (mark : ℕ) (a b : MemoState) → IsMemoMark mark a → MemoGoesOn a b → (mark ≤ length b.noted) × (memo_back mark b ≡ a)
goes_back mark a b m q =
    let first : take mark b.noted ≡ a.noted = ap (take mark) q.noted ∙ take_at a.noted q.more mark (sym m) in
    let since : drop mark b.noted ≡ q.more = ap (drop mark) q.noted ∙ drop_at a.noted q.more mark (sym m) in
    let lists : unset_each (drop mark b.noted) b.lists ≡ a.lists = ap (λ ss. unset_each ss b.lists) since ∙ noted_back q.more a.lists b.lists q.lists in (
      omega (arith, m, ap length q.noted, length-append a.noted q.more),
      same_memo (memo_back mark b) a lists first,
    )

-- ---- spots that are unset, the last one first

unset_last : (ss : List Spot) (s : Spot) (memo : MemoLists) → unset_each (ss ++ s ∷ []) memo ≡ unset_each ss (unset_in s memo)
unset_last [] s memo = refl
unset_last (r ∷ ss) s memo = ap (unset_in r) (unset_last ss s memo)

-- with one more spot unset, one fewer is left
pub unset_fewer : (ss : List Spot) (done : ℕ) (z : Spot) (memo : MemoLists) → done < length ss
    → unset_each (take (length ss - (done + 1)) ss) (unset_in (get_or ss (length ss - 1 - done) z) memo) ≡ unset_each (take (length ss - done) ss) memo
unset_fewer ss done z memo l =
    let left = length ss - 1 - done in
    let s = get_or ss left z in
    let e : length ss - (done + 1) ≡ left = omega (arith, l) in
    let f : length ss - done ≡ left + 1 = omega (arith, l) in
    let within : left < length ss = omega (arith, l) in
    ap (λ n. unset_each (take n ss) (unset_in s memo)) e ∙ sym (unset_last (take left ss) s memo) ∙ ap (λ rs. unset_each rs memo) (sym (take_more ss left z within))
    ∙ ap (λ n. unset_each (take n ss) memo) (sym f)

-- no table is lost
pub unset_many : {X : Type 0} (xs ys : List X) (view : X → List (Option ℕ)) (s : Spot) → map view ys ≡ unset_in s (map view xs) → length ys ≡ length xs
unset_many xs ys view s e =
    omega (
      arith,
      ap length e,
      length-map xs view,
      length-map ys view,
      length-set (map view xs) (place_of (table_of s.kind)) (set (at (map view xs) (table_of s.kind)) s.place None),
    )
