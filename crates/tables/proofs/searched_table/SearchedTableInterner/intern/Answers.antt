use Rattle.std.proofs.Common.{Ok, subst, inl, inr, refl, ◌∙◌, sym, arith}
use Rattle.tables.specs.Keys.{Interned, IsAbsent, IsInterning, IsPlace}
use Rattle.tables.proofs.Search.{place_by_search, absent_by_search}
use Rattle.tables.proofs.Interning.{interned_table, interning, no_interning}
use Rattle.tables.proofs.searched_table.SearchedTableInterner.intern.Goals as goal

pub returns-in-Some-clause-interned : goal.returns-in-Some-clause-interned
returns-in-Some-clause-interned g c =
    let had : IsPlace c.deref.result.now c.args.key c.in-Some.place =
    place_by_search g.K.PartialEq.eq g.met.K.Eq.laws g.met.K.Key.same _ _ _ (sym c.place_of.ensures ∙ c.in-Some.is) in
    subst (λ l. IsInterning l c.args.key l (Ok c.in-Some.place)) c.self.view_is
    (interning c.self.inside.items.items c.args.key c.self.inside.items.items c.in-Some.place (inl (record { had = subst (λ l. IsPlace l c.args.key c.in-Some.place) c.deref.ensures.value had; same = refl })) c.self.invariant.distinct)

pub returns-in_err-push-clause-interned : goal.returns-in_err-push-clause-interned
returns-in_err-push-clause-interned g c =
    let absent : IsAbsent c.self.inside.items.items c.args.key =
    subst (λ l. IsAbsent l c.args.key) c.deref.ensures.value
    (absent_by_search g.K.PartialEq.eq g.met.K.Eq.laws g.met.K.Key.same _ _ (sym c.place_of.ensures ∙ c.in_default.is)) in
    subst (λ l. IsInterning l c.args.key c.push.new.self.items c.from_residual.result) c.self.view_is
    (no_interning c.self.inside.items.items c.args.key c.push.new.self.items c.from_residual.result c.from_residual.ensures.0 c.in_err-push.ensures.items absent c.self.invariant.distinct)

pub invariant_of-self-2 : goal.invariant_of-self-2
invariant_of-self-2 g c =
    let n : IsAbsent c.self.inside.items.items c.args.key =
    subst (λ l. IsAbsent l c.args.key) c.deref.ensures.value
    (absent_by_search g.K.PartialEq.eq g.met.K.Eq.laws g.met.K.Key.same _ _ (sym c.place_of.ensures ∙ c.in_default.is)) in
    interned_table _ _ _ _ (inr (record { absent = n; last = refl; grown = c.in_ok-push.ensures.items })) c.self.invariant.distinct (rw c.self.view_is c.requires.few)

pub returns-clause-interned : goal.returns-clause-interned
returns-clause-interned g c =
    let n : IsAbsent c.self.inside.items.items c.args.key =
    subst (λ l. IsAbsent l c.args.key) c.deref.ensures.value
    (absent_by_search g.K.PartialEq.eq g.met.K.Eq.laws g.met.K.Key.same _ _ (sym c.place_of.ensures ∙ c.in_default.is)) in
    let h : Interned c.self.inside.items.items c.args.key c.push.new.self.items c.len-place.result =
    inr (record { absent = n; last = omega arith; grown = c.in_ok-push.ensures.items }) in
    subst (λ l. IsInterning l c.args.key c.push.new.self.items (Ok c.len-place.result)) c.self.view_is (interning _ _ _ _ h c.self.invariant.distinct)
