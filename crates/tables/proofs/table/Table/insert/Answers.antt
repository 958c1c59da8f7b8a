-- The set's own contract speaks of tests, and the table's of places.
use Rattle.std.proofs.Common.{Ok, subst}
use Rattle.tables.specs.Keys.{Interned, IsAbsent, IsInterning}
use Rattle.tables.proofs.Search.{absent_by_test, interned_by_test}
use Rattle.tables.proofs.Interning.{interned_table, interning, no_interning}
use Rattle.tables.proofs.table.Table.insert.Goals as goal

pub returns-in_err-place : goal.returns-in_err-place
returns-in_err-place g c =
    let absent : IsAbsent c.self.inside.set.keys c.args.key = absent_by_test g.K.PartialEq.eq g.met.K.Eq.laws g.met.K.Key.same c.self.inside.set.keys c.args.key c.in_err-place.ensures.absent in
    record { interned = subst (λ l. IsInterning l c.args.key c.insert_full.new.self.keys c.from_residual.result) c.self.view_is (no_interning _ _ _ _ c.from_residual.ensures.0 c.in_err-place.ensures.err absent c.self.invariant.distinct) }

pub invariant_of-self-2 : goal.invariant_of-self-2
invariant_of-self-2 g c =
    let h : Interned c.self.inside.set.keys c.args.key c.insert_full.new.self.keys c.in_ok-place.place =
    interned_by_test g.K.PartialEq.eq g.met.K.Eq.laws g.met.K.Key.same _ _ _ _ c.in_ok-place.ensures.keys c.in_ok-place.ensures.index in
    interned_table _ _ _ _ h c.self.invariant.distinct (rw c.self.view_is c.requires.few)

pub returns : goal.returns
returns g c =
    let h : Interned c.self.inside.set.keys c.args.key c.insert_full.new.self.keys c.in_ok-place.place =
    interned_by_test g.K.PartialEq.eq g.met.K.Eq.laws g.met.K.Key.same _ _ _ _ c.in_ok-place.ensures.keys c.in_ok-place.ensures.index in
    record { interned = subst (λ l. IsInterning l c.args.key c.insert_full.new.self.keys (Ok c.in_ok-place.place)) c.self.view_is (interning _ _ _ _ h c.self.invariant.distinct) }
