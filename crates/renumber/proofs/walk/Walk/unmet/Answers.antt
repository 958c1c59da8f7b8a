use Rattle.std.proofs.Common.{◌<◌, ap, length, nat_abs, rules, sym, subst, FitsSigned, to_z, of_z, w32}
use Rattle.key_tables.specs.Keys.{at}
use Rattle.meaning.specs.Memo.{KnowsIndex}
use Rattle.pb_wire.specs.TableKinds.{table_of}
use Rattle.renumber.specs.Entries.{IsSource}
use Rattle.renumber.specs.Walk.{IsReady, State}
use Rattle.renumber.proofs.Entering.{known_walk}
use Rattle.renumber.proofs.Parts.{place_met}
use Rattle.renumber.proofs.walk.Walk.unmet.Goals as goal

pub get-requires-clause-within : goal.get-requires-clause-within
get-requires-clause-within g c =
    let w : State = c.args.self.now in
    let T = table_of c.args.kind in
    let i = c.args.index.now in
    let h : IsSource w.source × IsReady w.source w.keys w.memo = rw (← c.self.view_is) c.self.invariant in
    let f : FitsSigned w32 i = search rules in
    let l : nat_abs (to_z w32 (of_z w32 i)) < length (at w.memo T) = place_met w T i h.1 c.requires f (λ e. c.if-index-eq0.false (ap (of_z w32) e)) in
    subst (λ (x : State). nat_abs (to_z w32 (of_z w32 i)) < length (at x.memo T)) (sym c.self.view_is) l

pub returns-then-index-eq0 : goal.returns-then-index-eq0
returns-then-index-eq0 g c =
    let w : State = c.args.self.now in
    let T = table_of c.args.kind in
    let h : IsSource w.source × IsReady w.source w.keys w.memo = rw (← c.self.view_is) c.self.invariant in
    let k : KnowsIndex (at w.memo) T c.args.index.now = search rules in
    known_walk w T c.args.index.now h.0 h.1 k

pub returns-in-Some : goal.returns-in-Some
returns-in-Some g c =
    let w : State = c.args.self.now in
    let T = table_of c.args.kind in
    let h : IsSource w.source × IsReady w.source w.keys w.memo = rw (← c.self.view_is) c.self.invariant in
    let k : KnowsIndex (at w.memo) T c.args.index.now = search rules in
    known_walk w T c.args.index.now h.0 h.1 k
