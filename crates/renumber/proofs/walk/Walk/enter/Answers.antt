use Rattle.std.proofs.Common.{sym, subst, ◌∙◌}
use Rattle.renumber.specs.Entries.{IsKeyOf, IsSource}
use Rattle.renumber.specs.Walk.{IsReady, State}
use Rattle.renumber.proofs.Entering.{found_key, part_short}
use Rattle.renumber.proofs.walk.Walk.enter.Goals as goal

pub text_with-requires : goal.text_with-requires
text_with-requires g c =
    let w : State = c.args.self.now in
    let h : IsSource w.source × IsReady w.source w.keys w.memo = rw (← c.self.view_is) c.self.invariant in
    part_short g.E.Rows.shape w.source w.keys w.memo (g.E.Rows.view c.args.found.now) h.0 h.1 c.requires.part

pub enter_key-requires-clause-key : goal.enter_key-requires-clause-key
enter_key-requires-clause-key g c =
    let w : State = c.args.self.now in
    let T = g.E.Entry.table in
    let h : IsSource w.source × IsReady w.source w.keys w.memo = rw (← c.self.view_is) c.self.invariant in
    subst (λ U. IsKeyOf U w.source w.keys c.args.place c.as_slice.result.now) (sym c.kind-kind.ensures.kind)
    (subst (λ b. IsKeyOf T w.source w.keys c.args.place b) (sym (c.as_slice.ensures ∙ c.in_ok-text.ensures))
    (found_key T g.E.Rows.shape c.kind-kind.ensures.shape g.met.E.Rows.message g.met.E.Rows.lawful w.source w.keys w.memo (g.E.Rows.view c.args.found.now) c.args.place h.0 h.1
    c.requires.part c.requires.here c.requires.known))
