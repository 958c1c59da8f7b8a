use Rattle.std.proofs.Common.{refl, subst, sym}
use Rattle.renumber.specs.declared.spot.Spot.{Spot}
use Rattle.renumber.specs.Memos.{MemoState, noted_at}
use Rattle.renumber.specs.Walk.{IsReady, State}
use Rattle.renumber.proofs.Entering.{entered_moves, entered_ready, entered_unnoted, entered_walk, ready_still}
use Rattle.renumber.proofs.walk.Walk.enter_key.Goals as goal

pub invariant_of-self : goal.invariant_of-self
invariant_of-self g c =
    (c.self.invariant.0, ready_still c.self.inside.source.now c.self.inside.tables c.intern.new.self c.self.inside.memo.lists c.in_err-new.ensures.same c.self.invariant.1)

pub invariant_of-self-in_err-note : goal.invariant_of-self-in_err-note
invariant_of-self-in_err-note g c =
    let s : Spot = record { kind = c.args.kind; place = c.args.place } in
    let old = c.self.inside.memo in
    let new = noted_at s c.in_ok-new.new old in
    let a : State = record { source = c.self.inside.source.now; keys = c.self.inside.tables; memo = old.lists; noted = old.noted } in
    let b : State = record { source = c.self.inside.source.now; keys = c.intern.new.self; memo = new.lists; noted = new.noted } in
    let key = rw (← c.self.view_is) at c.requires.key in
    let place = rw (← c.self.view_is) at c.requires.place in (
      c.self.invariant.0,
      subst (λ (m : MemoState). IsReady c.self.inside.source.now c.intern.new.self m.lists) (sym c.in_err-note.ensures.same)
          (entered_unnoted a b s c.in_ok-new.new c.args.key.now c.self.invariant.1 place key c.in_ok-new.ensures.interned c.in_ok-new.ensures.others c.in_ok-new.ensures.few
          c.in_ok-new.ensures.seven refl refl),
    )

pub invariant_of-self-2 : goal.invariant_of-self-2
invariant_of-self-2 g c =
    let s : Spot = record { kind = c.args.kind; place = c.args.place } in
    let old = c.self.inside.memo in
    let new = c.note.new.self in
    let a : State = record { source = c.self.inside.source.now; keys = c.self.inside.tables; memo = old.lists; noted = old.noted } in
    let b : State = record { source = c.self.inside.source.now; keys = c.intern.new.self; memo = new.lists; noted = new.noted } in
    let key = rw (← c.self.view_is) at c.requires.key in
    let place = rw (← c.self.view_is) at c.requires.place in (
      c.self.invariant.0,
      entered_ready a b s c.in_ok-new.new c.args.key.now c.self.invariant.1 place key c.in_ok-new.ensures.interned c.in_ok-new.ensures.others c.in_ok-new.ensures.few c.in_ok-new.ensures.seven
          c.in_ok-note.ensures.noted refl,
    )

pub returns-clause-moves : goal.returns-clause-moves
returns-clause-moves g c =
    let s : Spot = record { kind = c.args.kind; place = c.args.place } in
    let old = c.self.inside.memo in
    let new = c.note.new.self in
    let a : State = record { source = c.self.inside.source.now; keys = c.self.inside.tables; memo = old.lists; noted = old.noted } in
    let b : State = record { source = c.self.inside.source.now; keys = c.intern.new.self; memo = new.lists; noted = new.noted } in
    let key = rw (← c.self.view_is) at c.requires.key in
    let place = rw (← c.self.view_is) at c.requires.place in
    rw (← c.self.view_is) (entered_moves a b s c.in_ok-new.new c.args.key.now c.self.invariant.1 place key c.in_ok-new.ensures.interned c.in_ok-new.ensures.others c.in_ok-new.ensures.few c.in_ok-new.ensures.seven
    c.in_ok-note.ensures.noted refl c.args.steps.now c.intern.new.steps c.in_ok-new.ensures.kept c.in_ok-new.ensures.steps)

pub returns-clause-walked : goal.returns-clause-walked
returns-clause-walked g c =
    let s : Spot = record { kind = c.args.kind; place = c.args.place } in
    let old = c.self.inside.memo in
    let new = c.note.new.self in
    let a : State = record { source = c.self.inside.source.now; keys = c.self.inside.tables; memo = old.lists; noted = old.noted } in
    let b : State = record { source = c.self.inside.source.now; keys = c.intern.new.self; memo = new.lists; noted = new.noted } in
    let key = rw (← c.self.view_is) at c.requires.key in
    let place = rw (← c.self.view_is) at c.requires.place in
    rw (← c.self.view_is) (entered_walk a b s c.in_ok-new.new c.args.key.now c.self.invariant.1 place key c.in_ok-new.ensures.interned c.in_ok-new.ensures.others c.in_ok-new.ensures.few c.in_ok-new.ensures.seven
    c.in_ok-note.ensures.noted refl)
