use Rattle.std.proofs.Common.{pos, length, refl, sym, subst, ◌≡◌, ◌∙◌, ◌<◌}
use Rattle.meaning.specs.Meaning.{entry_at}
use Rattle.meaning.specs.Tables.{entry}
use Rattle.meaning.specs.Tree.{Integer, tree}
use Rattle.dict_rec.specs.declared.dictionary.Dictionary.{Dictionary}
use Rattle.renumber.specs.Entries.{index_into, old_entries}
use Rattle.renumber.specs.Walk.{IsOpen, Moves, State, Walked}
use Rattle.renumber.proofs.Moves.{missed_one, moves_entry, moves_in_entry, open_still}
use Rattle.renumber.proofs.Walks.{entry_found, on_ok, part_found, part_still, walked_entry}
use Rattle.renumber.proofs.walk.Walk.index.Goals as goal

pub meet-requires : goal.meet-requires
meet-requires g c =
    let T = g.E.Entry.table in
    let old = c.source.result.now in
    let here : c.in-Some.place < length (old_entries old T) = rw (c.source.ensures.same, ← c.kind.ensures.kind) c.in-Some.ensures.1.within in
    part_still g.E.Rows.shape old c.args.self.now.source (g.E.Rows.view c.index-entries-place.result) (sym c.source.ensures.same)
    (part_found T g.E.Rows.shape old g.E.Rows.view c.entries.result.now c.in-Some.place c.index-entries-place.result c.entries.ensures.all here c.index-entries-place.is (c.entries.ensures.parts c.source.ensures.source))

pub enter-requires : goal.enter-requires
enter-requires g c =
    let T = g.E.Entry.table in
    let old = c.source.result.now in
    let x = g.E.Rows.view c.index-entries-place.result in
    let within : c.in-Some.place < length (old_entries old T) = rw (c.source.ensures.same, ← c.kind.ensures.kind) c.in-Some.ensures.1.within in
    let place =
    open_still T g.E.Rows.shape c.kind.ensures.shape 0 c.args.self.now c.meet.new.walk c.args.steps.now c.meet.new.steps c.in-Some.place c.in_ok-meet-in-Some.ensures.moves
    (subst (λ T. IsOpen T c.args.self.now c.in-Some.place) c.kind.ensures.kind c.in-Some.ensures.1) in
    let here =
    subst (λ (d : Dictionary). entry_at (old_entries d T) (entry T) (Integer (pos c.in-Some.place)) ≡ tree g.E.Rows.shape x)
    (c.source.ensures.same ∙ sym c.in_ok-meet-in-Some.ensures.moves.same)
    (entry_found T g.E.Rows.shape old g.E.Rows.view c.entries.result.now c.in-Some.place c.index-entries-place.result c.entries.ensures.all within c.index-entries-place.is) in
    let part =
    part_still g.E.Rows.shape old c.meet.new.walk.source x (c.in_ok-meet-in-Some.ensures.moves.same ∙ sym c.source.ensures.same)
    (part_found T g.E.Rows.shape old g.E.Rows.view c.entries.result.now c.in-Some.place c.index-entries-place.result c.entries.ensures.all within c.index-entries-place.is (c.entries.ensures.parts c.source.ensures.source)) in
    λ k. ((refl, (refl, tt)), (place, (here, (part, c.in_ok-meet-in-Some.ensures.walked.known))))

pub returns-in-None-clause-walked : goal.returns-in-None-clause-walked
returns-in-None-clause-walked g c = subst (λ T. Walked (index_into T) c.args.self.now c.args.self.now c.args.index.now) c.kind.ensures.kind c.in-None.ensures

pub returns-in_ok-meet-in-Some-clause-walked : goal.returns-in_ok-meet-in-Some-clause-walked
returns-in_ok-meet-in-Some-clause-walked g c =
    let T = g.E.Entry.table in
    let s = g.E.Rows.shape in
    let old = c.source.result.now in
    let a : State = c.args.self.now in
    let x = g.E.Rows.view c.index-entries-place.result in
    let within : c.in-Some.place < length (old_entries old T) = rw (c.source.ensures.same, ← c.kind.ensures.kind) c.in-Some.ensures.1.within in
    let here : entry_at (old_entries a.source T) (entry T) (Integer (pos c.in-Some.place)) ≡ tree s x =
    subst (λ (d : Dictionary). entry_at (old_entries d T) (entry T) (Integer (pos c.in-Some.place)) ≡ tree s x) c.source.ensures.same
    (entry_found T s old g.E.Rows.view c.entries.result.now c.in-Some.place c.index-entries-place.result c.entries.ensures.all within c.index-entries-place.is) in
    on_ok (Walked (index_into T) c.meet.new.walk c.enter.new.self (pos c.in-Some.place)) _ c.enter.result
    (λ h. subst (Walked (index_into T) a c.enter.new.self) (sym c.in-Some.ensures.0)
    (walked_entry T s c.kind.ensures.shape a c.meet.new.walk c.enter.new.self x c.in-Some.place here c.in_ok-meet-in-Some.ensures.walked h)) c.enter.ensures.walked

pub returns-in_err-meet-in-Some-clause-moves : goal.returns-in_err-meet-in-Some-clause-moves
returns-in_err-meet-in-Some-clause-moves g c =
    subst (λ extra. Moves (index_into g.E.Entry.table) extra c.args.self.now c.meet.new.walk c.args.steps.now c.meet.new.steps) (sym (missed_one c.from_residual.result c.from_residual.ensures.0))
    (moves_in_entry g.E.Entry.table g.E.Rows.shape c.kind.ensures.shape 1 c.args.self.now c.meet.new.walk c.args.steps.now c.meet.new.steps c.in_err-meet-in-Some.ensures.moves)

pub returns-in_ok-meet-in-Some-clause-moves : goal.returns-in_ok-meet-in-Some-clause-moves
returns-in_ok-meet-in-Some-clause-moves g c =
    moves_entry g.E.Entry.table g.E.Rows.shape c.kind.ensures.shape _ c.args.self.now c.meet.new.walk c.enter.new.self c.args.steps.now c.meet.new.steps c.enter.new.steps
    c.in_ok-meet-in-Some.ensures.moves c.enter.ensures.moves
