use Rattle.std.proofs.Common.{refl, ◌∙◌}
use Rattle.schema.specs.Shape.{Attributes, Number, End, U64}
use Rattle.dict_rec.specs.Views.{location_view}
use Rattle.renumber.proofs.Walks.{parts_still, walked_nothing, walked_row, walked_rows}
use Rattle.schema.specs.Messages.{line}
use Rattle.renumber.specs.Entries.{index_into}
use Rattle.renumber.proofs.Parts.{location_indexes, location_lines}
use Rattle.renumber.proofs.entries.LocationMeets.meet.Goals as goal

pub each-requires : goal.each-requires
each-requires g c = rw c.as_slice.ensures (parts_still line _ _ (location_view c.args.self.now).1.1.0 c.in_ok-index.ensures.moves.same (location_lines c.args.walk.now.source (location_view c.args.self.now) c.requires))

pub indexes-requires : goal.indexes-requires
indexes-requires g c =
    λ k. ((refl, (refl, tt)), rw c.as_slice-2.ensures (parts_still (index_into Attributes) _ _ (location_view c.args.self.now).1.1.1.0 (c.in_ok-each.ensures.moves.same ∙ c.in_ok-index.ensures.moves.same) (location_indexes c.args.walk.now.source (location_view c.args.self.now) c.requires)))

pub returns-clause-walked : goal.returns-clause-walked
returns-clause-walked g c =
    let x = location_view c.args.self.now in
    walked_row _ _ _ x c.in_ok-index.ensures.walked
    (walked_row _ _ _ x.1 (walked_nothing (Number U64) refl x.1.0 _)
    (walked_rows _ _ _ x.1.1 (rw c.as_slice.ensures at c.in_ok-each.ensures.walked)
    (walked_rows _ _ _ x.1.1.1 (rw c.as_slice-2.ensures at c.in_ok-indexes.ensures.walked) (walked_nothing End refl tt _))))
