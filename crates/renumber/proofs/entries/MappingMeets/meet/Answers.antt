use Rattle.std.proofs.Common.{refl}
use Rattle.schema.specs.Shape.{Attributes, Number, End, U64}
use Rattle.dict_rec.specs.Views.{mapping_view}
use Rattle.renumber.proofs.Walks.{parts_still, walked_nothing, walked_row, walked_rows}
use Rattle.renumber.specs.Entries.{index_into}
use Rattle.renumber.proofs.Parts.{mapping_indexes}
use Rattle.renumber.proofs.entries.MappingMeets.meet.Goals as goal

pub indexes-requires : goal.indexes-requires
indexes-requires g c =
    λ k. ((refl, (refl, tt)), rw c.as_slice.ensures (parts_still (index_into Attributes) _ _ (mapping_view c.args.self.now).1.1.1.1.0 c.in_ok-string.ensures.moves.same (mapping_indexes c.args.walk.now.source (mapping_view c.args.self.now) c.requires)))

pub returns-clause-walked : goal.returns-clause-walked
returns-clause-walked g c =
    let x = mapping_view c.args.self.now in
    walked_row _ _ _ x (walked_nothing (Number U64) refl x.0 _)
    (walked_row _ _ _ x.1 (walked_nothing (Number U64) refl x.1.0 _)
    (walked_row _ _ _ x.1.1 (walked_nothing (Number U64) refl x.1.1.0 _)
    (walked_row _ _ _ x.1.1.1 c.in_ok-string.ensures.walked
    (walked_rows _ _ _ x.1.1.1.1 (rw c.as_slice.ensures at c.in_ok-indexes.ensures.walked) (walked_nothing End refl tt _)))))
