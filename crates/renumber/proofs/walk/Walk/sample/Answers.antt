use Rattle.std.proofs.Common.{refl, ◌∙◌, map}
use Rattle.schema.specs.Messages.{sample}
use Rattle.schema.specs.Shape.{Attributes, Links, Number, Fixed, End, Many, I64, Value}
use Rattle.renumber.specs.Entries.{index_into}
use Rattle.renumber.proofs.Walks.{part_still, parts_still, walked_nothing, walked_row, walked_rows}
use Rattle.renumber.proofs.walk.Walk.sample.Goals as goal

pub indexes-requires : goal.indexes-requires
indexes-requires g c = λ k. ((refl, (refl, tt)), parts_still (index_into Attributes) _ _ (map (λ i. i) c.args.attribute_indices.now) c.in_ok-index.ensures.moves.same c.requires.attributes)

pub index-requires-2 : goal.index-requires-2
index-requires-2 g c = λ k. ((refl, (refl, tt)), part_still (index_into Links) _ _ c.args.link_index.now (c.in_ok-indexes.ensures.moves.same ∙ c.in_ok-index.ensures.moves.same) c.requires.link)

pub returns-clause-walked : goal.returns-clause-walked
returns-clause-walked g c values times =
    let x : Value sample = (c.args.stack_index.now, (values, (map (λ i. i) c.args.attribute_indices.now, (c.args.link_index.now, (times, tt))))) in
    walked_row _ _ _ x c.in_ok-index.ensures.walked
    (walked_rows _ _ _ x.1 (walked_nothing (Many 1 (Number I64) End) refl (x.1.0, tt) _)
    (walked_rows _ _ _ x.1.1 c.in_ok-indexes.ensures.walked
    (walked_row _ _ _ x.1.1.1 c.in_ok-index-2.ensures.walked (walked_nothing (Many 5 Fixed End) refl x.1.1.1.1 _))))
