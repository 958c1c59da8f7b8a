use Rattle.std.proofs.Common.{refl, ◌∙◌}
use Rattle.schema.specs.Messages.{sample, value_type}
use Rattle.schema.specs.Shape.{Attributes, Bytes, End, Fixed, Number, Text, I64, U32, U64}
use Rattle.prof_rec.specs.Views.{profile_view}
use Rattle.renumber.specs.Entries.{index_into}
use Rattle.renumber.proofs.Parts.{part_row, profile_indexes, profile_period, profile_samples}
use Rattle.renumber.proofs.Walks.{part_still, parts_still, walked_nothing, walked_row, walked_rows}
use Rattle.renumber.proofs.records.ProfileMeets.meet.Goals as goal

pub meet-requires : goal.meet-requires
meet-requires g c = (part_row c.args.walk.now.source (profile_view c.args.self.now) c.requires).0

pub samples-requires : goal.samples-requires
samples-requires g c =
    parts_still sample _ _ (profile_view c.args.self.now).1.0 c.in_ok-meet.ensures.moves.same (profile_samples c.args.walk.now.source (profile_view c.args.self.now) c.requires)

pub meet-requires-2 : goal.meet-requires-2
meet-requires-2 g c =
    part_still value_type _ _ (profile_view c.args.self.now).1.1.1.1.0 (c.in_ok-samples.ensures.moves.same ∙ c.in_ok-meet.ensures.moves.same)
    (profile_period c.args.walk.now.source (profile_view c.args.self.now) c.requires)

pub indexes-requires : goal.indexes-requires
indexes-requires g c =
    λ k. (
      (refl, (refl, tt)),
      rw c.as_slice.ensures (parts_still (index_into Attributes) _ _ (profile_view c.args.self.now).1.1.1.1.1.1.1.1.1.1.0
          (c.in_ok-meet-2.ensures.moves.same ∙ c.in_ok-samples.ensures.moves.same ∙ c.in_ok-meet.ensures.moves.same) (profile_indexes c.args.walk.now.source (profile_view c.args.self.now) c.requires)),
    )

pub returns-clause-walked : goal.returns-clause-walked
returns-clause-walked g c =
    let x = profile_view c.args.self.now in
    walked_row _ _ _ x c.in_ok-meet.ensures.walked
    (walked_rows _ _ _ x.1 c.in_ok-samples.ensures.walked
    (walked_row _ _ _ x.1.1 (walked_nothing Fixed refl x.1.1.0 _)
    (walked_row _ _ _ x.1.1.1 (walked_nothing (Number U64) refl x.1.1.1.0 _)
    (walked_row _ _ _ x.1.1.1.1 c.in_ok-meet-2.ensures.walked
    (walked_row _ _ _ x.1.1.1.1.1 (walked_nothing (Number I64) refl x.1.1.1.1.1.0 _)
    (walked_row _ _ _ x.1.1.1.1.1.1 (walked_nothing Bytes refl x.1.1.1.1.1.1.0 _)
    (walked_row _ _ _ x.1.1.1.1.1.1.1 (walked_nothing (Number U32) refl x.1.1.1.1.1.1.1.0 _)
    (walked_row _ _ _ x.1.1.1.1.1.1.1.1 (walked_nothing Text refl x.1.1.1.1.1.1.1.1.0 _)
    (walked_row _ _ _ x.1.1.1.1.1.1.1.1.1 (walked_nothing Bytes refl x.1.1.1.1.1.1.1.1.1.0 _)
    (walked_rows _ _ _ x.1.1.1.1.1.1.1.1.1.1 (rw c.as_slice.ensures at c.in_ok-indexes.ensures.walked) (walked_nothing End refl tt _)))))))))))
