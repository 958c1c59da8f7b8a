use Rattle.std.proofs.Common.{◌≡◌, ◌<◌, get_or, length, sym, subst, arith}
use Rattle.std.proofs.lemmas.Option.{get_or_from_slice_get}
use Rattle.schema.specs.Messages.{sample}
use Rattle.prof_rec.specs.SampleRefs.{sample_of}
use Rattle.prof_rec.specs.Views.{numbers_view, sample_view}
use Rattle.renumber.specs.Walk.{Walked}
use Rattle.renumber.proofs.Moves.{moves_on}
use Rattle.renumber.proofs.Parts.{part_row, sample_indexes, sample_link, sample_part}
use Rattle.renumber.proofs.Walks.{walked_more}
use Rattle.renumber.proofs.walk.Walk.samples.Goals as goal

pub sample-requires-clause-stack : goal.sample-requires-clause-stack
sample-requires-clause-stack g c =
    let x = sample_of c.at-found.result in
    (part_row c.loop-place.self.source (sample_view x) (sample_part c.args.self.now.source c.loop-place.self.source c.args.samples.now c.loop-place.place x c.at-found.ensures
    c.loop-place.invariant.moves.same c.requires)).0

pub sample-requires-clause-attributes : goal.sample-requires-clause-attributes
sample-requires-clause-attributes g c =
    let x = sample_of c.at-found.result in
    sample_indexes c.loop-place.self.source (sample_view x) (sample_part c.args.self.now.source c.loop-place.self.source c.args.samples.now c.loop-place.place x c.at-found.ensures
    c.loop-place.invariant.moves.same c.requires)

pub sample-requires-clause-link : goal.sample-requires-clause-link
sample-requires-clause-link g c =
    let x = sample_of c.at-found.result in
    sample_link c.loop-place.self.source (sample_view x) (sample_part c.args.self.now.source c.loop-place.self.source c.args.samples.now c.loop-place.place x c.at-found.ensures
    c.loop-place.invariant.moves.same c.requires)

pub returns-in-Err-clause-moves : goal.returns-in-Err-clause-moves
returns-in-Err-clause-moves g c =
    moves_on sample 1 c.args.self.now c.loop-place.self c.sample.new.self c.args.steps.now c.loop-place.steps c.sample.new.steps c.loop-place.invariant.moves c.in-Err.ensures.moves

pub loop-place-preserved : goal.loop-place-preserved
loop-place-preserved g c =
    let x = sample_of c.at-found.result in
    let xs = c.args.samples.now in
    let i = c.loop-place.place in
    let within : i < length xs = omega arith in
    let read : get_or xs i x ≡ x = get_or_from_slice_get xs i x x c.at-found.ensures in
    record {
      moves = moves_on sample 0 c.args.self.now c.loop-place.self c.sample.new.self c.args.steps.now c.loop-place.steps c.sample.new.steps c.loop-place.invariant.moves c.in_default.ensures.moves;
      walked = walked_more sample sample_view c.args.self.now c.loop-place.self c.sample.new.self xs i x within c.loop-place.invariant.walked
          (subst (λ y. Walked sample c.loop-place.self c.sample.new.self (sample_view y)) (sym read) (c.in_default.ensures.walked (numbers_view x.values) x.timestamps_unix_nano));
    }
