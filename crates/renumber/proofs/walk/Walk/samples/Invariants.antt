use Rattle.std.proofs.Common.{map, take}
use Rattle.schema.specs.Messages.{sample}
use Rattle.prof_rec.specs.Views.{sample_view}
use Rattle.renumber.specs.Walk.{Moves, WalkedEach}
use Rattle.renumber.proofs.walk.Walk.samples.Given as goal

-- the samples so far were walked over
abbrev pub invariant-loop-place : goal.invariant-loop-place
invariant-loop-place g l = record {
  moves : Moves sample 0 l.fn.self l.self l.fn.steps l.steps;
  walked : WalkedEach sample l.fn.self l.self (map sample_view (take l.place l.samples));
}
