use Rattle.std.proofs.Common.{◌≤◌, take, length}
use Rattle.std.specs.List.{flat_map}
use Rattle.shown.specs.Quoted.{escaped}
use Rattle.line_text.proofs.Runs.{EndsInRun}
use Rattle.line_text.proofs.quoting.put_escaped.Given as goal

-- what stands before the run is put, and the run stands for itself
abbrev pub invariant-loop-place : goal.invariant-loop-place
invariant-loop-place g l = (l.run ≤ l.place) × (l.place ≤ length l.text)
    × g.O.TextOut.Puts (l.initial.out, l.initial.to) (flat_map escaped (take l.run l.text)) (l.out, l.to)
    × EndsInRun l.text l.run l.place
