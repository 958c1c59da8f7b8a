use Rattle.split_merge.specs.PartSteps.{splitting_at}
use Rattle.split_merge.proofs.CutParts.{unique_next}
use Rattle.split_merge.proofs.splitter.Splitter.next.Goals as goal
use Rattle.split_merge.proofs.splitter.Splitter.next.Goals.{in-Some, in-None}

pub returns-clause-unique : goal.returns-clause-unique
returns-clause-unique g c =
    elim c.match-self.branch [
      | in-Some w ↦
          unique_next (splitting_at c.self.inside.input w.in-Some.cutting.next) c.args.self.now w.next_bytes.result c.match-self.result
          (rw (← c.self.view_is) (rw w.in-Some.is)) w.result-is w.next_bytes.ensures.unique
      | in-None w ↦ rw w.result-is tt
    ]
