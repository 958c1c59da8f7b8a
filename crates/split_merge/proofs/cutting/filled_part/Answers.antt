use Rattle.split_merge.proofs.CutParts.{cut_of}
use Rattle.split_merge.proofs.cutting.filled_part.Goals as goal

pub returns-clause-cut : goal.returns-clause-cut
returns-clause-cut g c =
    cut_of c.args.input.now c.args.first c.in_ok-next.next c.fill.new.over.adder.draft c.in_ok-bytes.bytes c.requires.place c.in_ok-next.ensures.whole
    c.in_ok-bytes.ensures.ok c.in_ok-bytes.ensures.accepted
