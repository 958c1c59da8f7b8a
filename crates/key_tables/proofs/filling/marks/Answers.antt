use Rattle.key_tables.proofs.Cuts.{count_at, seven_lengths}
use Rattle.key_tables.proofs.filling.marks.Goals as goal

pub returns : goal.returns
returns g c =
    seven_lengths c.args.tables.now c.mark.result c.mark-2.result c.mark-3.result c.mark-4.result c.mark-5.result c.mark-6.result c.mark-7.result c.requires
    (count_at c.args.tables.now 0 c.get.result.now c.mark.result c.get.ensures c.mark.ensures)
    (count_at c.args.tables.now 1 c.get-2.result.now c.mark-2.result c.get-2.ensures c.mark-2.ensures)
    (count_at c.args.tables.now 2 c.get-3.result.now c.mark-3.result c.get-3.ensures c.mark-3.ensures)
    (count_at c.args.tables.now 3 c.get-4.result.now c.mark-4.result c.get-4.ensures c.mark-4.ensures)
    (count_at c.args.tables.now 4 c.get-5.result.now c.mark-5.result c.get-5.ensures c.mark-5.ensures)
    (count_at c.args.tables.now 5 c.get-6.result.now c.mark-6.result c.get-6.ensures c.mark-6.ensures)
    (count_at c.args.tables.now 6 c.get-7.result.now c.mark-7.result c.get-7.ensures c.mark-7.ensures)
