use Rattle.key_tables.proofs.Cuts.{cut_measured}
use Rattle.key_tables.proofs.key_tables.KeyTables.back_to.Goals as goal

pub invariant_of-self : goal.invariant_of-self
invariant_of-self g c =
    cut_measured c.mark.inside.lengths c.mark.inside.len c.self.inside.tables c.cut_back.new.tables c.args.mark c.args.self.now c.mark.view_is c.self.view_is c.requires.mark
    c.cut_back.ensures c.self.invariant.2
