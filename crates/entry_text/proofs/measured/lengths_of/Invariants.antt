use Rattle.std.proofs.Common.{◌≡◌, map, take}
use Rattle.entry_text.specs.Lengths.{value_length}
use Rattle.entry_text.proofs.measured.lengths_of.Given as goal

abbrev pub invariant-loop-entry : goal.invariant-loop-entry
invariant-loop-entry g l =
    l.lengths.items ≡ map (λ e. value_length (g.H.Meanings.tables l.measured.held) g.E.Entry.table (g.E.Entry.view e)) (take l.entry-index l.entries)
