-- What the steps of `split` promise.
use Rattle.std.specs.Prelude.{ℕ, List, [], ◌∷◌, ◌++◌, length}
use Rattle.commands.specs.PartNames.{part_name}
use Rattle.collector.specs.declared.output.Output.{Output}
use Rattle.collector.specs.Lines.{wrote_text}

-- one part more, as a file, and the line that it was written
abbrev pub with_part : List ℕ → List ℕ → Output → Output
with_part prefix bytes output =
    let name = part_name prefix (length output.files) in
    record { files = output.files ++ (name, bytes) ∷ []; lines = output.lines ++ wrote_text name (length bytes) }
