-- What outputs of commands keep: the files that are written are accepted, with the meanings that were asked for.
use Rattle.std.specs.Prelude.{◌≡◌, ℕ, List, [], ◌∷◌}
use Rattle.split_merge.specs.Canonical.{Meaning, IsAcceptedAs, IsOnlyOf}
use Rattle.collector.specs.declared.output.Output.{Output}

-- one file is written; it is accepted with this meaning, and no other meaning that can be written has these canonical bytes
pub record IsRebuilt (ms : Meaning) (target : List ℕ) (output : Output) : Type 0 where
  pub bytes : List ℕ
  pub files : output.files ≡ (target, bytes) ∷ []
  pub accepted : IsAcceptedAs bytes ms
  pub unique : IsOnlyOf bytes ms
