-- A key and its value as words of a line.
use Rattle.std.specs.Prelude.{ℕ, List, ◌++◌, codes}
use Rattle.any_value.specs.declared.value.KeyValue.{KeyValue}
use Rattle.any_value.specs.Views.{any_view}
use Rattle.shown.specs.Quoted.{quoted}
use Rattle.shown.specs.AnyText.{any_shown}

abbrev pub pair_shown : KeyValue → List ℕ
pair_shown p = quoted p.key ++ (codes ": " ++ any_shown (any_view p.value))
