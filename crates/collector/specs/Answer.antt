-- The answer of the tool, and what its output keeps.
use Rattle.std.specs.Prelude.{ℕ, List, [], Result, Ok, Err}
use Rattle.outside.specs.FileMap.{FileMap}
use Rattle.commands.specs.declared.words.ToolPlan.{ToolPlan}
use Rattle.commands.specs.declared.words.ToolPlan.TheVariants.{Check, Show, Canon, Merge, Split}
use Rattle.commands.specs.declared.words.WordRefusal.{WordRefusal}
use Rattle.collector.specs.declared.output.Output.{Output}
use Rattle.collector.specs.declared.stop.Stop.{Stop}
use Rattle.commands.specs.Plan.{planned}
use Rattle.collector.specs.Lines.{status_of, line_of, stop_of_words}
use Rattle.collector.specs.CanonAnswer.{canon_answer, CanonKeeps}
use Rattle.collector.specs.CheckAnswer.{check_answer, CheckKeeps}
use Rattle.collector.specs.MergeAnswer.{merge_answer, MergeKeeps}
use Rattle.collector.specs.ShowAnswer.{show_answer, ShowKeeps}
use Rattle.collector.specs.SplitAnswer.{split_answer, SplitKeeps}

-- what a plan comes to; one line a command
abbrev pub performed : ToolPlan → FileMap → Result Output Stop
performed (Check files) m = check_answer m files
performed (Show file) m = show_answer m file
performed (Canon file target) m = canon_answer m file target
performed (Merge target files) m = merge_answer m target files
performed (Split limit prefix files) m = split_answer m limit prefix files

-- what the output of a plan keeps; one line a command
abbrev pub KeepsMeaning : ToolPlan → FileMap → Output → Type 0
KeepsMeaning (Check files) m output = CheckKeeps m files output
KeepsMeaning (Show file) m output = ShowKeeps m file output
KeepsMeaning (Canon file target) m output = CanonKeeps m file target output
KeepsMeaning (Merge target files) m output = MergeKeeps m target files output
KeepsMeaning (Split limit prefix files) m output = SplitKeeps m limit prefix files output

-- what a plan, or the refusal of the command line, comes to
abbrev pub with_plan : Result ToolPlan WordRefusal → FileMap → Result Output Stop
with_plan (Ok plan) m = performed plan m
with_plan (Err refusal) m = Err (stop_of_words refusal)

-- what the command line comes to over these files
abbrev pub outcome : List (List ℕ) → FileMap → Result Output Stop
outcome words m = with_plan (planned words) m

-- a status, the files to write, the text on the standard output and the text on the standard error
pub record Answer : Type 0 where
  pub status : ℕ
  pub files : List (List ℕ × List ℕ)
  pub out : List ℕ
  pub err : List ℕ

-- the answer where an output was computed, or a run stopped
abbrev pub answer_of : Result Output Stop → Answer
answer_of (Ok output) = record { status = 0; files = output.files; out = output.lines; err = [] }
answer_of (Err stop) = record { status = status_of stop; files = []; out = []; err = line_of stop }

-- the answer to this command line over these files
abbrev pub answer : List (List ℕ) → FileMap → Answer
answer words m = answer_of (outcome words m)
