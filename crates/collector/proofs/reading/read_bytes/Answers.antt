use Rattle.std.proofs.Common.{rules}
use Rattle.collector.proofs.RunSteps.{read_failed}
use Rattle.collector.proofs.reading.read_bytes.Goals as goal

pub returns-in_ok-copy_of-in-Err-Failed : goal.returns-in_ok-copy_of-in-Err-Failed
returns-in_ok-copy_of-in-Err-Failed g c = read_failed _ _ _ _ _ _ (search rules) (search rules) (search rules) (search rules) (search rules)
