use Rattle.std.proofs.Common.{◌≡◌, IfOk, subst, None, Some}
use Rattle.outside.specs.declared.files.Got.{Got}
use Rattle.outside.proofs.NewestWrite.{found_got_of}
use Rattle.outside.proofs.mem_files.MemFilesFiles.read.Goals as goal

pub returns-in-Some-clause-got : goal.returns-in-Some-clause-got
returns-in-Some-clause-got c =
    subst (λ (x : Got). IfOk c.got_within.result (λ got. got ≡ x)) (found_got_of _ _ _ (Some c.in-Some.bytes.now) c.in-Some.ensures) c.got_within.ensures.ok

pub returns-in-None-clause-got : goal.returns-in-None-clause-got
returns-in-None-clause-got c = found_got_of _ _ _ None c.in-None.ensures
