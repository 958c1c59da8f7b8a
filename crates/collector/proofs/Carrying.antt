-- What is left where a plan was carried out.
use Rattle.std.proofs.Common.{◌≡◌, inl, inr, Result, Ok, Err, IfErr, IfSome}
use Rattle.outside.specs.declared.files.Files.{Ghosts as OfFiles}
use Rattle.outside.specs.declared.sink.Sink.{Ghosts as OfSink}
use Rattle.commands.specs.declared.words.ToolPlan.{ToolPlan}
use Rattle.commands.specs.declared.words.WordRefusal.{WordRefusal}
use Rattle.collector.specs.Answer.{with_plan}
use Rattle.collector.specs.Carrying.{IsCarried}
use Rattle.collector.specs.Delivery.{seen, PartDelivered}
use Rattle.collector.specs.declared.stop.Stop.{Stop}
use Rattle.collector.proofs.Writing.{part_written, unwritten, wanted_of_words}

pub carried_in_part : {S P T : Type 0} (F : OfFiles S) (O : OfSink P) (old new : S) (out out' : P) (words : Result ToolPlan WordRefusal) (plan : ToolPlan) (r : Result T Stop)
    → words ≡ Ok plan → IsCarried F O old new out out' plan r
    → IfErr r (λ _. IfSome (F.told old) (λ m. PartDelivered (with_plan words m) (seen F O old out) (seen F O new out')))
carried_in_part F O old new out out' words plan (Ok value) is given = tt
carried_in_part F O old new out out' words plan (Err stop) is (inl given) =
    let reads = given.performed.read.reads in
    part_written (F.told old) (F.told given.mid) (with_plan words) given.output (F.write_faults old) (F.write_faults given.mid) (O.taken out) (O.faults out)
    (seen F O new out') stop reads.same reads.writes
    (wanted_of_words (F.told old) words plan given.output is given.performed.read.ok) given.delivered.left
carried_in_part F O old new out out' words plan (Err stop) is (inr given) =
    unwritten (F.told old) (with_plan words) (seen F O old out) (seen F O new out') (record { told = given.performed.read.reads.same; taken = given.nothing.taken })
