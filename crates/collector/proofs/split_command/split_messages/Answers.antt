use Rattle.std.proofs.Common.{map}
use Rattle.otlp_msg.specs.Checked.{value_of}
use Rattle.collector.proofs.SplitParts.{fewer_left, no_parts, one_part, part_stopped, parts_computed, parts_kept}
use Rattle.collector.proofs.split_command.split_messages.Goals as goal

pub parts-init : goal.parts-init
parts-init g c =
    no_parts c.args.limit c.bytes.result c.args.prefix.now (map value_of c.args.messages.now) c.in_ok-splitter.splitter c.begin.result c.begin-2.result
    c.bytes.ensures.same c.in_ok-splitter.ensures c.begin.ensures c.begin-2.ensures

pub parts-smaller : goal.parts-smaller
parts-smaller g c = fewer_left c.parts.splitter c.next.new.self c.in-Some.bytes c.in-Ok.part c.in-Ok.ensures.ok c.in-Some.is c.in-Ok.ensures.gone

pub parts-preserved : goal.parts-preserved
parts-preserved g c =
    one_part c.args.limit c.args.prefix.now (map value_of c.args.messages.now) c.parts.splitter c.next.new.self c.parts.output c.add_part.new.output c.in-Some.bytes c.in-Ok.part
    c.parts.invariant c.in-Ok.ensures.ok c.in-Some.is c.in-Ok.ensures.gone c.in-Ok.ensures.accepted c.in-Ok.ensures.unique c.in_default.ensures

pub returns-in-None-clause-computed : goal.returns-in-None-clause-computed
returns-in-None-clause-computed g c =
    parts_computed c.args.limit c.args.prefix.now (map value_of c.args.messages.now) c.parts.splitter c.parts.output c.in-Ok.part c.parts.invariant c.in-Ok.ensures.ok c.in-None.is

pub returns-in-None-clause-kept : goal.returns-in-None-clause-kept
returns-in-None-clause-kept g c =
    parts_kept c.args.limit c.args.prefix.now (map value_of c.args.messages.now) c.parts.splitter c.parts.output c.in-Ok.part c.parts.invariant c.in-Ok.ensures.ok c.in-None.is

pub returns-in-Err-clause-computed : goal.returns-in-Err-clause-computed
returns-in-Err-clause-computed g c =
    part_stopped c.args.limit c.args.prefix.now (map value_of c.args.messages.now) c.parts.splitter c.parts.output c.in-Err.fault c.into.result c.parts.invariant c.in-Err.ensures.refused c.into.ensures
