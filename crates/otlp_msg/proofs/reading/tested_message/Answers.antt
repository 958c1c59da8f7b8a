use Rattle.std.proofs.Common.{sym, ◌∙◌, arith}
use Rattle.otlp_msg.specs.Views.{message_view}
use Rattle.otlp_msg.proofs.Acceptance.{accepted_back, bytes_of_slice, read_fit, read_over, read_places}
use Rattle.otlp_msg.proofs.reading.tested_message.Goals as goal

pub first_other_zero-requires-clause-fits : goal.first_other_zero-requires-clause-fits
first_other_zero-requires-clause-fits c =
    (read_fit c.args.body.now (message_view c.merge.new.self) (bytes_of_slice c.args.body.now (λ k. (c.type_inv.body k).fits)) (omega arith)
    (read_over (message_view c.none-message.result) (message_view c.merge.new.self) c.args.body.now c.none-message.ensures c.in_default.ensures)).2.0

pub first_other_zero-requires-clause-short : goal.first_other_zero-requires-clause-short
first_other_zero-requires-clause-short c =
    (read_places c.args.body.now (message_view c.merge.new.self) (bytes_of_slice c.args.body.now (λ k. (c.type_inv.body k).fits)) (omega arith)
    (read_over (message_view c.none-message.result) (message_view c.merge.new.self) c.args.body.now c.none-message.ensures c.in_default.ensures)).2.0

pub indexes_within-requires : goal.indexes_within-requires
indexes_within-requires c =
    read_places c.args.body.now (message_view c.merge.new.self) (bytes_of_slice c.args.body.now (λ k. (c.type_inv.body k).fits)) (omega arith)
    (read_over (message_view c.none-message.result) (message_view c.merge.new.self) c.args.body.now c.none-message.ensures c.in_default.ensures)

pub invariant_of-result-clause-octets : goal.invariant_of-result-clause-octets
invariant_of-result-clause-octets c = bytes_of_slice c.args.body.now (λ k. (c.type_inv.body k).fits)

pub invariant_of-result-clause-read : goal.invariant_of-result-clause-read
invariant_of-result-clause-read c =
    accepted_back c.args.body.now (message_view c.merge.new.self) (omega arith)
    (read_over (message_view c.none-message.result) (message_view c.merge.new.self) c.args.body.now c.none-message.ensures c.in_default.ensures)
    (sym c.first_other_zero.ensures ∙ c.in_default-first_other_zero.is, sym c.indexes_within.ensures ∙ c.in_default-indexes_within.is)
