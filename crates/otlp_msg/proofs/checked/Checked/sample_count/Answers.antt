use Rattle.std.proofs.Common.{◌≡◌, sym, ap, ◌∙◌, arith}
use Rattle.otlp_msg.specs.Checked.{value_of}
use Rattle.otlp_msg.specs.Counts.{resources_samples}
use Rattle.otlp_msg.specs.Message.{samples_of}
use Rattle.otlp_msg.proofs.Amounts.{resources_sampled, samples_few}
use Rattle.otlp_msg.proofs.checked.Checked.sample_count.Goals as goal
use Rattle.otlp_msg.proofs.checked.Checked.sample_count.Goals.{After-as_slice}

-- the records that are counted are those of the message
same : (c : After-as_slice) → resources_samples c.as_slice.result.now ≡ samples_of (value_of c.args.self.now)
same c =
    ap resources_samples c.as_slice.ensures
    ∙ sym (resources_sampled c.message.result.now.records)
    ∙ ap samples_of c.message.ensures.value

pub samples_in_resources-requires : goal.samples_in_resources-requires
samples_in_resources-requires c = omega (arith, same c, samples_few (value_of c.args.self.now), c.message.ensures.short)

pub returns : goal.returns
returns c = c.samples_in_resources.ensures ∙ ap resources_samples c.as_slice.ensures ∙ sym (resources_sampled c.message.result.now.records) ∙ ap samples_of c.message.ensures.value
