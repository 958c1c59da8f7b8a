use Rattle.std.proofs.Common.{◌≡◌, sym, ap, ◌∙◌, arith}
use Rattle.otlp_msg.specs.Checked.{value_of}
use Rattle.otlp_msg.specs.Counts.{resources_count}
use Rattle.otlp_msg.specs.Message.{profiles_of}
use Rattle.otlp_msg.proofs.Amounts.{resources_counted, profiles_few}
use Rattle.otlp_msg.proofs.checked.Checked.profile_count.Goals as goal
use Rattle.otlp_msg.proofs.checked.Checked.profile_count.Goals.{After-as_slice}

-- the records that are counted are those of the message
same : (c : After-as_slice) → resources_count c.as_slice.result.now ≡ profiles_of (value_of c.args.self.now)
same c =
    ap resources_count c.as_slice.ensures
    ∙ sym (resources_counted c.message.result.now.records)
    ∙ ap profiles_of c.message.ensures.value

pub profiles_in_resources-requires : goal.profiles_in_resources-requires
profiles_in_resources-requires c = omega (arith, same c, profiles_few (value_of c.args.self.now), c.message.ensures.short)

pub returns : goal.returns
returns c = c.profiles_in_resources.ensures ∙ ap resources_count c.as_slice.ensures ∙ sym (resources_counted c.message.result.now.records) ∙ ap profiles_of c.message.ensures.value
