use Rattle.std.proofs.Common.{refl}
use Rattle.any_value.proofs.Elements.{keyed_text, pairs_text_is}
use Rattle.any_value.proofs.ListLengths.{keeps_one_more}
use Rattle.any_value.proofs.value.KeyValues.add.Goals as goal

pub invariant_of-self-2 : goal.invariant_of-self-2
invariant_of-self-2 c =
    keeps_one_more keyed_text c.self.inside.inner.items c.push.new.self.items c.args.element _ _ c.self.inside.bytes c.in_ok-keyed_len.field-0 c.in_ok-bytes.bytes (pairs_text_is c.self.inside.inner.items _ refl) (pairs_text_is c.push.new.self.items _ refl)
    c.in_ok-push.ensures.items c.self.invariant c.in_ok-keyed_len.ensures c.in_ok-bytes.ensures
