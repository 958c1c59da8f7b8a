use Rattle.std.proofs.Common.{refl}
use Rattle.any_value.proofs.Elements.{item_text, items_text_is}
use Rattle.any_value.proofs.ListLengths.{keeps_one_more}
use Rattle.any_value.proofs.value.Values.add.Goals as goal

pub invariant_of-self-2 : goal.invariant_of-self-2
invariant_of-self-2 c =
    keeps_one_more item_text c.self.inside.inner.items c.push.new.self.items c.args.element _ _ c.self.inside.bytes c.in_ok-item_len.field-0 c.in_ok-bytes.bytes (items_text_is c.self.inside.inner.items _ refl) (items_text_is c.push.new.self.items _ refl)
    c.in_ok-push.ensures.items c.self.invariant c.in_ok-item_len.ensures c.in_ok-bytes.ensures
