use Rattle.std.proofs.Common.{◌≡◌, ◌<◌, ◌^◌, ◌++◌, take}
use Rattle.schema.specs.Each.{Each}
use Rattle.schema.specs.Texts.{fixed_text}
use Rattle.schema.specs.Prefix.{IsPrefix}
use Rattle.pb_wire.proofs.put_rows.push_eights.Given as goal

-- the bytes of the numbers so far follow what was there, and the numbers have 64 bits
abbrev pub invariant-loop-item : goal.invariant-loop-item
invariant-loop-item l = (l.out ≡ l.initial.out ++ fixed_text (take l.item-index l.items)) × IsPrefix l.initial.out l.out × Each (λ x. x < 2 ^ 64) (take l.item-index l.items)
