-- What the code's fields, reasons and faults are to the definitions of `schema`.
use Rattle.schema.specs.Field as wire
use Rattle.schema.specs.Fault as faults
use Rattle.pb_wire.specs.declared.fault.Reason.{Reason}
use Rattle.pb_wire.specs.declared.fault.Reason.TheVariants as reasons
use Rattle.pb_wire.specs.declared.fault.WireFault.{WireFault}
use Rattle.pb_wire.specs.declared.field.Payload.{Payload}
use Rattle.pb_wire.specs.declared.field.Payload.TheVariants as payloads
use Rattle.pb_wire.specs.declared.field.Field.{Field}
use Rattle.pb_wire.specs.declared.next.Front.{Front}

abbrev pub payload_view : Payload → wire.Payload
payload_view (payloads.Varint n) = wire.Varint n
payload_view (payloads.Fixed64 b) = wire.Eight b
payload_view (payloads.Bytes b) = wire.Long b.now
payload_view (payloads.Fixed32 b) = wire.Four b

abbrev pub field_view : Field → wire.Field
field_view f = record { number = f.number; payload = payload_view f.payload }

abbrev pub front_view : Front → wire.Field
front_view f = record { number = f.number; payload = payload_view f.payload }

abbrev pub reason_view : Reason → faults.Reason
reason_view reasons.Truncated = faults.Truncated
reason_view reasons.VarintLong = faults.VarintLong
reason_view reasons.FieldNumber = faults.FieldNumber
reason_view reasons.WireType = faults.WireType
reason_view reasons.NotUtf8 = faults.NotUtf8
reason_view reasons.PackedLength = faults.PackedLength
reason_view reasons.TooDeep = faults.TooDeep

abbrev pub fault_view : WireFault → faults.Fault
fault_view f = faults.fault_at f.place (reason_view f.reason)
