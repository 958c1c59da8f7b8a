-- The refusal of a file that could not be read.
use Rattle.pb_wire.specs.declared.fault.ReadFault.{ReadFault}
use Rattle.pb_wire.specs.declared.fault.ReadFault.TheVariants as faults
use Rattle.otlp_msg.specs.declared.refusal.Refusal.{Refusal}
use Rattle.otlp_msg.specs.declared.refusal.Refusal.TheVariants.{Wire, NoMemory}

abbrev pub refusal_of : ReadFault → Refusal
refusal_of (faults.Wire f) = Wire f
refusal_of faults.NoMemory = NoMemory
