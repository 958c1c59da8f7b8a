-- The texts of refusals.
use Rattle.std.specs.Prelude.{ℕ, List, ◌++◌, codes}
use Rattle.std.specs.Fmt.{decimal, signed_decimal}
use Rattle.pb_wire.specs.declared.fault.Reason.{Reason}
use Rattle.pb_wire.specs.declared.fault.Reason.TheVariants.{Truncated, VarintLong, FieldNumber, WireType, NotUtf8, PackedLength, TooDeep}
use Rattle.pb_wire.specs.declared.table_kind.TableKind.{TableKind}
use Rattle.pb_wire.specs.declared.table_kind.TableKind.TheVariants.{Mapping, Location, Function, Link, String, Attribute, Stack}
use Rattle.otlp_msg.specs.declared.path.Holder.{Holder}
use Rattle.otlp_msg.specs.declared.path.Holder.TheVariants as holder
use Rattle.otlp_msg.specs.declared.path.Path.{Path}
use Rattle.otlp_msg.specs.declared.path.ProfilePos.{ProfilePos}
use Rattle.otlp_msg.specs.declared.refusal.Refusal.{Refusal}
use Rattle.otlp_msg.specs.declared.refusal.Refusal.TheVariants.{Size, Wire, ZeroEntry, Dangling, NoMemory}

-- the name of a reason: its variant's
abbrev pub reason_name : Reason → List ℕ
reason_name Truncated = codes "Truncated"
reason_name VarintLong = codes "VarintLong"
reason_name FieldNumber = codes "FieldNumber"
reason_name WireType = codes "WireType"
reason_name NotUtf8 = codes "NotUtf8"
reason_name PackedLength = codes "PackedLength"
reason_name TooDeep = codes "TooDeep"

-- the name of a table
abbrev pub table_name : TableKind → List ℕ
table_name Mapping = codes "mapping"
table_name Location = codes "location"
table_name Function = codes "function"
table_name Link = codes "link"
table_name String = codes "string"
table_name Attribute = codes "attribute"
table_name Stack = codes "stack"

-- the place of a profile
abbrev pub pos_text : ProfilePos → List ℕ
pos_text pos = codes "profile " ++ (decimal pos.resource ++ (codes "/" ++ (decimal pos.scope ++ (codes "/" ++ decimal pos.profile))))

-- the name of a holder
abbrev pub holder_text : Holder → List ℕ
holder_text (holder.Mapping entry) = codes "mapping " ++ decimal entry
holder_text (holder.Location entry) = codes "location " ++ decimal entry
holder_text (holder.Line location line) = codes "line " ++ (decimal line ++ (codes " of location " ++ decimal location))
holder_text (holder.Function entry) = codes "function " ++ decimal entry
holder_text (holder.Attr entry) = codes "attribute " ++ decimal entry
holder_text (holder.Stack entry) = codes "stack " ++ decimal entry
holder_text (holder.SampleType pos) = pos_text pos ++ codes " sample type"
holder_text (holder.Sample pos sample) = pos_text pos ++ (codes " sample " ++ decimal sample)
holder_text (holder.PeriodType pos) = pos_text pos ++ codes " period type"
holder_text (holder.Profile pos) = pos_text pos

-- where an index is
abbrev pub path_text : Path → List ℕ
path_text path = holder_text path.holder ++ (codes " field " ++ (decimal path.field ++ (codes " item " ++ decimal path.item)))

-- the text of a refusal
abbrev pub refusal_text : Refusal → List ℕ
refusal_text (Size len) = codes "size: more than 33554432 bytes"
refusal_text (Wire fault) = codes "wire fault " ++ (reason_name fault.reason ++ (codes " at " ++ decimal fault.place))
refusal_text (ZeroEntry table) = codes "zero entry of " ++ (table_name table ++ codes " table is not zero")
refusal_text (Dangling table index len path) =
    codes "dangling " ++ (table_name table ++ (codes " index " ++ (signed_decimal index ++ (codes " of " ++ (decimal len ++ (codes " in " ++ path_text path))))))
refusal_text NoMemory = codes "no memory"
