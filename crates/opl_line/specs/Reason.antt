-- The names of the reasons for which a line is refused: an own rule of this project.
use Rattle.std.specs.Prelude.{ℕ, List, codes}
use Rattle.opl_line.specs.declared.reason.OplReason.{OplReason}
use Rattle.opl_line.specs.declared.reason.OplReason.TheVariants as opl

-- the name of a reason, which is that of its variant
abbrev pub opl_reason_name : OplReason → List ℕ
opl_reason_name opl.NotUtf8 = codes "NotUtf8"
opl_reason_name opl.UnknownKind = codes "UnknownKind"
opl_reason_name opl.UnknownField = codes "UnknownField"
opl_reason_name opl.RepeatedField = codes "RepeatedField"
opl_reason_name opl.BadNumber = codes "BadNumber"
opl_reason_name opl.OutOfRange = codes "OutOfRange"
opl_reason_name opl.BadTime = codes "BadTime"
opl_reason_name opl.BadCoordinate = codes "BadCoordinate"
opl_reason_name opl.BadText = codes "BadText"
opl_reason_name opl.BadList = codes "BadList"
opl_reason_name opl.NoVersion = codes "NoVersion"
opl_reason_name opl.NoTime = codes "NoTime"
opl_reason_name opl.NoLocation = codes "NoLocation"
opl_reason_name opl.Memory = codes "Memory"
