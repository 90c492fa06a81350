-- The names of the reasons for which a file is refused: an own rule of this project.
use Rattle.std.specs.Prelude.{ℕ, List, codes}
use Rattle.opl_line.specs.declared.reason.OplReason.{OplReason}
use Rattle.opl_line.specs.declared.reason.OplReason.TheVariants as opl
use Rattle.opl_line.specs.Reason.{opl_reason_name}
use Rattle.o5_codec.specs.declared.reason.O5Reason.{O5Reason}
use Rattle.o5_codec.specs.declared.reason.O5Reason.TheVariants as o5
use Rattle.o5_codec.specs.Reason.{o5_reason_name}
use Rattle.osm_files.specs.declared.reason.Reason.{Reason}
use Rattle.osm_files.specs.declared.reason.Reason.TheVariants.{Opl, O5, BadHeader, Unsorted, NoEnd, AfterEnd, TooLong}
use Rattle.osm_files.specs.declared.reason.Reason.TheVariants.{ReadFault, WriteFault, Memory, Failed}

-- the name of a reason; a line's or a data set's reason has the inner one's
abbrev pub reason_name : Reason → List ℕ
reason_name (Opl reason) = opl_reason_name reason
reason_name (O5 reason) = o5_reason_name reason
reason_name BadHeader = codes "BadHeader"
reason_name Unsorted = codes "Unsorted"
reason_name NoEnd = codes "NoEnd"
reason_name AfterEnd = codes "AfterEnd"
reason_name TooLong = codes "TooLong"
reason_name ReadFault = codes "ReadFault"
reason_name WriteFault = codes "WriteFault"
reason_name Memory = codes "Memory"
reason_name Failed = codes "Failed"

-- the reason of a line as the reason of its file; Memory is a reason of the file itself
abbrev pub of_line : OplReason → Reason
of_line opl.Memory = Memory
of_line reason = Opl reason

-- the reason of a data set as the reason of its file; Memory and Failed are reasons of the file itself
abbrev pub of_data_set : O5Reason → Reason
of_data_set o5.Memory = Memory
of_data_set o5.Failed = Failed
of_data_set reason = O5 reason
