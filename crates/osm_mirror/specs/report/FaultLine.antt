-- The line that the program prints of a fault: an own rule of this project.
use Rattle.std.specs.Prelude.{ℕ, List, ◌++◌, codes, decimal, slice_index_or}
use Rattle.opl_line.specs.declared.reason.OplReason.TheVariants as opl
use Rattle.o5_codec.specs.declared.reason.O5Reason.TheVariants as o5
use Rattle.osm_files.specs.declared.fault.Fault.{Fault}
use Rattle.osm_files.specs.declared.reason.Reason.{Reason}
use Rattle.osm_files.specs.declared.reason.Reason.TheVariants.{Opl, O5, Memory}
use Rattle.osm_files.specs.Reason.{reason_name}

-- the line of a reason at an offset of the file with this name; out of memory names no file
abbrev pub reason_line : List ℕ → ℕ → Reason → List ℕ
reason_line name offset Memory = codes "out of memory"
reason_line name offset (Opl opl.Memory) = codes "out of memory"
reason_line name offset (O5 o5.Memory) = codes "out of memory"
reason_line name offset reason = name ++ codes ": " ++ decimal offset ++ codes ": " ++ reason_name reason

-- the line of a fault: its name is that of the input with the fault's number, or of the output if there is no such
-- input
abbrev pub fault_line : Fault → List (List ℕ) → List ℕ → List ℕ
fault_line fault inputs out = reason_line (slice_index_or inputs fault.input out) fault.place fault.reason
