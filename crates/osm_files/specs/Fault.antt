-- Faults that more than one call may return: an own rule of this project.
use Rattle.std.specs.Prelude.{ℕ, ◌^◌}
use Rattle.osm_files.specs.declared.fault.Fault.{Fault}
use Rattle.osm_files.specs.declared.reason.Reason.{Reason}
use Rattle.osm_files.specs.declared.reason.Reason.TheVariants.{Memory, Failed, TooLong, WriteFault}

-- the fault of a call that ran out of memory, which has no file and no offset
abbrev pub memory_fault : Fault
memory_fault = record { input = 0; place = 0; reason = Memory }

-- the fault of a call after an earlier call on the file `input` was refused
abbrev pub failed_fault : ℕ → Fault
failed_fault input = record { input = input; place = 0; reason = Failed }

-- the fault of a file that has 2^62 bytes or more
abbrev pub too_long_fault : ℕ → Fault
too_long_fault input = record { input = input; place = 2 ^ 62; reason = TooLong }

-- the fault of an output whose writer failed after it had taken `place` bytes
abbrev pub write_fault : ℕ → ℕ → Fault
write_fault input place = record { input = input; place = place; reason = WriteFault }

-- the fault for a reason at an offset of a file; out of memory has no file and no offset
abbrev pub fault_at : ℕ → ℕ → Reason → Fault
fault_at input place Memory = memory_fault
fault_at input place reason = record { input = input; place = place; reason = reason }
