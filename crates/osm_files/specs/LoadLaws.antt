-- Laws of inputs and of the reasons of verdicts. An input that ends has the verdict of its bytes, and so has an input
-- that fails after a whole faulty unit.
use Rattle.std.specs.Prelude.{◌≡◌, ◌⊎◌, ℕ, ◌<◌, ◌≤◌, ◌^◌, Bool, true, false, List, length, Some, None, option_map}
use Rattle.osm_model.specs.VersionSet.{VersionSet}
use Rattle.osm_files.specs.declared.format.Format.{Format}
use Rattle.opl_line.specs.declared.reason.OplReason.TheVariants as opl
use Rattle.o5_codec.specs.declared.reason.O5Reason.TheVariants as o5
use Rattle.osm_files.specs.declared.reason.Reason.{Reason}
use Rattle.osm_files.specs.declared.reason.Reason.TheVariants.{Opl, O5, BadHeader, Unsorted, NoEnd, AfterEnd, TooLong}
use Rattle.osm_files.specs.declared.reason.Reason.TheVariants.{ReadFault, WriteFault, Memory, Failed}
use Rattle.osm_files.specs.Input.{whole_input, failed_after}
use Rattle.osm_files.specs.Stream.{Verdict, verdict_at}
use Rattle.osm_files.specs.Units.{units, start_of}
use Rattle.osm_files.specs.Verdict.{file_units, verdict, verdict_sorted}
use Rattle.osm_files.specs.Spell.{spell}
use Rattle.osm_files.specs.Load.{format_of}
use Rattle.osm_files.specs.Position.{units_from, fault_of, with_input}

-- for an input that ends, the units are those of its bytes, and the refusal is their verdict
abbrev pub InputsAreFiles : Type 0
InputsAreFiles = (input : ℕ) (bytes : List ℕ) →
    (units_from None 0 (whole_input bytes) ≡ file_units bytes)
    × ((with_input input (units_from None 0 (whole_input bytes))).refusal ≡ option_map (fault_of input) (verdict bytes))

-- `v` is the first whole faulty unit in these bytes: the refusal is `v`, whatever closes the bytes after the whole
-- units
abbrev pub IsFaultyWhole : List ℕ → Verdict → Type 0
IsFaultyWhole bytes v = (close : Verdict) → (units (Some close) (start_of bytes) 0 bytes).refusal ≡ Some v

-- no whole unit in these bytes is faulty: the refusal is the verdict that closes them
abbrev pub NoneFaultyWhole : List ℕ → Type 0
NoneFaultyWhole bytes = (close : Verdict) → (units (Some close) (start_of bytes) 0 bytes).refusal ≡ Some close

-- An input that is refused at its end, for an error or a missing end, is refused with the verdict of the bytes if they
-- are 2^62 or more, or if they have a whole faulty unit. Otherwise the refusal is that of its end, at the number of its
-- bytes.
abbrev pub FailedInputsAreRefused : Type 0
FailedInputsAreRefused = (reason : Reason) (bytes : List ℕ) →
    (2 ^ 62 ≤ length bytes × ((units_from None 0 (failed_after reason bytes)).refusal ≡ verdict bytes))
    ⊎ ((v : Verdict) × length bytes < 2 ^ 62 × IsFaultyWhole bytes v × (verdict bytes ≡ Some v)
    × ((units_from None 0 (failed_after reason bytes)).refusal ≡ Some v))
    ⊎ (length bytes < 2 ^ 62 × NoneFaultyWhole bytes
    × ((units_from None 0 (failed_after reason bytes)).refusal ≡ Some (verdict_at (length bytes) reason)))

-- can a verdict have this reason, without regard to order? Memory, Failed, ReadFault and WriteFault are reasons of no
-- verdict
abbrev pub is_verdict_reason : Reason → Bool
is_verdict_reason (Opl opl.Memory) = false
is_verdict_reason (Opl reason) = true
is_verdict_reason (O5 o5.Memory) = false
is_verdict_reason (O5 o5.Failed) = false
is_verdict_reason (O5 reason) = true
is_verdict_reason BadHeader = true
is_verdict_reason Unsorted = false
is_verdict_reason NoEnd = true
is_verdict_reason AfterEnd = true
is_verdict_reason TooLong = true
is_verdict_reason ReadFault = false
is_verdict_reason WriteFault = false
is_verdict_reason Memory = false
is_verdict_reason Failed = false

-- a verdict has such a reason; a verdict on order has such a reason or Unsorted
abbrev pub ReasonsOfVerdicts : Type 0
ReasonsOfVerdicts = (bytes : List ℕ) (v : Verdict) →
    (verdict bytes ≡ Some v → is_verdict_reason v.reason ≡ true)
    × (verdict_sorted bytes ≡ Some v → (v.reason ≡ Unsorted) ⊎ (is_verdict_reason v.reason ≡ true))

-- the file that is written in a format determines that format
abbrev pub WrittenFilesDetermineTheirFormat : Type 0
WrittenFilesDetermineTheirFormat = (format : Format) (set : VersionSet) → format_of (spell format set) ≡ format
