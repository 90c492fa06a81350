-- The units of a file, lines or data sets, in sequence from the left, up to the first that is faulty.
use Rattle.std.specs.Prelude.{ℕ, zero, suc, ◌+◌, ◌-◌, ◌==◌, ◌||◌, nat_le, nat_lt, bytes_eq, Bool, List, [], ◌∷◌, length}
use Rattle.std.specs.Prelude.{take, drop, Option, Some, None, Result, Ok, Err, if◌then◌else◌}
use Rattle.std.specs.List.{list_any}
use Rattle.osm_model.specs.declared.kind.Kind.{Kind}
use Rattle.osm_model.specs.Data.{VersionData}
use Rattle.opl_line.specs.Delimiter.{is_line_end, split_first}
use Rattle.opl_line.specs.Reading.{reading_line}
use Rattle.opl_line.specs.declared.reason.OplReason.{OplReason}
use Rattle.o5_codec.specs.declared.reason.O5Reason.{O5Reason}
use Rattle.o5_codec.specs.declared.reason.O5Reason.TheVariants as o5
use Rattle.o5_codec.specs.declared.read.segment.Segment.{Segment}
use Rattle.o5_codec.specs.Number.{number_at}
use Rattle.o5_codec.specs.Body.{set_at}
use Rattle.o5_codec.specs.Decoder.{new_segment}
use Rattle.osm_files.specs.declared.reason.Reason.{Reason}
use Rattle.osm_files.specs.declared.reason.Reason.TheVariants.{BadHeader, NoEnd, AfterEnd, O5}
use Rattle.osm_files.specs.Reason.{of_line, of_data_set}
use Rattle.osm_files.specs.O5.{o5m_header, o5c_header, end_byte, reset_byte, kind_of_type, is_lone}
use Rattle.osm_files.specs.Stream.{Verdict, verdict_at, Placed, new_placed, SourceRest, end_whole, end_refused, front}

-- the stage of a reading: in an OPL file; in an o5 file before its header, in a segment, or after the end byte
pub data FileStateData : Type 0 where
  InOpl : FileStateData
  BeforeHeader : FileStateData
  InSegment : Segment → FileStateData
  PastEnd : FileStateData

-- the result of reading a unit: a version or nothing, and the stage after it; or a refusal
abbrev pub UnitResult : Type 0
UnitResult = Result (Option VersionData × FileStateData) Reason

-- a whole unit at the front of the bytes, of `size` bytes
pub record FileUnit : Type 0 where
  pub size : ℕ
  pub found : UnitResult

abbrev pub unit : ℕ → UnitResult → FileUnit
unit size found = record { size = size; found = found }

-- a unit that holds no version
abbrev pub no_version : FileStateData → UnitResult
no_version next = Ok (None, next)

-- the version of a line, if it isn't skipped
abbrev pub line_found : Result (Option VersionData) OplReason → UnitResult
line_found (Ok read) = Ok (read, InOpl)
line_found (Err reason) = Err (of_line reason)

-- the unit of a line, if the line has its end
abbrev pub line_unit : List ℕ × Option (List ℕ) → Option FileUnit
line_unit (line, None) = None
line_unit (line, Some rest) = Some (unit (length line + 1) (line_found (reading_line line)))

-- are these seven bytes the header of o5m or of o5c?
abbrev pub is_header : List ℕ → Bool
is_header bytes = bytes_eq bytes o5m_header || bytes_eq bytes o5c_header

-- the unit of the header, if all its bytes are there
abbrev pub header_unit : List ℕ → Option FileUnit
header_unit bytes =
    if nat_lt (length bytes) 7 then None
    else Some (unit 7 (if is_header (take 7 bytes) then no_version (InSegment new_segment) else Err BadHeader))

-- the version of an object's data set; any other data set is skipped
abbrev pub set_found : Result (VersionData × Segment) O5Reason → UnitResult
set_found (Ok read) = Ok (Some read.0, InSegment read.1)
set_found (Err reason) = Err (of_data_set reason)

-- the result of reading the content of a data set of this kind of object, or of no object
abbrev pub content_found : Segment → Option Kind → List ℕ → UnitResult
content_found s None content = no_version (InSegment s)
content_found s (Some k) content = set_found (set_at k s content)

-- a byte that ends a number
abbrev pub is_last : ℕ → Bool
is_last b = nat_lt b 128

-- does the number at the front end in these bytes, or have too many bytes to be a number?
abbrev pub is_ended : List ℕ → Bool
is_ended bytes = nat_lt 10 (length bytes) || list_any is_last bytes

-- the length of a data set, and the bytes after the length; none if the length isn't ended in these bytes
abbrev pub length_at : List ℕ → Option (Result (ℕ × List ℕ) O5Reason)
length_at bytes = if is_ended bytes then Some (number_at bytes) else None

-- the unit of a data set with the type byte `b`, if all its bytes are there; the last argument is the length that was
-- read
abbrev pub sized_unit : Segment → ℕ → List ℕ → Option (Result (ℕ × List ℕ) O5Reason) → Option FileUnit
sized_unit s b bytes None = None
sized_unit s b bytes (Some (Err reason)) = Some (unit 1 (Err (of_data_set reason)))
sized_unit s b bytes (Some (Ok (size, rest))) =
    if nat_le size (length rest) then Some (unit (1 + (length bytes - length rest) + size)
    (content_found s (kind_of_type b) (take size rest)))
    else None

-- the unit in a segment: the end byte, a reset, a lone byte or a data set
abbrev pub segment_unit : Segment → List ℕ → Option FileUnit
segment_unit s [] = None
segment_unit s (b ∷ bytes) =
    if b == end_byte then Some (unit 1 (no_version PastEnd))
    else (if b == reset_byte then Some (unit 1 (no_version (InSegment new_segment)))
    else (if is_lone b then Some (unit 1 (no_version (InSegment s))) else sized_unit s b bytes (length_at bytes)))

-- the unit after the end byte: any byte is faulty
abbrev pub unit_after_end : List ℕ → Option FileUnit
unit_after_end [] = None
unit_after_end (b ∷ bytes) = Some (unit 1 (Err AfterEnd))

-- the whole unit at the front of the bytes, if there is one
unfoldable pub unit_at : FileStateData → List ℕ → Option FileUnit
unit_at InOpl bytes = line_unit (split_first is_line_end bytes)
unit_at BeforeHeader bytes = header_unit bytes
unit_at (InSegment s) bytes = segment_unit s bytes
unit_at PastEnd bytes = unit_after_end bytes

-- why a file can't end with these bytes, among its data sets: one is cut, or the end byte is missing
abbrev pub cut_reason : List ℕ → Reason
cut_reason [] = NoEnd
cut_reason (b ∷ bytes) = O5 o5.Truncated

-- the result of reading the last bytes of a file, if no unit is whole: the last line may lack its end
unfoldable pub last_at : FileStateData → List ℕ → UnitResult
last_at InOpl bytes = line_found (reading_line bytes)
last_at BeforeHeader bytes = Err BadHeader
last_at (InSegment s) bytes = Err (cut_reason bytes)
last_at PastEnd bytes = no_version PastEnd

-- the rest from a unit on: its result, and then the units after it
abbrev pub found_then : ℕ → UnitResult → (FileStateData → SourceRest Placed Verdict) → SourceRest Placed Verdict
found_then offset (Err reason) more = end_refused (verdict_at offset reason)
found_then offset (Ok (None, next)) more = more next
found_then offset (Ok (Some v, next)) more = front (new_placed offset v) (more next)

-- the rest from the last bytes on: their result, or the verdict that closes the file
abbrev pub final_units : Option Verdict → ℕ → UnitResult → SourceRest Placed Verdict
final_units None offset last = found_then offset last (λ next. end_whole)
final_units (Some verdict) offset last = end_refused verdict

-- the rest from a whole unit on, or from the last bytes on if no unit is whole
abbrev pub unit_then : Option Verdict → FileStateData → ℕ → List ℕ →
    (FileStateData → ℕ → List ℕ → SourceRest Placed Verdict) →
    Option FileUnit → SourceRest Placed Verdict
unit_then close stage offset bytes more None = final_units close offset (last_at stage bytes)
unit_then close stage offset bytes more (Some u) =
    found_then offset u.found (λ next. more next (offset + u.size) (drop u.size bytes))

-- The units of these bytes, each of at least one byte, for a reading at the offset `offset` of a file. If no verdict
-- closes the file, the bytes are its last ones. If one does, only the whole units count. The first argument bounds the
-- number of units.
abbrev pub units_within : ℕ → Option Verdict → FileStateData → ℕ → List ℕ → SourceRest Placed Verdict
units_within zero close stage offset bytes = final_units close offset (last_at stage bytes)
units_within (suc most) close stage offset bytes =
    unit_then close stage offset bytes (units_within most close) (unit_at stage bytes)

-- the units of these bytes: there are no more units than bytes
unfoldable pub units : Option Verdict → FileStateData → ℕ → List ℕ → SourceRest Placed Verdict
units close stage offset bytes = units_within (length bytes) close stage offset bytes

-- a file whose first byte is ff is an o5 file, any other is an OPL file
abbrev pub start_of : List ℕ → FileStateData
start_of [] = InOpl
start_of (b ∷ bytes) = if b == reset_byte then BeforeHeader else InOpl
