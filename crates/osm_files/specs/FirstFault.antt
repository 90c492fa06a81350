-- The first faulty unit of the bytes of an input, in terms of the grammars (the Osmium OPL file format manual and the
-- OSM wiki's page on o5m). That the leftmost faulty unit decides is an own rule of this project.
use Rattle.std.specs.Prelude.{◌≡◌, ◌⊎◌, ◌<◌, ℕ, ◌+◌, ◌==◌, true, false, List, [], ◌∷◌, ◌++◌, length, Option, Some, None}
use Rattle.std.specs.Prelude.{option_to_list}
use Rattle.std.specs.List.Sorted.{IsSorted}
use Rattle.osm_model.specs.declared.kind.Kind.{Kind}
use Rattle.osm_model.specs.Data.{VersionData}
use Rattle.osm_model.specs.Order.{key_cmp}
use Rattle.opl_line.specs.declared.reason.OplReason.{OplReason}
use Rattle.opl_line.specs.Delimiter.{is_line_end, split_first}
use Rattle.opl_line.specs.LineReason.{LineReason}
use Rattle.opl_line.specs.Reading.{is_skipped}
use Rattle.opl_line.specs.Spells.{Spells}
use Rattle.o5_codec.specs.declared.reason.O5Reason.{O5Reason}
use Rattle.o5_codec.specs.declared.reason.O5Reason.TheVariants as o5
use Rattle.o5_codec.specs.declared.read.segment.Segment.{Segment}
use Rattle.o5_codec.specs.Decoder.{new_segment}
use Rattle.o5_codec.specs.Number.{SpellsNumber}
use Rattle.o5_codec.specs.Refusal.{SetReason, Nothing}
use Rattle.o5_codec.specs.Spelling.{NumberAtFront, SpellsSet}
use Rattle.osm_files.specs.declared.reason.Reason.{Reason}
use Rattle.osm_files.specs.declared.reason.Reason.TheVariants.{BadHeader, NoEnd, AfterEnd, Unsorted, O5}
use Rattle.osm_files.specs.Input.{InputRest}
use Rattle.osm_files.specs.O5.{o5m_header, o5c_header, end_byte, reset_byte, type_byte, is_lone, IsOtherType}
use Rattle.osm_files.specs.Position.{closing_verdict, fault_of, window}
use Rattle.osm_files.specs.Reason.{of_line, of_data_set}
use Rattle.osm_files.specs.Stream.{SourceRest, Verdict, verdict_at}
use Rattle.osm_files.specs.Units.{FileStateData, InOpl, BeforeHeader, InSegment, PastEnd, is_ended, start_of}
use Rattle.osm_files.specs.Verdict.{is_below_last}
use Rattle.osm_model.specs.VersionSet.{VersionSet}
use Rattle.osm_files.specs.declared.fault.Fault.{Fault}
use Rattle.osm_files.specs.Groups.{set_given, sorted_source, to_ascending}
use Rattle.osm_files.specs.Held.{HoldsSorted}
use Rattle.osm_files.specs.SourceLaws.{groups_before_last}

-- the header of o5m or of o5c
abbrev pub IsHeader : List ℕ → Type 0
IsHeader bytes = (bytes ≡ o5m_header) ⊎ (bytes ≡ o5c_header)

-- the type byte of a data set: any byte that isn't the end, a reset or a lone byte
abbrev pub IsSetType : ℕ → Type 0
IsSetType b = ((b == end_byte) ≡ false) × ((b == reset_byte) ≡ false) × (is_lone b ≡ false)

-- A whole unit is at the front of the bytes: a line with its end, a header, the end of an o5 file, a reset, a lone
-- byte, or a data set. With it come the version that it spells, if it spells one, the stage after it, and the bytes
-- after it.
pub data Passes : FileStateData → List ℕ → Option VersionData → FileStateData → List ℕ → Type 0 where
  passes_skipped : (bytes line rest : List ℕ) → split_first is_line_end bytes ≡ (line, Some rest) →
      is_skipped line ≡ true → Passes InOpl bytes None InOpl rest
  passes_line : (bytes line rest : List ℕ) (v : VersionData) → split_first is_line_end bytes ≡ (line, Some rest) →
      Spells line v → Passes InOpl bytes (Some v) InOpl rest
  passes_header : (header rest : List ℕ) → IsHeader header →
      Passes BeforeHeader (header ++ rest) None (InSegment new_segment) rest
  passes_end : (s : Segment) (rest : List ℕ) → Passes (InSegment s) (end_byte ∷ rest) None PastEnd rest
  passes_reset : (s : Segment) (rest : List ℕ) →
      Passes (InSegment s) (reset_byte ∷ rest) None (InSegment new_segment) rest
  passes_lone : (s : Segment) (b : ℕ) (rest : List ℕ) → is_lone b ≡ true →
      Passes (InSegment s) (b ∷ rest) None (InSegment s) rest
  passes_other : (s : Segment) (b : ℕ) (size content rest : List ℕ) → IsOtherType b →
      SpellsNumber size (length content) → Passes (InSegment s) (b ∷ size ++ (content ++ rest)) None (InSegment s) rest
  passes_object : (s next : Segment) (k : Kind) (size content rest : List ℕ) (v : VersionData) →
      SpellsNumber size (length content) → SpellsSet k s content (v, next) →
      Passes (InSegment s) (type_byte k ∷ size ++ (content ++ rest)) (Some v) (InSegment next) rest

-- whole units are at the front of the bytes, which spell these versions; with them come the stage and the bytes after
-- them
pub data Leads : FileStateData → List ℕ → List VersionData → FileStateData → List ℕ → Type 0 where
  none : (stage : FileStateData) (bytes : List ℕ) → Leads stage bytes [] stage bytes
  more : (stage next last : FileStateData) (bytes rest end : List ℕ) (found : Option VersionData)
      (versions : List VersionData) → Passes stage bytes found next rest → Leads next rest versions last end →
      Leads stage bytes (option_to_list found ++ versions) last end

-- a whole unit at the front of the bytes is faulty: a line, the first seven bytes of an o5 file, the length or the
-- content of a data set, or any byte after the end of an o5 file
pub data IsFaulty : FileStateData → List ℕ → Reason → Type 0 where
  faulty_line : (bytes line rest : List ℕ) (reason : OplReason) → split_first is_line_end bytes ≡ (line, Some rest) →
      LineReason line reason → IsFaulty InOpl bytes (of_line reason)
  faulty_header : (header rest : List ℕ) → length header ≡ 7 → (IsHeader header → ⊥) →
      IsFaulty BeforeHeader (header ++ rest) BadHeader
  faulty_length : (s : Segment) (b : ℕ) (bytes : List ℕ) → IsSetType b → is_ended bytes ≡ true →
      Nothing (NumberAtFront bytes) → IsFaulty (InSegment s) (b ∷ bytes) (O5 o5.BadNumber)
  faulty_content : (s : Segment) (k : Kind) (size content rest : List ℕ) (reason : O5Reason) →
      SpellsNumber size (length content) → SetReason k s content reason →
      IsFaulty (InSegment s) (type_byte k ∷ size ++ (content ++ rest)) (of_data_set reason)
  after_end : (b : ℕ) (bytes : List ℕ) → IsFaulty PastEnd (b ∷ bytes) AfterEnd

-- the bytes are fewer than those of a whole unit
pub data IsPart : FileStateData → List ℕ → Type 0 where
  part_of_line : (bytes : List ℕ) → split_first is_line_end bytes ≡ (bytes, None) → IsPart InOpl bytes
  part_of_header : (bytes : List ℕ) → length bytes < 7 → IsPart BeforeHeader bytes
  no_bytes : (s : Segment) → IsPart (InSegment s) []
  part_of_length : (s : Segment) (b : ℕ) (bytes : List ℕ) → IsSetType b → is_ended bytes ≡ false →
      IsPart (InSegment s) (b ∷ bytes)
  part_of_content : (s : Segment) (b n : ℕ) (size content : List ℕ) → IsSetType b → SpellsNumber size n →
      length content < n → IsPart (InSegment s) (b ∷ size ++ content)
  past_end : IsPart PastEnd []

-- a file can't end with these bytes, which are fewer than those of a whole unit: the last line, which lacks its end, is
-- faulty; or an o5 file ends before its end byte
pub data CannotEnd : FileStateData → List ℕ → Reason → Type 0 where
  last_line : (bytes : List ℕ) (reason : OplReason) → LineReason bytes reason → CannotEnd InOpl bytes (of_line reason)
  no_header : (bytes : List ℕ) → CannotEnd BeforeHeader bytes BadHeader
  no_end : (s : Segment) → CannotEnd (InSegment s) [] NoEnd
  truncated : (s : Segment) (b : ℕ) (bytes : List ℕ) → CannotEnd (InSegment s) (b ∷ bytes) (O5 o5.Truncated)

-- the unit at the front of the bytes spells this version; at the end of a file it may be a line that lacks its end
pub data IsNext : Option Verdict → FileStateData → List ℕ → VersionData → Type 0 where
  whole_unit : (close : Option Verdict) (stage next : FileStateData) (bytes rest : List ℕ) (v : VersionData) →
      Passes stage bytes (Some v) next rest → IsNext close stage bytes v
  line_without_end : (bytes : List ℕ) (v : VersionData) → IsPart InOpl bytes → Spells bytes v →
      IsNext None InOpl bytes v

-- Why a reading stops at the offset `offset`, with these bytes left, after these versions: the unit there is faulty; or
-- its version has a key below that of the last version; or the bytes are fewer than those of a whole unit, and they
-- can't end the file, or the verdict that closes it follows them.
abbrev pub StopsAt : Option Verdict → List VersionData → FileStateData → List ℕ → ℕ → Verdict → Type 0
StopsAt close versions stage rest offset v =
    (IsFaulty stage rest v.reason × (v.place ≡ offset))
    ⊎ ((w : VersionData) × IsNext close stage rest w × (is_below_last w versions ≡ true)
    × (v ≡ verdict_at offset Unsorted))
    ⊎ (IsPart stage rest × (((close ≡ None) × CannotEnd stage rest v.reason × (v.place ≡ offset)) ⊎ (close ≡ Some v)))

-- The first fault of an input: after units that spell these versions, whose keys don't fall, the reading stops with
-- this verdict. An error after the bytes closes them, and so does their 2^62th byte.
pub record HasFirstFault (c : InputRest) (versions : List VersionData) (v : Verdict) : Type 0 where
  pub stage : FileStateData
  pub rest : List ℕ
  pub leads : Leads (start_of c.bytes) (window 0 c) versions stage rest
  pub sorted : IsSorted key_cmp versions
  pub offset : ℕ
  pub after : offset + length rest ≡ length (window 0 c)
  pub stops : StopsAt (closing_verdict 0 c) versions stage rest offset v

-- What a source of a sorted file gives of an input: the whole set of a sorted file, or the key groups before the last
-- one that began before the first fault, and then that fault.
abbrev pub IsGivenBy : ℕ → InputRest → SourceRest VersionData Fault → Type 0
IsGivenBy input c given =
    ((c.failure ≡ None) × ((held : VersionSet) × HoldsSorted c.bytes held × (given ≡ set_given held)))
    ⊎ ((versions : List VersionData) × (v : Verdict) × HasFirstFault c versions v
    × (given ≡ record { list = to_ascending (groups_before_last versions); refusal = Some (fault_of input v) }))

-- the source of a sorted file gives this of each input
abbrev pub SourcesGive : Type 0
SourcesGive = (input : ℕ) (c : InputRest) → IsGivenBy input c (sorted_source input c)
