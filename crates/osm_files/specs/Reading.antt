-- The results of calls that read the unit at the front of some bytes.
use Rattle.std.specs.Prelude.{◌≡◌, ◌⊎◌, ◌==◌, ℕ, Bool, false, List, [], ◌∷◌, Option, Some, None, Result, Ok, Err}
use Rattle.osm_model.specs.declared.kind.Kind.{Kind}
use Rattle.osm_model.specs.Data.{VersionData}
use Rattle.o5_codec.specs.declared.read.segment.Segment.{Segment}
use Rattle.o5_codec.specs.Decoder.{DecoderState}
use Rattle.osm_files.specs.declared.reason.Reason.{Reason}
use Rattle.osm_files.specs.declared.reason.Reason.TheVariants.{Memory}
use Rattle.osm_files.specs.declared.unit.ReadUnit.{ReadUnit}
use Rattle.osm_files.specs.declared.unit.FileState.{FileState}
use Rattle.osm_files.specs.declared.unit.FileState.TheVariants.{Lines, Header, DataSets, End}
use Rattle.osm_files.specs.Units.{FileStateData, InOpl, BeforeHeader, InSegment, PastEnd, UnitResult, FileUnit, unit}
use Rattle.osm_files.specs.Units.{content_found}
use Rattle.osm_files.specs.O5.{end_byte}

-- the stage of a reading, without its reader or decoder
abbrev pub state_data_of : FileState → FileStateData
state_data_of (Lines lines) = InOpl
state_data_of Header = BeforeHeader
state_data_of (DataSets decoder) = InSegment decoder.segment
state_data_of End = PastEnd

-- no data set was refused before
abbrev pub IsGoodState : FileState → Type 0
IsGoodState (Lines lines) = Unit {0}
IsGoodState Header = Unit {0}
IsGoodState (DataSets decoder) = decoder.failed ≡ false
IsGoodState End = Unit {0}

-- the result is the unit that was found, and the stage of the reading is the one after it; or it is out of memory
abbrev pub Finds : Option FileUnit → Result (Option ReadUnit) Reason → FileStateData → Type 0
Finds found (Ok None) next = found ≡ None
Finds found (Ok (Some u)) next = found ≡ Some (unit u.size (Ok (u.version, next)))
Finds found (Err reason) next = (reason ≡ Memory) ⊎ ((size : ℕ) × (found ≡ Some (unit size (Err reason))))

-- the end byte is at the front
abbrev pub ends_at : List ℕ → Bool
ends_at [] = false
ends_at (b ∷ bytes) = b == end_byte

-- the result is the version that the content is found to be, and the decoder is good and in the state after it; or it
-- is out of memory
abbrev pub FindsContent : Segment → Option Kind → List ℕ → DecoderState → Result (Option VersionData) Reason → Type 0
FindsContent s k content after (Ok version) = (content_found s k content ≡ Ok (version, InSegment after.segment))
    × (after.failed ≡ false)
FindsContent s k content after (Err reason) = (reason ≡ Memory) ⊎ (content_found s k content ≡ Err reason)

-- the result of reading a unit, without the stage after it
abbrev pub version_of_unit : UnitResult → Result (Option VersionData) Reason
version_of_unit (Ok found) = Ok found.0
version_of_unit (Err reason) = Err reason

-- the result is the version that the last bytes are found to be; or it is out of memory
abbrev pub FindsLast : UnitResult → Result (Option VersionData) Reason → Type 0
FindsLast found (Ok read) = version_of_unit found ≡ Ok read
FindsLast found (Err reason) = (reason ≡ Memory) ⊎ (version_of_unit found ≡ Err reason)
