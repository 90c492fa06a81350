-- Laws of writing: the bytes are read back as the versions that were written.
use Rattle.std.specs.Prelude.{◌≡◌, ◌<◌, ◌≤◌, ◌^◌, ℕ, Bool, true, false, List, [], ◌∷◌, ◌++◌, length, All}
use Rattle.osm_model.specs.Data.{VersionData, kind_of}
use Rattle.osm_model.specs.Valid.{IsVersion}
use Rattle.o5_codec.specs.declared.read.segment.Segment.{Segment}
use Rattle.o5_codec.specs.declared.read.segment.ListsSeen.{ListsSeen}
use Rattle.o5_codec.specs.declared.read.segment.ListsSeen.TheVariants.{Neither}
use Rattle.o5_codec.specs.Decoder.{new_segment}
use Rattle.o5_codec.specs.Spelling.{SectionAtFront, SpellsSet}
use Rattle.o5_codec.specs.Number.{SpellsNumber}
use Rattle.o5_codec.specs.Shortest.{shortest_number}
use Rattle.o5_codec.specs.Writing.{content_spelling}
use Rattle.o5_codec.specs.Agreement.{reader_segment, IsEncoderSegment, MayHaveSeen}
use Rattle.o5_codec.specs.Encoder.{WriterState, initial_writer, type_byte, begins_segment, reset_before, segment_before}
use Rattle.o5_codec.specs.Encoder.{spelled_set, writer_after}

-- no fewer bytes spell the number
abbrev pub WrittenNumbersAreShortest : Type 0
WrittenNumbersAreShortest = (n : ℕ) → n < 2 ^ 64 →
    SpellsNumber (shortest_number n) n ×
    ((bytes : List ℕ) → All (λ b. b < 256) bytes → SpellsNumber bytes n →
    length (shortest_number n) ≤ length bytes)

-- the segment that a data set is read in: a new one after a reset
abbrev pub segment_for : Bool → Segment → Segment
segment_for true s = new_segment
segment_for false s = s

-- the segment of a reader after the bytes written, if the segment had the lists `seen`
abbrev pub segment_after : WriterState → ListsSeen → Segment
segment_after w seen = reader_segment w.segment seen

-- the possible states of an encoder and its reader
pub record AreInStep (w : WriterState) (seen : ListsSeen) : Type 0 where
  pub segment : IsEncoderSegment w.segment
  pub lists : MayHaveSeen w.last seen

-- the content of the data set of a version
abbrev pub content_after : WriterState → VersionData → List ℕ
content_after w v = (content_spelling v (segment_before w v)).0

-- the bytes written for a version are read as the version, and encoder and reader continue with equal contexts
pub record IsReadNext (w : WriterState) (seen : ListsSeen) (v : VersionData) : Type 0 where
  pub after : ListsSeen
  pub spells : SpellsSet (kind_of v.body) (segment_for (begins_segment w.last (kind_of v.body)) (segment_after w seen))
      (content_after w v) (v, segment_after (writer_after w v) after)
  pub in_step : AreInStep (writer_after w v) after

abbrev pub WrittenSetsAreRead : Type 0
WrittenSetsAreRead =
    AreInStep initial_writer Neither ×
    ((w : WriterState) (seen : ListsSeen) (v : VersionData) → AreInStep w seen → IsVersion v →
    length (spelled_set w v) < 2 ^ 64 → IsReadNext w seen v)

-- the bytes are data sets in sequence, some of them after a reset, that spell the versions
abbrev pub SetsInAll : Segment → List ℕ → List VersionData → Type 0
SetsInAll s bytes [] = bytes ≡ []
SetsInAll s bytes (v ∷ versions) =
    (begins : Bool) × (set : List ℕ) × (x : List ℕ × List ℕ) × (after : Segment) ×
    (bytes ≡ reset_before begins ++ type_byte (kind_of v.body) ∷ set) × SectionAtFront set x ×
    SpellsSet (kind_of v.body) (segment_for begins s) x.0 (v, after) × SetsInAll after x.1 versions

-- the bytes written for versions in sequence
abbrev pub spelled_sets : WriterState → List VersionData → List ℕ
spelled_sets w [] = []
spelled_sets w (v ∷ versions) = spelled_set w v ++ spelled_sets (writer_after w v) versions

-- the bytes written for a list of versions spell that list and no other
abbrev pub WrittenListsAreRead : Type 0
WrittenListsAreRead =
    (versions : List VersionData) → All IsVersion versions → length (spelled_sets initial_writer versions) < 2 ^ 64 →
    SetsInAll new_segment (spelled_sets initial_writer versions) versions ×
    ((others : List VersionData) → SetsInAll new_segment (spelled_sets initial_writer versions) others →
    others ≡ versions)
