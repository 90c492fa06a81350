-- The state of an encoder between two versions, and the bytes that it writes (the OSM wiki's page on o5m). The
-- positions of resets are an own rule of this project.
use Rattle.std.specs.Prelude.{◌≡◌, ◌≤◌, ℕ, Bool, true, false, not, ◌==◌, List, [], ◌∷◌, ◌++◌, length, if◌then◌else◌}
use Rattle.osm_model.specs.declared.kind.Kind.{Kind}
use Rattle.osm_model.specs.declared.kind.Kind.TheVariants as kind
use Rattle.osm_model.specs.Kind.{kind_order}
use Rattle.osm_model.specs.Data.{VersionData, kind_of}
use Rattle.o5_codec.specs.declared.fault.EncodeFault.{EncodeFault}
use Rattle.o5_codec.specs.declared.fault.EncodeFault.TheVariants.{Memory, Failed}
use Rattle.o5_codec.specs.Decoder.{no_bases}
use Rattle.o5_codec.specs.Shortest.{shortest_number}
use Rattle.o5_codec.specs.Writing.{EncoderSegment, content_spelling}

-- the context at the start of a segment
abbrev pub new_encoder_segment : EncoderSegment
new_encoder_segment = record { bases = no_bases; table = [] }

-- the kind of the version written last, and the context after it
pub record WriterState : Type 0 where
  pub last : Kind
  pub segment : EncoderSegment

-- the state after the header. The last kind is that of nodes, so a reset also comes before a way or a relation that is
-- the first version of a file.
abbrev pub initial_writer : WriterState
initial_writer = record { last = kind.Node; segment = new_encoder_segment }

abbrev pub type_byte : Kind → ℕ
type_byte kind.Node = 0x10
type_byte kind.Way = 0x11
type_byte kind.Relation = 0x12

-- whether a version of the kind `k` begins a segment after one of the kind `last`
abbrev pub begins_segment : Kind → Kind → Bool
begins_segment last k = not (kind_order last == kind_order k)

-- the reset before a data set, if there is one
abbrev pub reset_before : Bool → List ℕ
reset_before begins = if begins then 0xff ∷ [] else []

-- the context that a data set is written relative to
abbrev pub segment_to_use : Bool → EncoderSegment → EncoderSegment
segment_to_use begins segment = if begins then new_encoder_segment else segment

-- a data set: its type, its length, its content
abbrev pub data_set : Kind → List ℕ → List ℕ
data_set k content = type_byte k ∷ shortest_number (length content) ++ content

-- the context that a version is written relative to, after earlier ones
unfoldable pub segment_before : WriterState → VersionData → EncoderSegment
segment_before w v = segment_to_use (begins_segment w.last (kind_of v.body)) w.segment

-- the bytes of a version
unfoldable pub spelled_set : WriterState → VersionData → List ℕ
spelled_set w v =
    reset_before (begins_segment w.last (kind_of v.body)) ++
    data_set (kind_of v.body) (content_spelling v (segment_before w v)).0

-- the state after a version
unfoldable pub writer_after : WriterState → VersionData → WriterState
writer_after w v = record { last = kind_of v.body; segment = (content_spelling v (segment_before w v)).1 }

-- what was written, and whether an earlier call ran out of memory
pub record EncoderState : Type 0 where
  pub written : WriterState
  pub failed : Bool

abbrev pub writing_on : WriterState → EncoderState
writing_on w = record { written = w; failed = false }

-- a version was written after earlier ones
pub record Continues (v : VersionData) (old new : EncoderState) : Type 0 where
  pub going : old.failed ≡ false
  pub state : new ≡ writing_on (writer_after old.written v)

-- the fault of a call that fails: `Failed` if an earlier call has failed, else `Memory`
abbrev pub fault_after : Bool → EncodeFault
fault_after failed = if failed then Failed else Memory

-- the encoder has failed
pub record Stops (old new : EncoderState) (reason : EncodeFault) : Type 0 where
  pub failed : new.failed ≡ true
  pub fault : reason ≡ fault_after old.failed

-- unless the encoder has failed, the kind isn't below the kind of the version written last
abbrev pub IsNotBelow : Kind → EncoderState → Type 0
IsNotBelow k old = old.failed ≡ false → kind_order old.written.last ≤ kind_order k
