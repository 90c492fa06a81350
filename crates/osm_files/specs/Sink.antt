-- The state of a sink between two calls, and the effect of a call: an own rule of this project.
use Rattle.std.specs.Prelude.{◌≡◌, ℕ, ◌+◌, ◌<◌, ◌≤◌, ◌^◌, ◌⊎◌, Bool, true, false, List, [], length, take}
use Rattle.std.specs.Prelude.{Result, Ok, Err, MatchBool}
use Rattle.osm_model.specs.Kind.{kind_order}
use Rattle.osm_model.specs.Data.{VersionData, kind_of}
use Rattle.o5_codec.specs.Encoder.{WriterState, initial_writer, new_encoder_segment}
use Rattle.osm_files.specs.declared.fault.Fault.{Fault}
use Rattle.osm_files.specs.declared.format.Format.{Format}
use Rattle.osm_files.specs.declared.format.Format.TheVariants.{Opl, O5m, O5c}
use Rattle.osm_files.specs.declared.sink.UnitWriter.{UnitWriter}
use Rattle.osm_files.specs.declared.sink.UnitWriter.TheVariants.{Lines, DataSets}
use Rattle.osm_files.specs.Fault.{memory_fault, failed_fault, too_long_fault, write_fault}
use Rattle.osm_files.specs.Output.{Change, Appends, StoppedWriting}
use Rattle.osm_files.specs.Spell.{writer_with, writer_with_all, open_file_bytes}

-- the state on which the bytes of the next version depend
abbrev pub state_of_unit_writer : UnitWriter → WriterState
state_of_unit_writer (Lines last) = record { last = last; segment = new_encoder_segment }
state_of_unit_writer (DataSets encoder) = encoder.written

-- the unit writer is one of the format, and has not failed
abbrev pub IsUnitWriterOf : Format → UnitWriter → Type 0
IsUnitWriterOf Opl (Lines last) = Unit {0}
IsUnitWriterOf O5m (DataSets encoder) = encoder.failed ≡ false
IsUnitWriterOf O5c (DataSets encoder) = encoder.failed ≡ false
IsUnitWriterOf Opl (DataSets encoder) = ⊥
IsUnitWriterOf O5m (Lines last) = ⊥
IsUnitWriterOf O5c (Lines last) = ⊥

-- no version was refused before
abbrev pub IsGoodUnitWriter : UnitWriter → Type 0
IsGoodUnitWriter (Lines last) = Unit {0}
IsGoodUnitWriter (DataSets encoder) = encoder.failed ≡ false

-- a sink between two calls: its format and number, the kind written last and the state of its encoder, the number of
-- bytes it has written, and whether it has begun, ended or failed
pub record SinkState : Type 0 where
  pub format : Format
  pub number : ℕ
  pub encoder : WriterState
  pub written : ℕ
  pub has_begun : Bool
  pub ended : Bool
  pub failed : Bool

-- a sink that has written nothing
abbrev pub new_sink : Format → ℕ → SinkState
new_sink format number = record {
  format = format;
  number = number;
  encoder = initial_writer;
  written = 0;
  has_begun = false;
  ended = false;
  failed = false;
}

-- the sink was begun and not ended
abbrev pub IsOpen : SinkState → Type 0
IsOpen s = (s.has_begun ≡ true) × (s.ended ≡ false)

-- the version's kind is not below the kind written last
abbrev pub MayFollow : VersionData → WriterState → Type 0
MayFollow v w = kind_order w.last ≤ kind_order (kind_of v.body)

-- the version may follow those written, unless a call was refused
abbrev pub Takes : VersionData → SinkState → Type 0
Takes v s = s.failed ≡ false → MayFollow v s.encoder

-- all these bytes were appended, after `written` bytes, to fewer than 2^62 bytes in all
pub record Sent (change : Change) (written : ℕ) (bytes : List ℕ) : Type 0 where
  pub appended : Appends change bytes
  pub short : written + length bytes < 2 ^ 62

-- why not all these bytes were appended: memory ran out and none was, or the write stopped
abbrev pub NotSent : ℕ → Change → ℕ → List ℕ → Fault → Type 0
NotSent output change written bytes fault =
    ((fault ≡ memory_fault) × Appends change []) ⊎ StoppedWriting output change written bytes fault

-- the effect of a call that sends these bytes, after `written` bytes, on the output of this number
abbrev pub Sends : {A : Type 0} → ℕ → Change → ℕ → List ℕ → Result A Fault → Type 0
Sends output change written bytes (Ok done) = Sent change written bytes
Sends output change written bytes (Err fault) = NotSent output change written bytes fault

-- the sink after a call that sent these bytes: after a refusal it has failed
abbrev pub Leaves : {A : Type 0} → SinkState → SinkState → (SinkState → SinkState) → List ℕ → Result A Fault → Type 0
Leaves old new next bytes (Ok done) = new ≡ next (record old { written = old.written + length bytes })
Leaves old new next bytes (Err fault) =
    (new.failed ≡ true) × (new.number ≡ old.number) × (new.has_begun ≡ old.has_begun) × (new.ended ≡ old.ended)

-- A call of a sink that has not failed sends these bytes and leaves the sink as `Leaves` defines. Any other call
-- returns Failed and changes nothing.
abbrev pub Calls : {A : Type 0} → SinkState → SinkState → (SinkState → SinkState) → Change → List ℕ → Result A Fault
    → Type 0
Calls old new next change bytes result = MatchBool old.failed
    ((result ≡ Err (failed_fault old.number)) × (new ≡ old) × Appends change [])
    (Sends old.number change old.written bytes result × Leaves old new next bytes result)

-- why only `count` of these bytes were appended: memory ran out, the output failed there, or they are 2^62 bytes or
-- more
abbrev pub WhyCut : ℕ → List ℕ → ℕ → Bool → Fault → Type 0
WhyCut output bytes count failed fault =
    (fault ≡ memory_fault)
    ⊎ ((fault ≡ write_fault output count) × (failed ≡ true))
    ⊎ ((fault ≡ too_long_fault output) × (2 ^ 62 ≤ length bytes))

-- of these bytes, which several calls were to append, a front was appended; `why` has the reason why no more were
pub record CutShort (output : ℕ) (change : Change) (bytes : List ℕ) (fault : Fault) : Type 0 where
  pub count : ℕ
  pub within : count ≤ length bytes
  pub appended : Appends change (take count bytes)
  pub why : WhyCut output bytes count change.failed fault

-- the effect on the output of this number of several calls that were to append these bytes
abbrev pub WritesFile : {A : Type 0} → ℕ → Change → List ℕ → Result A Fault → Type 0
WritesFile output change bytes (Ok done) = Sent change 0 bytes
WritesFile output change bytes (Err fault) = CutShort output change bytes fault

-- the call was refused before it wrote anything
abbrev pub IsBeforeWriting : {A : Type 0} → ℕ → Result A Fault → Type 0
IsBeforeWriting output result =
    (result ≡ Err memory_fault) ⊎ (result ≡ Err (too_long_fault output)) ⊎ (result ≡ Err (failed_fault output))

-- the sink after it was begun
abbrev pub after_begin : SinkState → SinkState
after_begin s = record s { has_begun = true }

-- the sink after it was ended
abbrev pub after_end : SinkState → SinkState
after_end s = record s { ended = true }

-- the sink after it has put a version
abbrev pub after_put : VersionData → SinkState → SinkState
after_put v s = record s { encoder = writer_with s.format s.encoder v }

-- the sink unchanged
abbrev pub same_sink : SinkState → SinkState
same_sink s = s

-- a sink that was begun and has put these versions
abbrev pub sink_after : Format → ℕ → List VersionData → SinkState
sink_after format number versions = record {
  format = format;
  number = number;
  encoder = writer_with_all format initial_writer versions;
  written = length (open_file_bytes format versions);
  has_begun = true;
  ended = false;
  failed = false;
}

-- a sink has put these versions, and their file up to the mark of its end was appended
pub record HasPut (format : Format) (number : ℕ) (versions : List VersionData) (change : Change)
    (s : SinkState) : Type 0 where
  pub state : s ≡ sink_after format number versions
  pub sent : Sent change 0 (open_file_bytes format versions)
