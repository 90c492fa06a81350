-- The state of a sink, from its fields.
use Rattle.std.specs.Prelude.{◌≡◌, ◌<◌, ◌^◌, false}
use Rattle.osm_files.specs.declared.sink.Sink.TheInside.{Inside}
use Rattle.osm_files.specs.Sink.{SinkState, IsUnitWriterOf, state_of_unit_writer}

-- the state of a sink, without its buffer
abbrev pub state_of : Inside → SinkState
state_of s = record {
  format = s.format;
  number = s.number;
  encoder = state_of_unit_writer s.units;
  written = s.written;
  has_begun =
      s.has_begun;
  ended = s.ended;
  failed = s.failed;
}

-- the sink has written fewer than 2^62 bytes, and if it has not failed its units are those of the format
pub record IsGoodSink (s : Inside) : Type 0 where
  pub short : s.written < 2 ^ 62
  pub units : s.failed ≡ false → IsUnitWriterOf s.format s.units
