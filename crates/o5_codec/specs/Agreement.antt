-- The segment that a reader has after the bytes that were written.
use Rattle.std.specs.Prelude.{◌≡◌, ◌⊎◌, ◌<◌, ◌≤◌, ◌^◌, List, map, length, FitsSigned}
use Rattle.std.specs.Int.{w32}
use Rattle.osm_model.specs.declared.kind.Kind.{Kind}
use Rattle.osm_model.specs.declared.kind.Kind.TheVariants as kind
use Rattle.o5_codec.specs.declared.read.segment.Segment.{Segment}
use Rattle.o5_codec.specs.declared.read.segment.ListsSeen.{ListsSeen}
use Rattle.o5_codec.specs.declared.read.segment.ListsSeen.TheVariants.{Neither, References, NodeMembers}
use Rattle.o5_codec.specs.Entry.{EntryStrings}
use Rattle.o5_codec.specs.Table.{table_limit}
use Rattle.o5_codec.specs.Formed.{FormedEntry}
use Rattle.o5_codec.specs.IdBases.{AreIds}
use Rattle.o5_codec.specs.Writing.{EncoderSegment}

-- the strings of a table, without their forms
abbrev pub strings_in : List FormedEntry → List EntryStrings
strings_in table = map (λ e. e.strings) table

-- the segment of a reader: the bases of the writer, the strings of the writer's table, and which lists the segment had
abbrev pub reader_segment : EncoderSegment → ListsSeen → Segment
reader_segment c seen = record { bases = c.bases; table = strings_in c.table; seen = seen }

-- the lists that a segment of objects of one kind may have had
abbrev pub MayHaveSeen : Kind → ListsSeen → Type 0
MayHaveSeen kind.Node seen = seen ≡ Neither
MayHaveSeen kind.Way seen = (seen ≡ Neither) ⊎ (seen ≡ References)
MayHaveSeen kind.Relation seen = (seen ≡ Neither) ⊎ (seen ≡ NodeMembers)

-- the bases are within the ranges of their fields, and the table isn't too long
pub record IsEncoderSegment (c : EncoderSegment) : Type 0 where
  pub few : length c.table ≤ table_limit
  pub ids : AreIds c.bases
  pub time : c.bases.time < 2 ^ 32
  pub changeset : c.bases.changeset < 2 ^ 32
  pub lon : FitsSigned w32 c.bases.lon
  pub lat : FitsSigned w32 c.bases.lat
