-- The one file that is written for a set of versions (lines: the Osmium OPL file format manual; headers, data sets and
-- the end byte: the OSM wiki's page on o5m). An own rule of this project is that there is only one such file.
use Rattle.std.specs.Prelude.{ℕ, List, [], ◌∷◌, ◌++◌}
use Rattle.osm_model.specs.Data.{VersionData, kind_of}
use Rattle.osm_model.specs.Line.{line}
use Rattle.osm_model.specs.VersionSet.{VersionSet}
use Rattle.osm_model.specs.Sets.{to_list}
use Rattle.o5_codec.specs.Encoder.{WriterState, initial_writer, spelled_set, writer_after}
use Rattle.osm_files.specs.declared.format.Format.{Format}
use Rattle.osm_files.specs.declared.format.Format.TheVariants.{Opl, O5m, O5c}
use Rattle.osm_files.specs.O5.{o5m_header, o5c_header, end_byte}

-- the bytes before the first version
abbrev pub file_start : Format → List ℕ
file_start Opl = []
file_start O5m = o5m_header
file_start O5c = o5c_header

-- the bytes after the last version
abbrev pub file_end : Format → List ℕ
file_end Opl = []
file_end O5m = end_byte ∷ []
file_end O5c = end_byte ∷ []

-- the canonical line and LF
abbrev pub line_with_end : VersionData → List ℕ
line_with_end v = line v ++ 10 ∷ []

-- a version, after those written before: its line with LF, or its data set
abbrev pub version_bytes : Format → WriterState → VersionData → List ℕ
version_bytes Opl w v = line_with_end v
version_bytes O5m w v = spelled_set w v
version_bytes O5c w v = spelled_set w v

-- the state after this version; for lines only the kind changes
abbrev pub writer_with : Format → WriterState → VersionData → WriterState
writer_with Opl w v = record w { last = kind_of v.body }
writer_with O5m w v = writer_after w v
writer_with O5c w v = writer_after w v

-- the bytes of versions in sequence
abbrev pub versions_bytes : Format → WriterState → List VersionData → List ℕ
versions_bytes format w [] = []
versions_bytes format w (v ∷ versions) = version_bytes format w v
    ++ versions_bytes format (writer_with format w v) versions

-- the state after versions in sequence
abbrev pub writer_with_all : Format → WriterState → List VersionData → WriterState
writer_with_all format w [] = w
writer_with_all format w (v ∷ versions) = writer_with_all format (writer_with format w v) versions

-- a file up to the mark of its end
abbrev pub open_file_bytes : Format → List VersionData → List ℕ
open_file_bytes format versions = file_start format ++ versions_bytes format initial_writer versions

-- a file of these versions, in this order
abbrev pub spell_list : Format → List VersionData → List ℕ
spell_list format versions = open_file_bytes format versions ++ file_end format

-- the file of a set: its members ascending, each once
abbrev pub spell : Format → VersionSet → List ℕ
spell format set = spell_list format (to_list set)
