-- OPL files: lines and their versions (Osmium OPL file format manual). An own rule is that comments and empty lines are
-- skipped.
use Rattle.std.specs.Prelude.{ℕ, Bool, not, List, filter}
use Rattle.osm_model.specs.Data.{VersionData}
use Rattle.osm_model.specs.Pairwise.{Pairwise}
use Rattle.opl_line.specs.Delimiter.{split_all, is_line_end}
use Rattle.opl_line.specs.Reading.{is_skipped}
use Rattle.opl_line.specs.Spells.{Spells}

-- is the line not skipped?
abbrev pub is_read : List ℕ → Bool
is_read line = not (is_skipped line)

-- the file's lines that aren't skipped spell these versions, one for one; a file is cut at each LF and each CR
abbrev pub OplFile : List ℕ → List VersionData → Type 0
OplFile bytes versions = Pairwise Spells (filter is_read (split_all is_line_end bytes)) versions
