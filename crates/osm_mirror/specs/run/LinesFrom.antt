-- What a search knows of the lines of an OPL file from an offset on: an own rule of this project.
use Rattle.std.specs.Prelude.{◌≡◌, ◌≤◌, ℕ, Bool, false, List, length, Option, Some, None, IfSome}
use Rattle.std.specs.Ordering.{is_lt}
use Rattle.osm_model.specs.declared.object.Object.{Object}
use Rattle.osm_model.specs.Order.{object_order}
use Rattle.osm_files.specs.Lines.{line_start_from}
use Rattle.osm_mirror.specs.declared.run.lines_from.LinesFrom.{LinesFrom}
use Rattle.osm_mirror.specs.run.Bounds.{first_object}

-- the lines of these bytes from an offset on: where the first one begins, and the object that they name first
pub record AreLines (bytes : List ℕ) (lines : LinesFrom) : Type 0 where
  pub within : lines.offset ≤ length bytes
  pub start : lines.start ≡ line_start_from lines.offset bytes
  pub object : lines.object ≡ first_object lines.offset bytes

-- the same, if the file's bytes are known
abbrev pub AreLinesOf : Option (List ℕ) → LinesFrom → Type 0
AreLinesOf bytes lines = IfSome bytes (λ all. AreLines all lines)

-- is the object below the bound, if there is one?
abbrev pub is_below : Object → Option Object → Bool
is_below bound None = false
is_below bound (Some object) = is_lt (object_order object bound)
