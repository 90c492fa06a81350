-- The lines of an OPL file from an offset on: an own rule of this project.
use Rattle.std.specs.Prelude.{◌≡◌, ◌⊎◌, ℕ, zero, suc, ◌+◌, ◌-◌, ◌<◌, ◌≤◌, min, true, List, [], ◌∷◌, ◌++◌, length}
use Rattle.std.specs.Prelude.{false, filter, take, drop, Option, Some, None, IfSome, Result, Ok, Err, if◌then◌else◌}
use Rattle.osm_model.specs.declared.object.Object.{Object}
use Rattle.osm_model.specs.Data.{VersionData}
use Rattle.osm_model.specs.Order.{object_of}
use Rattle.opl_line.specs.Delimiter.{is_line_end, split_all}
use Rattle.opl_line.specs.Reading.{is_skipped}
use Rattle.opl_line.specs.Spells.{SpellsNothing}
use Rattle.osm_files.specs.declared.fault.Fault.{Fault}
use Rattle.osm_files.specs.declared.lines.Front.{Front}
use Rattle.osm_files.specs.declared.lines.Front.TheVariants.{Named, Skipped}
use Rattle.osm_files.specs.FileRuns.{IsReadFailure}
use Rattle.osm_files.specs.LineKey.{named_object}
use Rattle.osm_files.specs.Opl.{is_read, OplFile}

-- the bytes after the first end of a line; none if there is no end
abbrev pub after_line : List ℕ → List ℕ
after_line [] = []
after_line (byte ∷ bytes) = if is_line_end byte then bytes else after_line bytes

-- the lines that begin at an offset or after it
abbrev pub lines_from : ℕ → List ℕ → List ℕ
lines_from zero bytes = bytes
lines_from (suc offset) bytes = after_line (drop offset bytes)

-- the number of bytes of the first line with its end; of all bytes, if there is no end
abbrev pub line_size : List ℕ → ℕ
line_size [] = 0
line_size (byte ∷ bytes) = if is_line_end byte then 1 else suc (line_size bytes)

-- The offset of the first line that begins at an offset or after it. If there is none, it is the file's length, or the
-- offset before if that is more.
abbrev pub line_start_from : ℕ → List ℕ → ℕ
line_start_from zero bytes = 0
line_start_from (suc offset) bytes = offset + line_size (drop offset bytes)

-- a line begins at this offset, or the file ends there
abbrev pub BeginsLine : List ℕ → ℕ → Type 0
BeginsLine bytes offset = line_start_from offset bytes ≡ offset

-- `start` is the offset of the first line that begins at `offset` or after it, or `end` if that is less, if the file's
-- bytes are known
abbrev pub IsLineStart : Option (List ℕ) → ℕ → ℕ → ℕ → Type 0
IsLineStart bytes offset end start = IfSome bytes (λ all. start ≡ min (line_start_from offset all) end)

-- the bytes from one offset up to another
abbrev pub bytes_between : ℕ → ℕ → List ℕ → List ℕ
bytes_between start end bytes = take (end - start) (drop start bytes)

-- ---- the object of the first line
-- the lines that aren't skipped
abbrev pub lines_of : List ℕ → List (List ℕ)
lines_of bytes = filter is_read (split_all is_line_end bytes)

-- the object that the first of some lines names; none if there are no lines
abbrev pub named_first : List (List ℕ) → Option Object
named_first [] = None
named_first (line ∷ lines) = named_object line

-- The object that the first line that isn't skipped names. Any bytes determine it, also if they are no OPL file.
abbrev pub first_named : List ℕ → Option Object
first_named bytes = named_first (lines_of bytes)

-- the object of the first of some versions; none if there are no versions
abbrev pub object_of_first : List VersionData → Option Object
object_of_first [] = None
object_of_first (v ∷ versions) = Some (object_of v)

-- `first` is the object that the first of the lines names, or none if there are no lines
abbrev pub IsFirstOf : Option Object → List (List ℕ) → Type 0
IsFirstOf None lines = lines ≡ []
IsFirstOf (Some object) lines = named_first lines ≡ Some object

-- The result for the first object of lines: it is the object that the first line that isn't skipped names, or none if
-- all are skipped. If it is a fault, but not a failure to read, the lines aren't an OPL file. `Fails` holds if reads of
-- the file may fail.
abbrev pub IsFirstIn : Type 0 → List ℕ → Result (Option Object) Fault → Type 0
IsFirstIn Fails lines (Ok first) = IsFirstOf first (lines_of lines)
IsFirstIn Fails lines (Err fault) =
    IsReadFailure Fails fault ⊎ ((versions : List VersionData) → OplFile lines versions → ⊥)

-- the same for the lines from one offset of a file up to another, if the file's bytes are known
abbrev pub IsFirstBetween : Type 0 → Option (List ℕ) → ℕ → ℕ → Result (Option Object) Fault → Type 0
IsFirstBetween Fails bytes start end result = IfSome bytes (λ all. start ≤ end → end ≤ length all
    → IsFirstIn Fails (bytes_between start end all) result)

-- ---- the search for it
-- the bytes have the same lines that aren't skipped
abbrev pub HaveSameLines : List ℕ → List ℕ → Type 0
HaveSameLines bytes others = lines_of bytes ≡ lines_of others

-- the first `size` of the bytes are lines that are skipped, whatever follows the bytes
abbrev pub AreSkipped : List ℕ → ℕ → Type 0
AreSkipped bytes size = (more : List ℕ) → HaveSameLines (bytes ++ more) (drop size bytes ++ more)

-- the lines before the next ones end after this offset, and no later than another
abbrev pub IsOnward : ℕ → ℕ → Front → Type 0
IsOnward offset end (Named object) = Unit {0}
IsOnward offset end (Skipped next) = (offset < next) × (next ≤ end)

-- the result of reading the front of the lines from one offset of a file up to another
abbrev pub IsFront : Type 0 → List ℕ → ℕ → ℕ → Result Front Fault → Type 0
IsFront Fails all offset end (Ok (Named object)) = IsFirstIn Fails (bytes_between offset end all) (Ok (Some object))
IsFront Fails all offset end (Ok (Skipped next)) =
    HaveSameLines (bytes_between offset end all) (bytes_between next end all)
IsFront Fails all offset end (Err fault) = IsFirstIn Fails (bytes_between offset end all) (Err fault)

-- the result of reading one line, which ends before `next`
abbrev pub IsLineRead : Type 0 → List ℕ → ℕ → Result Front Fault → Type 0
IsLineRead Fails line next (Ok (Named object)) = (is_skipped line ≡ false) × (named_object line ≡ Some object)
IsLineRead Fails line next (Ok (Skipped offset)) = (offset ≡ next) × (is_skipped line ≡ true)
IsLineRead Fails line next (Err fault) = IsReadFailure Fails fault ⊎ SpellsNothing line
