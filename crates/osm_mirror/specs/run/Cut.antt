-- The offset at which an OPL file is cut at an object: an own rule of this project.
use Rattle.std.specs.Prelude.{◌≡◌, ◌⊎◌, ℕ, zero, suc, ◌+◌, ◌-◌, ◌/◌, ◌<◌, min, nat_lt, Bool, true, false, List, []}
use Rattle.std.specs.Prelude.{◌∷◌, length, take, drop, Option, Some, IfSome, if◌then◌else◌}
use Rattle.std.specs.List.{filter}
use Rattle.std.specs.List.Sorted.{IsSorted}
use Rattle.osm_model.specs.declared.object.Object.{Object}
use Rattle.osm_model.specs.Data.{VersionData}
use Rattle.osm_model.specs.Order.{key_cmp}
use Rattle.osm_files.specs.declared.fault.Fault.{Fault}
use Rattle.osm_files.specs.FileRuns.{IsReadFailure}
use Rattle.osm_files.specs.Lines.{line_start_from, BeginsLine}
use Rattle.osm_files.specs.Opl.{OplFile}
use Rattle.osm_files.specs.Units.{FileStateData, InOpl, BeforeHeader, start_of}
use Rattle.osm_merge.specs.Slice.{reaches, is_under}
use Rattle.osm_mirror.specs.run.Bounds.{first_object}
use Rattle.osm_mirror.specs.run.LinesFrom.{is_below}

-- ---- the search
-- The offset at which a search ends, after at most `most` steps. A step looks at the lines from the middle between two
-- offsets on. If the object that they name first is below the bound, the search continues after the first byte of these
-- lines, and otherwise before the middle. It ends at the start of the first line from the upper offset on.
abbrev pub halved : ℕ → List ℕ → Object → ℕ → ℕ → ℕ
halved zero bytes bound low high = line_start_from high bytes
halved (suc most) bytes bound low high =
    let middle = low + (high - low) / 2 in
    if nat_lt low high then (
    if is_below bound (first_object middle bytes)
    then halved most bytes bound (min (line_start_from middle bytes + 1) high) high
    else halved most bytes bound low middle)
    else line_start_from high bytes

-- The offset at which any bytes are cut at a bound. Each step leaves out at least one offset, so the steps are enough.
abbrev pub cut_of : List ℕ → Object → ℕ
cut_of bytes bound = halved (length bytes) bytes bound 0 (length bytes)

-- ---- the cut of a sorted file
-- is the object of the first of some versions below the bound?
abbrev pub first_is_under : Object → List VersionData → Bool
first_is_under bound [] = false
first_is_under bound (v ∷ versions) = is_under (Some bound) v

-- wherever a line begins before the offset, the first version from there on is below the bound
abbrev pub IsUnderBefore : List ℕ → Object → ℕ → Type 0
IsUnderBefore bytes bound offset = (start : ℕ) → start < offset → BeginsLine bytes start → (later : List VersionData)
    → OplFile (drop start bytes) later → first_is_under bound later ≡ true

-- For a sorted file, the lines before the offset spell its versions whose objects are below the bound, and the lines
-- from the offset on spell the others. Of the offsets at which a line begins, it is the first from which on the first
-- version isn't below the bound. So a sorted file is cut at a bound at one offset.
abbrev pub IsCutAt : List ℕ → Object → ℕ → Type 0
IsCutAt bytes bound offset =
    (versions : List VersionData) → OplFile bytes versions → IsSorted key_cmp versions
    → OplFile (take offset bytes) (filter (is_under (Some bound)) versions)
    × OplFile (drop offset bytes) (filter (reaches (Some bound)) versions)
    × IsUnderBefore bytes bound offset

-- a line begins at the offset, or the file ends there, and the bytes from there on don't begin as an o5 file does
pub record BeginsLines (bytes : List ℕ) (offset : ℕ) : Type 0 where
  pub line : BeginsLine bytes offset
  pub start : start_of (drop offset bytes) ≡ InOpl

-- the offset is the one at which a file is cut, and separates the lines of a sorted file, if the file's bytes are known
abbrev pub IsCutOf : Option (List ℕ) → Object → ℕ → Type 0
IsCutOf bytes bound offset = IfSome bytes (λ all. (offset ≡ cut_of all bound) × IsCutAt all bound offset)

-- A file is refused because memory ran out or it can't be read; or it is no OPL file. `Fails` holds if reads of the
-- file may fail.
abbrev pub IsCutRefusal : Type 0 → Option (List ℕ) → Fault → Type 0
IsCutRefusal Fails bytes fault = IfSome bytes (λ all.
    IsReadFailure Fails fault ⊎ ((versions : List VersionData) → OplFile all versions → ⊥))

-- the state at the start of bytes that begin as an o5 file does, or of others
abbrev pub start_if : Bool → FileStateData
start_if is_o5 = if is_o5 then BeforeHeader else InOpl

-- `is_o5` is whether the bytes from the offset on begin as an o5 file does, if the file's bytes are known
abbrev pub BeginsAs : Option (List ℕ) → ℕ → Bool → Type 0
BeginsAs bytes offset is_o5 = IfSome bytes (λ all. start_of (drop offset all) ≡ start_if is_o5)

-- lines of OPL begin at the offset, if the file's bytes are known
abbrev pub BeginsLinesOf : Option (List ℕ) → ℕ → Type 0
BeginsLinesOf bytes offset = IfSome bytes (λ all. BeginsLines all offset)
