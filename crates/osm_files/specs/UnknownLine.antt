-- Lines that begin no version: an own rule of this project. They are refused whatever bytes follow their first one.
use Rattle.std.specs.Prelude.{◌≡◌, ℕ, ◌+◌, ◌≤◌, ◌==◌, ◌||◌, Bool, true, not, List, ◌∷◌, ◌++◌, length, take, drop, Some}
use Rattle.std.specs.Prelude.{is_some, if◌then◌else◌, IsUtf8}
use Rattle.std.specs.Str.{is_utf8}
use Rattle.opl_line.specs.Delimiter.{is_line_end}
use Rattle.opl_line.specs.Item.{kind_of_letter}
use Rattle.opl_line.specs.declared.reason.OplReason.{OplReason}
use Rattle.opl_line.specs.declared.reason.OplReason.TheVariants as opl
use Rattle.osm_files.specs.declared.unknown_line.TestedFront.{TestedFront}
use Rattle.osm_files.specs.declared.unknown_line.TestedFront.TheVariants.{Utf8, NotUtf8}
use Rattle.osm_files.specs.Position.{Position}
use Rattle.osm_files.specs.Units.{InOpl}

-- is this the first byte of a line that isn't empty, and is no comment and no version?
abbrev pub begins_unknown : ℕ → Bool
begins_unknown b = not (is_some (kind_of_letter b) || ((b == 35) || is_line_end b))

-- the reason of a line that begins so
abbrev pub unknown_reason : List ℕ → OplReason
unknown_reason line = if is_utf8 line then opl.UnknownKind else opl.NotUtf8

-- the front of a line is UTF-8, or no line that begins with it is
abbrev pub IsTested : TestedFront → List ℕ → Type 0
IsTested Utf8 front = IsUtf8 front
IsTested NotUtf8 front = (more : List ℕ) → ¬ (IsUtf8 (front ++ more))

-- the bytes held begin a line that begins no version
abbrev pub HoldsUnknown : {C : Type 0} → Position C → Type 0
HoldsUnknown p = (p.stage ≡ Some InOpl)
    × ((b : ℕ) × (more : List ℕ) × (p.held ≡ b ∷ more) × (begins_unknown b ≡ true))

-- The first bytes held follow a front that was tested. They were tested, too, and dropped.
abbrev pub DropsTested : {C : Type 0} → Position C → TestedFront → TestedFront → Position C → Type 0
DropsTested p before after q = (size : ℕ) × (size ≤ length p.held)
    × (q ≡ record p { offset = p.offset + size; held = drop size p.held })
    × ((front : List ℕ) → IsTested before front → IsTested after (front ++ take size p.held))
