-- Canonical lines are read back (laws).
use Rattle.std.specs.Prelude.{◌≡◌, ◌≤◌, ◌<◌, ◌^◌, ℕ, ℤ, FitsSigned, true, false, not, List, Some, Ok}
use Rattle.std.specs.Int.{w32}
use Rattle.std.specs.List.{list_all}
use Rattle.osm_model.specs.declared.tags.Tag.{Tag}
use Rattle.osm_model.specs.declared.members.Member.{Member}
use Rattle.osm_model.specs.Tags.{texts_of_tags}
use Rattle.osm_model.specs.Members.{ids_of_members, roles_of}
use Rattle.osm_model.specs.Data.{VersionData}
use Rattle.osm_model.specs.Valid.{IsVersion}
use Rattle.osm_model.specs.Line.{tag_text, reference_text, member_text, list_text, line}
use Rattle.osm_model.specs.Decimal.{number_text, integer_text}
use Rattle.osm_model.specs.Escape.{escape}
use Rattle.osm_model.specs.Coordinate.{coordinate_text}
use Rattle.osm_model.specs.Time.{time_text}
use Rattle.osm_model.specs.Id.{is_id}
use Rattle.osm_model.specs.Text.{is_text}
use Rattle.opl_line.specs.Delimiter.{is_line_end}
use Rattle.opl_line.specs.Number.{reading_number, reading_id, reading_coordinate}
use Rattle.opl_line.specs.Time.{reading_time}
use Rattle.opl_line.specs.Content.{SpellsCharacters, SpellsTag, SpellsReference, SpellsMember, SpellsList}
use Rattle.opl_line.specs.Reading.{is_skipped, reading_line}
use Rattle.opl_line.specs.Spells.{Spells}

-- the text of a number is read as the number
abbrev pub NumberIsReadBack : Type 0
NumberIsReadBack = (most n : ℕ) → n ≤ most → reading_number most (number_text n) ≡ Ok n

-- the text of an id is read as the id
abbrev pub IdIsReadBack : Type 0
IdIsReadBack = (id : ℤ) → is_id id ≡ true → reading_id (integer_text id) ≡ Ok id

-- the canonical form of a text spells the text
abbrev pub TextIsReadBack : Type 0
TextIsReadBack = (cs : List ℕ) → is_text cs ≡ true → SpellsCharacters (escape cs) cs

-- the text of a moment is read as the moment
abbrev pub TimeIsReadBack : Type 0
TimeIsReadBack = (seconds : ℕ) → 0 < seconds → seconds < 2 ^ 32 → reading_time (time_text (Some seconds)) ≡ Ok seconds

-- the text of a coordinate of 32 bits is read as the coordinate
abbrev pub CoordinateIsReadBack : Type 0
CoordinateIsReadBack = (units : ℤ) → FitsSigned w32 units → reading_coordinate (coordinate_text units) ≡ Ok units

-- the lists of canonical lines spell their items
abbrev pub ListsAreSpelled : Type 0
ListsAreSpelled =
    ((tags : List Tag) → list_all is_text (texts_of_tags tags) ≡ true →
    SpellsList SpellsTag (list_text tag_text tags) tags)
    × ((ids : List ℤ) → list_all is_id ids ≡ true → SpellsList SpellsReference (list_text reference_text ids) ids)
    × ((members : List Member) → list_all is_id (ids_of_members members) ≡ true →
    list_all is_text (roles_of members) ≡ true → SpellsList SpellsMember (list_text member_text members) members)

-- The text spells the version and no other.
pub record SpellsOnly (text : List ℕ) (v : VersionData) : Type 0 where
  pub spelled : Spells text v
  pub only : (w : VersionData) → Spells text w → w ≡ v

abbrev pub LineSpellsItsVersion : Type 0
LineSpellsItsVersion = (v : VersionData) → IsVersion v → SpellsOnly (line v) v

-- The canonical line of a version is read as the version.
abbrev pub LineIsReadBack : Type 0
LineIsReadBack = (v : VersionData) → IsVersion v → reading_line (line v) ≡ Ok (Some v)

-- No canonical line has a line end in it, and none is skipped.
abbrev pub LineIsInOneFile : Type 0
LineIsInOneFile = (v : VersionData) → (list_all (λ b. not (is_line_end b)) (line v) ≡ true)
    × (is_skipped (line v) ≡ false)
