-- The version that an OPL line spells, as the OPL manual has it. This project's own rules are: the order of fields, and
-- the default of a missing one.
use Rattle.std.specs.Prelude.{◌≡◌, ℕ, ℤ, Bool, true, false, List, [], ◌∷◌, map, fold, filter, nat_eq, Some, None, Ok}
use Rattle.std.specs.Prelude.{Err}
use Rattle.std.specs.List.{IsDistinct}
use Rattle.std.specs.Str.{IsUtf8}
use Rattle.osm_model.specs.declared.kind.Kind.{Kind}
use Rattle.osm_model.specs.declared.body.Body.{Body}
use Rattle.osm_model.specs.Data.{VersionData}
use Rattle.osm_model.specs.New.{version_or_fault}
use Rattle.osm_model.specs.Pairwise.{Pairwise}
use Rattle.opl_line.specs.declared.bytes.cut.Delimiter.TheVariants.{Blanks}
use Rattle.opl_line.specs.declared.general.field.Fields.{Fields}
use Rattle.opl_line.specs.declared.reason.OplReason.{OplReason}
use Rattle.opl_line.specs.Delimiter.{is_end, split_all}
use Rattle.opl_line.specs.Field.{no_fields}
use Rattle.opl_line.specs.Content.{SpellsObject}
use Rattle.opl_line.specs.Part.{LinePart, letter_of, SpellsPart, with_part}
use Rattle.opl_line.specs.Reading.{is_skipped, meta_of, reading_body, reading_line}

-- the field isn't empty; an empty field, as between two blanks, has no part
abbrev pub is_full : List ℕ → Bool
is_full [] = false
is_full (b ∷ bs) = true

-- the version of the id, of the fields, and of the defaults for missing fields; a deletion keeps no body
pub record IsVersionOf (kind : Kind) (id : ℤ) (fields : Fields) (v : VersionData) : Type 0 where
  pub body : Body
  pub has_body : reading_body kind fields ≡ Ok body
  pub made : version_or_fault id (meta_of fields) body ≡ Ok v

-- the fields of all parts
abbrev pub fields_of_parts : List LinePart → Fields
fields_of_parts = fold with_part no_fields

-- A line consists of an object and parts: it is UTF-8, isn't skipped, and is a list of fields separated by blanks;
-- blanks at its end are allowed. The first field spells the kind and the id. The others begin with different letters,
-- all of the kind, and each spells a part.
pub record SpellsParts (line : List ℕ) (kind : Kind) (id : ℤ) (parts : List LinePart) : Type 0 where
  pub utf8 : IsUtf8 line
  pub not_skipped : is_skipped line ≡ false
  pub object : List ℕ
  pub others : List (List ℕ)
  pub fields : split_all (is_end Blanks) line ≡ object ∷ others
  pub names : SpellsObject object kind id
  pub spelled : Pairwise (SpellsPart kind) (filter is_full others) parts
  pub different : IsDistinct nat_eq (map letter_of parts)

-- A line spells the version of its object and parts.
pub record Spells (line : List ℕ) (v : VersionData) : Type 0 where
  pub kind : Kind
  pub id : ℤ
  pub parts : List LinePart
  pub line_parts : SpellsParts line kind id parts
  pub version : IsVersionOf kind id (fields_of_parts parts) v

-- the line isn't skipped, and spells no version
pub record SpellsNothing (line : List ℕ) : Type 0 where
  pub kept : is_skipped line ≡ false
  pub none : (v : VersionData) → Spells line v → ⊥

-- A line spells the version that is read from it.
abbrev pub ReadIsSpelled : Type 0
ReadIsSpelled = (line : List ℕ) (v : VersionData) → reading_line line ≡ Ok (Some v) → Spells line v

-- A version that a line spells is read from it.
abbrev pub SpelledIsRead : Type 0
SpelledIsRead = (line : List ℕ) (v : VersionData) → Spells line v → reading_line line ≡ Ok (Some v)

-- A line spells at most one version.
abbrev pub OneReading : Type 0
OneReading = (line : List ℕ) (v w : VersionData) → Spells line v → Spells line w → v ≡ w

-- A line that is refused or skipped spells nothing.
abbrev pub RefusedSpellsNothing : Type 0
RefusedSpellsNothing = (line : List ℕ) (reason : OplReason) (v : VersionData) → reading_line line ≡ Err reason →
    Spells line v → ⊥

abbrev pub SkippedSpellsNothing : Type 0
SkippedSpellsNothing = (line : List ℕ) (v : VersionData) → reading_line line ≡ Ok None → Spells line v → ⊥
