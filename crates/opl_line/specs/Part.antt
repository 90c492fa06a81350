-- The fields of an OPL line, and what they spell (the OPL manual).
use Rattle.std.specs.Prelude.{◌≡◌, ℕ, ℤ, Bool, List, ◌∷◌, Option, Some}
use Rattle.osm_model.specs.declared.kind.Kind.{Kind}
use Rattle.osm_model.specs.declared.kind.Kind.TheVariants as kind
use Rattle.osm_model.specs.declared.tags.Tag.{Tag}
use Rattle.osm_model.specs.declared.members.Member.{Member}
use Rattle.opl_line.specs.declared.general.field.Fields.{Fields}
use Rattle.opl_line.specs.Content.{SpellsNumber32, SpellsCount, SpellsDeleted, SpellsTime, SpellsOptionalCoordinate}
use Rattle.opl_line.specs.Content.{SpellsCharacters, SpellsTag, SpellsReference, SpellsMember, SpellsList}

-- the content of one field
pub data LinePart : Type 0 where
  Number : ℕ → LinePart
  Deleted : Bool → LinePart
  Changeset : ℕ → LinePart
  Time : Option ℕ → LinePart
  UserId : ℕ → LinePart
  User : List ℕ → LinePart
  Tags : List Tag → LinePart
  Longitude : Option ℤ → LinePart
  Latitude : Option ℤ → LinePart
  References : List ℤ → LinePart
  Members : List Member → LinePart

-- the letter of the field of a part
abbrev pub letter_of : LinePart → ℕ
letter_of (Number n) = 118
letter_of (Deleted d) = 100
letter_of (Changeset n) = 99
letter_of (Time t) = 116
letter_of (UserId n) = 105
letter_of (User t) = 117
letter_of (Tags ts) = 84
letter_of (Longitude x) = 120
letter_of (Latitude y) = 121
letter_of (References ids) = 78
letter_of (Members ms) = 77

-- the content of a field spells the part
abbrev pub SpellsContent : List ℕ → LinePart → Type 0
SpellsContent content (Number n) = SpellsNumber32 content n
SpellsContent content (Deleted d) = SpellsDeleted content d
SpellsContent content (Changeset n) = SpellsCount content n
SpellsContent content (Time t) = SpellsTime content t
SpellsContent content (UserId n) = SpellsCount content n
SpellsContent content (User t) = SpellsCharacters content t
SpellsContent content (Tags ts) = SpellsList SpellsTag content ts
SpellsContent content (Longitude x) = SpellsOptionalCoordinate content x
SpellsContent content (Latitude y) = SpellsOptionalCoordinate content y
SpellsContent content (References ids) = SpellsList SpellsReference content ids
SpellsContent content (Members ms) = SpellsList SpellsMember content ms

-- objects of the kind have a field for the part
abbrev pub IsPartOf : Kind → LinePart → Type 0
IsPartOf k (Longitude x) = k ≡ kind.Node
IsPartOf k (Latitude y) = k ≡ kind.Node
IsPartOf k (References ids) = k ≡ kind.Way
IsPartOf k (Members ms) = k ≡ kind.Relation
IsPartOf k _ = Unit {0}

-- a field, which is a letter and a content, spells a part
pub record SpellsPart (k : Kind) (field : List ℕ) (part : LinePart) : Type 0 where
  pub content : List ℕ
  pub lettered : field ≡ letter_of part ∷ content
  pub of_kind : IsPartOf k part
  pub spelled : SpellsContent content part

-- the fields with one more part
abbrev pub with_part : Fields → LinePart → Fields
with_part fields (Number n) = record fields { number = Some n }
with_part fields (Deleted d) = record fields { deleted = Some d }
with_part fields (Changeset n) = record fields { changeset = Some n }
with_part fields (Time t) = record fields { time = Some t }
with_part fields (UserId n) = record fields { uid = Some n }
with_part fields (User t) = record fields { user = Some t }
with_part fields (Tags ts) = record fields { tags = Some ts }
with_part fields (Longitude x) = record fields { longitude = Some x }
with_part fields (Latitude y) = record fields { latitude = Some y }
with_part fields (References ids) = record fields { references = Some ids }
with_part fields (Members ms) = record fields { members = Some ms }
