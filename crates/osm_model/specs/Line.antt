-- The canonical OPL line: fields and lists of the OPL manual, in the one form that this project writes.
use Rattle.std.specs.Prelude.{ℕ, ℤ, List, [], ◌∷◌, ◌++◌, map, codes, if◌then◌else◌}
use Rattle.osm_model.specs.declared.kind.Kind.{Kind}
use Rattle.osm_model.specs.declared.kind.Kind.TheVariants as kind
use Rattle.osm_model.specs.declared.tags.Tag.{Tag}
use Rattle.osm_model.specs.declared.members.Member.{Member}
use Rattle.osm_model.specs.declared.body.Body.{Body}
use Rattle.osm_model.specs.declared.body.Body.TheVariants.{Deleted, Node, Way, Relation}
use Rattle.osm_model.specs.Kind.{kind_letter}
use Rattle.osm_model.specs.Decimal.{number_text, integer_text}
use Rattle.osm_model.specs.Coordinate.{coordinate_text}
use Rattle.osm_model.specs.Time.{time_text}
use Rattle.osm_model.specs.Escape.{escape}
use Rattle.osm_model.specs.Joined.{join_with}
use Rattle.osm_model.specs.Data.{VersionData, kind_of, is_deleted, tags_of}

-- `key=value`
abbrev pub tag_text : Tag → List ℕ
tag_text t = escape t.key ++ (codes "=" ++ escape t.value)

-- `n1`
abbrev pub reference_text : ℤ → List ℕ
reference_text r = codes "n" ++ integer_text r

-- `w1@role`
abbrev pub member_text : Member → List ℕ
member_text m = (kind_letter m.kind ∷ integer_text m.id) ++ (codes "@" ++ escape m.role)

-- the items with a comma between each two
abbrev pub list_text : {X : Type 0} → (X → List ℕ) → List X → List ℕ
list_text text xs = join_with 44 (map text xs)

-- V for visible, D for deleted
abbrev pub visible_text : Body → List ℕ
visible_text b = if is_deleted b then codes "D" else codes "V"

-- the fields of a kind, without a value
abbrev pub empty_fields : Kind → List (List ℕ)
empty_fields kind.Node = codes "x" ∷ codes "y" ∷ []
empty_fields kind.Way = codes "N" ∷ []
empty_fields kind.Relation = codes "M" ∷ []

-- the fields after the tags
abbrev pub kind_fields : Body → List (List ℕ)
kind_fields (Deleted k) = empty_fields k
kind_fields (Node lon lat tags) = (codes "x" ++ coordinate_text lon) ∷ (codes "y" ++ coordinate_text lat) ∷ []
kind_fields (Way refs tags) = (codes "N" ++ list_text reference_text refs) ∷ []
kind_fields (Relation members tags) = (codes "M" ++ list_text member_text members) ∷ []

-- the fields of a version, in their order
abbrev pub fields : VersionData → List (List ℕ)
fields v =
    (kind_letter (kind_of v.body) ∷ integer_text v.id)
    ∷ (codes "v" ++ number_text v.number)
    ∷ (codes "d" ++ visible_text v.body)
    ∷ (codes "c" ++ number_text v.changeset)
    ∷ (codes "t" ++ time_text v.time)
    ∷ (codes "i" ++ number_text v.uid)
    ∷ (codes "u" ++ escape v.user)
    ∷ (codes "T" ++ list_text tag_text (tags_of v.body))
    ∷ kind_fields v.body

-- the fields with a space between each two
unfoldable pub line : VersionData → List ℕ
line v = join_with 32 (fields v)
