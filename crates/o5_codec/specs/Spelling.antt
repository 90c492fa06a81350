-- The values that a data set spells, as a relation (the OSM wiki's page on o5m). The relation of a step holds for some
-- bytes, the value that they begin with, the segment after the value and the bytes after the value.
use Rattle.std.specs.Prelude.{◌≡◌, ◌⊎◌, ℕ, ℤ, true, List, [], ◌∷◌, ◌++◌, length, Some, Result, Ok, ◌==◌, false}
use Rattle.osm_model.specs.declared.kind.Kind.{Kind}
use Rattle.osm_model.specs.declared.kind.Kind.TheVariants as kind
use Rattle.osm_model.specs.declared.tags.Tag.{Tag}
use Rattle.osm_model.specs.declared.members.Member.{Member}
use Rattle.osm_model.specs.declared.meta.Meta.{Meta}
use Rattle.osm_model.specs.declared.body.Body.{Body}
use Rattle.osm_model.specs.declared.body.Body.TheVariants.{Deleted, Node, Way, Relation}
use Rattle.osm_model.specs.Data.{VersionData, version_of}
use Rattle.o5_codec.specs.declared.reason.O5Reason.{O5Reason}
use Rattle.o5_codec.specs.declared.read.segment.Segment.{Segment}
use Rattle.o5_codec.specs.Author.{Author}
use Rattle.o5_codec.specs.declared.read.segment.ListsSeen.{ListsSeen}
use Rattle.o5_codec.specs.declared.base.Bases.{Bases}
use Rattle.o5_codec.specs.declared.strings.Form.{Form}
use Rattle.o5_codec.specs.declared.strings.Form.TheVariants.{Pair, Single}
use Rattle.o5_codec.specs.Entry.{EntryStrings}
use Rattle.o5_codec.specs.Table.{table_with, entry_at}
use Rattle.o5_codec.specs.Number.{SpellsNumber, SpellsSigned}
use Rattle.o5_codec.specs.Base.{moved_id, moved_number, moved_coordinate}
use Rattle.o5_codec.specs.Text.{text_of, tag_of, user_of}
use Rattle.o5_codec.specs.Segment.{with_bases, with_table, nonzero_version, author, meta_of}
use Rattle.o5_codec.specs.Body.{with_seen, with_section, kind_and_role, with_member, moved_member}
use Rattle.o5_codec.specs.Sound.{has_no_zero}

-- an unsigned number
abbrev pub NumberAtFront : List ℕ → ℕ × List ℕ → Type 0
NumberAtFront bytes x = (front : List ℕ) × SpellsNumber front x.0 × (bytes ≡ front ++ x.1)

-- a signed number
abbrev pub SignedAtFront : List ℕ → ℤ × List ℕ → Type 0
SignedAtFront bytes x = (front : List ℕ) × SpellsSigned front x.0 × (bytes ≡ front ++ x.1)

-- a string without zero bytes, and a zero byte
abbrev pub StringAtFront : List ℕ → List ℕ × List ℕ → Type 0
StringAtFront bytes x = (has_no_zero x.0 ≡ true) × (bytes ≡ x.0 ++ 0 ∷ x.1)

-- two strings, or one; with one the second is empty
abbrev pub InlineAtFront : Form → List ℕ → EntryStrings × List ℕ → Type 0
InlineAtFront Pair bytes x =
    (rest : List ℕ) × StringAtFront bytes (x.0.first, rest) × StringAtFront rest (x.0.second, x.1)
InlineAtFront Single bytes x = StringAtFront bytes (x.0.first, x.1) × (x.0.second ≡ [])

-- a zero byte and inline strings, which the table stores; or a number that refers to an entry of the table
abbrev pub StringsAtFront : Form → List EntryStrings → List ℕ → EntryStrings × List EntryStrings × List ℕ → Type 0
StringsAtFront form table bytes x =
    ((inline : List ℕ) × (bytes ≡ 0 ∷ inline) × InlineAtFront form inline (x.0, x.2) × (x.1 ≡ table_with x.0 table))
    ⊎ ((n : ℕ) × NumberAtFront bytes (n, x.2) × (entry_at table n ≡ Some x.0) × (x.1 ≡ table))

-- a difference, the value that it makes, and the segment after the value
abbrev pub MovedAtFront : {X : Type 0} → (ℤ → Result X O5Reason) → (X → Segment) → List ℕ → X × Segment × List ℕ →
    Type 0
MovedAtFront moved after bytes x =
    (difference : ℤ) × SignedAtFront bytes (difference, x.2) × (moved difference ≡ Ok x.0) × (x.1 ≡ after x.0)

abbrev pub IdAtFront : Segment → List ℕ → ℤ × Segment × List ℕ → Type 0
IdAtFront s = MovedAtFront (moved_id s.bases.id) (λ id. with_bases s (record s.bases { id = id }))

abbrev pub TimeAtFront : Segment → List ℕ → ℕ × Segment × List ℕ → Type 0
TimeAtFront s = MovedAtFront (moved_number s.bases.time) (λ time. with_bases s (record s.bases { time = time }))

abbrev pub ChangesetAtFront : Segment → List ℕ → ℕ × Segment × List ℕ → Type 0
ChangesetAtFront s =
    MovedAtFront (moved_number s.bases.changeset) (λ changeset. with_bases s (record s.bases { changeset = changeset }))

abbrev pub LongitudeAtFront : Segment → List ℕ → ℤ × Segment × List ℕ → Type 0
LongitudeAtFront s = MovedAtFront (moved_coordinate s.bases.lon) (λ lon. with_bases s (record s.bases { lon = lon }))

abbrev pub LatitudeAtFront : Segment → List ℕ → ℤ × Segment × List ℕ → Type 0
LatitudeAtFront s = MovedAtFront (moved_coordinate s.bases.lat) (λ lat. with_bases s (record s.bases { lat = lat }))

abbrev pub ReferenceAtFront : Segment → List ℕ → ℤ × Segment × List ℕ → Type 0
ReferenceAtFront s = MovedAtFront (moved_id s.bases.reference) (λ id. with_bases s (record s.bases { reference = id }))

-- a version number from 1 to 4294967295
abbrev pub VersionAtFront : List ℕ → ℕ × List ℕ → Type 0
VersionAtFront bytes x = (n : ℕ) × NumberAtFront bytes (n, x.1) × (nonzero_version (n, x.1) ≡ Ok x)

abbrev pub UserAtFront : Segment → List ℕ → (ℕ × List ℕ) × Segment × List ℕ → Type 0
UserAtFront s bytes x =
    (e : EntryStrings) × (table : List EntryStrings) × StringsAtFront Pair s.table bytes (e, table, x.2) ×
    (user_of e ≡ Ok x.0) ×
    (x.1 ≡ with_table s table)

-- after a changeset there is a user, or the data set ends
abbrev pub AuthorAfterChangeset : ℕ → Segment → List ℕ → Author × Segment × List ℕ → Type 0
AuthorAfterChangeset changeset s [] x = x ≡ (author changeset 0 [], s, [])
AuthorAfterChangeset changeset s (b ∷ bytes) x =
    (user : ℕ × List ℕ) × UserAtFront s (b ∷ bytes) (user, x.1, x.2) × (x.0 ≡ author changeset user.0 user.1)

-- with no time there is no author
abbrev pub AuthorAtFront : ℕ → Segment → List ℕ → Author × Segment × List ℕ → Type 0
AuthorAtFront time s bytes x =
    ((time == 0 ≡ true) × (x ≡ (author 0 0 [], s, bytes)))
    ⊎ ((time == 0 ≡ false) × ((c : ℕ × Segment × List ℕ) × ChangesetAtFront s bytes c ×
    AuthorAfterChangeset c.0 c.1 c.2 x))

abbrev pub MetaAtFront : Segment → List ℕ → Meta × Segment × List ℕ → Type 0
MetaAtFront s bytes x =
    (v : ℕ × List ℕ) × (t : ℕ × Segment × List ℕ) × (a : Author × Segment × List ℕ) ×
    VersionAtFront bytes v × TimeAtFront s v.1 t × AuthorAtFront t.0 t.1 t.2 a × (x ≡ (meta_of v.0 t.0 a.0, a.1, a.2))

abbrev pub TagAtFront : Segment → List ℕ → Tag × Segment × List ℕ → Type 0
TagAtFront s bytes x =
    (e : EntryStrings) × (table : List EntryStrings) × StringsAtFront Pair s.table bytes (e, table, x.2) ×
    (tag_of e ≡ Ok x.0) ×
    (x.1 ≡ with_table s table)

-- items in sequence, to the end of the bytes
abbrev pub ItemsInAll : {X : Type 0} → (Segment → List ℕ → X × Segment × List ℕ → Type 0) → Segment → List ℕ → List X →
    Segment → Type 0
ItemsInAll AtFront s bytes [] end = (bytes ≡ []) × (s ≡ end)
ItemsInAll AtFront s bytes (x ∷ xs) end =
    (middle : Segment) × (rest : List ℕ) × AtFront s bytes (x, middle, rest) × ItemsInAll AtFront middle rest xs end

abbrev pub NodeInAll : Segment → List ℕ → Body × Segment → Type 0
NodeInAll s bytes x =
    (lon : ℤ × Segment × List ℕ) × (lat : ℤ × Segment × List ℕ) × (tags : List Tag) ×
    LongitudeAtFront s bytes lon × LatitudeAtFront lon.1 lon.2 lat × ItemsInAll TagAtFront lat.1 lat.2 tags x.1 ×
    (x.0 ≡ Node lon.0 lat.0 tags)

-- the length of a section, and then the section
abbrev pub SectionAtFront : List ℕ → List ℕ × List ℕ → Type 0
SectionAtFront bytes x = NumberAtFront bytes (length x.0, x.0 ++ x.1)

abbrev pub WayInAll : Segment → List ℕ → Body × Segment → Type 0
WayInAll s bytes x =
    (section : List ℕ × List ℕ) × (seen : ListsSeen) × (ids : List ℤ × Segment) × (tags : List Tag) ×
    SectionAtFront bytes section × (with_section s.seen section.0 ≡ Ok seen) ×
    ItemsInAll ReferenceAtFront (with_seen s seen) section.0 ids.0 ids.1 ×
    ItemsInAll TagAtFront ids.1 section.1 tags x.1 × (x.0 ≡ Way ids.0 tags)

-- the difference of the id, and a single string of kind and role
abbrev pub MemberAtFront : Segment → List ℕ → Member × Segment × List ℕ → Type 0
MemberAtFront s bytes x =
    (d : ℤ × List ℕ) × (e : EntryStrings × List EntryStrings) × (m : Kind × List ℕ) × (seen : ListsSeen) ×
    (id : ℤ × Bases) ×
    SignedAtFront bytes d × StringsAtFront Single s.table d.1 (e.0, e.1, x.2) × (kind_and_role e.0.first ≡ Ok m) ×
    (with_member s.seen m.0 ≡ Ok seen) ×
    (moved_member s.bases m.0 d.0 ≡ Ok id) × (text_of m.1 ≡ Ok x.0.role) × (x.0.kind ≡ m.0) × (x.0.id ≡ id.0) ×
    (x.1 ≡ record { bases = id.1; table = e.1; seen = seen })

abbrev pub RelationInAll : Segment → List ℕ → Body × Segment → Type 0
RelationInAll s bytes x =
    (section : List ℕ × List ℕ) × (members : List Member × Segment) × (tags : List Tag) ×
    SectionAtFront bytes section × ItemsInAll MemberAtFront s section.0 members.0 members.1 ×
    ItemsInAll TagAtFront members.1 section.1 tags x.1 × (x.0 ≡ Relation members.0 tags)

abbrev pub VisibleInAll : Kind → Segment → List ℕ → Body × Segment → Type 0
VisibleInAll kind.Node = NodeInAll
VisibleInAll kind.Way = WayInAll
VisibleInAll kind.Relation = RelationInAll

-- a body to the end of the data set; the object was deleted exactly if nothing is left
abbrev pub BodyInAll : Kind → Segment → List ℕ → Body × Segment → Type 0
BodyInAll k s [] x = x ≡ (Deleted k, s)
BodyInAll k s (b ∷ bytes) x = VisibleInAll k s (b ∷ bytes) x

-- a content spells a version of the kind `k`, relative to the segment before the content
pub record SpellsSet (k : Kind) (s : Segment) (content : List ℕ) (x : VersionData × Segment) : Type 0 where
  pub id : ℤ × Segment × List ℕ
  pub meta : Meta × Segment × List ℕ
  pub body : Body × Segment
  pub id_at_front : IdAtFront s content id
  pub meta_at_front : MetaAtFront id.1 id.2 meta
  pub body_at_front : BodyInAll k meta.1 meta.2 body
  pub made : x ≡ (version_of id.0 meta.0 body.0, body.1)
