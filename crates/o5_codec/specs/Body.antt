-- The bodies of objects (the OSM wiki's page on o5m).
-- Own rules of this project: coordinates are reduced modulo 2^32, no segment has both a way with references and a
-- relation with a node member, and values have ranges.
use Rattle.std.specs.Prelude.{ℕ, ℤ, ◌==◌, nat_le, List, [], ◌∷◌, length, take, drop, Result, Ok, Err, if◌then◌else◌}
use Rattle.osm_model.specs.declared.kind.Kind.{Kind}
use Rattle.osm_model.specs.declared.kind.Kind.TheVariants as kind
use Rattle.osm_model.specs.declared.tags.Tag.{Tag}
use Rattle.osm_model.specs.declared.members.Member.{Member}
use Rattle.osm_model.specs.declared.body.Body.{Body}
use Rattle.osm_model.specs.declared.body.Body.TheVariants.{Deleted, Node, Way, Relation}
use Rattle.osm_model.specs.Data.{VersionData, version_of}
use Rattle.o5_codec.specs.declared.reason.O5Reason.{O5Reason}
use Rattle.o5_codec.specs.declared.reason.O5Reason.TheVariants.{BadSection, BadMemberType, MixedSegment}
use Rattle.o5_codec.specs.declared.base.Bases.{Bases}
use Rattle.o5_codec.specs.declared.read.segment.Segment.{Segment}
use Rattle.o5_codec.specs.declared.read.segment.ListsSeen.{ListsSeen}
use Rattle.o5_codec.specs.declared.read.segment.ListsSeen.TheVariants.{Neither, References, NodeMembers}
use Rattle.o5_codec.specs.declared.strings.Form.TheVariants.{Pair, Single}
use Rattle.o5_codec.specs.Results.{and_then}
use Rattle.o5_codec.specs.Number.{number_at, signed_at}
use Rattle.o5_codec.specs.Base.{moved_id, moved_coordinate}
use Rattle.o5_codec.specs.StringPair.{strings_at}
use Rattle.o5_codec.specs.Text.{text_of, tag_of}
use Rattle.o5_codec.specs.Segment.{ReadStep, with_bases, with_table, id_at, meta_at}
use Rattle.o5_codec.specs.Items.{items_at}

-- a value to the end of the bytes, and the segment after it
abbrev pub WholeReading : Type 0 → Type 0
WholeReading X = Result (X × Segment) O5Reason

abbrev pub with_seen : Segment → ListsSeen → Segment
with_seen s seen = record s { seen = seen }

-- a tag is a pair
unfoldable pub tag_at : Segment → List ℕ → ReadStep Tag
tag_at s bytes =
    and_then (strings_at Pair s.table bytes) (λ x. and_then (tag_of x.0) (λ tag. Ok (tag, with_table s x.1, x.2)))

-- a longitude, by its difference to the one before it
unfoldable pub longitude_at : Segment → List ℕ → ReadStep ℤ
longitude_at s bytes = and_then (signed_at bytes) (λ x. and_then (moved_coordinate s.bases.lon x.0) (λ lon.
    Ok (lon, with_bases s (record s.bases { lon = lon }), x.1)))

-- a latitude
unfoldable pub latitude_at : Segment → List ℕ → ReadStep ℤ
latitude_at s bytes = and_then (signed_at bytes) (λ x. and_then (moved_coordinate s.bases.lat x.0) (λ lat.
    Ok (lat, with_bases s (record s.bases { lat = lat }), x.1)))

-- the body of a node at a location: the bytes are its tags
abbrev pub node_body_at : ℤ → ℤ → Segment → List ℕ → WholeReading Body
node_body_at lon lat s bytes = and_then (items_at tag_at s bytes) (λ tags. Ok (Node lon lat tags.0, tags.1))

-- longitude, latitude and tags
unfoldable pub node_at : Segment → List ℕ → WholeReading Body
node_at s bytes = and_then (longitude_at s bytes)
    (λ x. and_then (latitude_at x.1 x.2) (λ y. node_body_at x.0 y.0 y.1 y.2))

-- the section whose length was read, and the bytes after it
abbrev pub cut_at : ℕ × List ℕ → Result (List ℕ × List ℕ) O5Reason
cut_at x = if nat_le x.0 (length x.1) then Ok (take x.0 x.1, drop x.0 x.1) else Err BadSection

-- a section after its length, and the bytes after the section
unfoldable pub section_at : List ℕ → Result (List ℕ × List ℕ) O5Reason
section_at bytes = and_then (number_at bytes) cut_at

-- the lists that a segment has had after a way with references
abbrev pub with_references : ListsSeen → Result ListsSeen O5Reason
with_references Neither = Ok References
with_references References = Ok References
with_references NodeMembers = Err MixedSegment

-- the lists that a segment has had after a way with a section of references, which may be empty
abbrev pub with_section : ListsSeen → List ℕ → Result ListsSeen O5Reason
with_section seen [] = Ok seen
with_section seen (b ∷ bytes) = with_references seen

-- a reference, by its difference to the one before it
unfoldable pub reference_at : Segment → List ℕ → ReadStep ℤ
reference_at s bytes = and_then (signed_at bytes) (λ x. and_then (moved_id s.bases.reference x.0) (λ id.
    Ok (id, with_bases s (record s.bases { reference = id }), x.1)))

-- a section of references, and tags
unfoldable pub way_at : Segment → List ℕ → WholeReading Body
way_at s bytes = and_then (section_at bytes) (λ x. and_then (with_section s.seen x.0) (λ seen.
    and_then (items_at reference_at (with_seen s seen) x.0) (λ ids. and_then (items_at tag_at ids.1 x.1) (λ tags.
    Ok (Way ids.0 tags.0, tags.1)))))

-- the kind of a member by the digit 0, 1 or 2 in front of its role
abbrev pub member_kind : ℕ → Result Kind O5Reason
member_kind b =
    if b == 48 then Ok kind.Node else
    (if b == 49 then Ok kind.Way else (if b == 50 then Ok kind.Relation else Err BadMemberType))

-- the kind, and the role after it
abbrev pub kind_and_role : List ℕ → Result (Kind × List ℕ) O5Reason
kind_and_role [] = Err BadMemberType
kind_and_role (b ∷ role) = and_then (member_kind b) (λ k. Ok (k, role))

-- the lists that a segment has had after a node member
abbrev pub with_node_member : ListsSeen → Result ListsSeen O5Reason
with_node_member Neither = Ok NodeMembers
with_node_member References = Err MixedSegment
with_node_member NodeMembers = Ok NodeMembers

-- the lists that a segment has had after a member of some kind
abbrev pub with_member : ListsSeen → Kind → Result ListsSeen O5Reason
with_member seen kind.Node = with_node_member seen
with_member seen kind.Way = Ok seen
with_member seen kind.Relation = Ok seen

-- the id of a member, by its difference to the id of the last member of its kind, and the bases after it
abbrev pub moved_member : Bases → Kind → ℤ → Result (ℤ × Bases) O5Reason
moved_member bases kind.Node difference =
    and_then (moved_id bases.node_member difference) (λ id. Ok (id, record bases { node_member = id }))
moved_member bases kind.Way difference =
    and_then (moved_id bases.way_member difference) (λ id. Ok (id, record bases { way_member = id }))
moved_member bases kind.Relation difference =
    and_then (moved_id bases.relation_member difference) (λ id. Ok (id, record bases { relation_member = id }))

-- a member: the difference of its id, and a single string with its kind and its role
unfoldable pub member_at : Segment → List ℕ → ReadStep Member
member_at s bytes = and_then (signed_at bytes) (λ x. and_then (strings_at Single s.table x.1) (λ y.
    and_then (kind_and_role y.0.first) (λ m. and_then (with_member s.seen m.0) (λ seen.
    and_then (moved_member s.bases m.0 x.0) (λ id. and_then (text_of m.1) (λ role.
    Ok (record { kind = m.0; id = id.0; role = role }, record { bases = id.1; table = y.1; seen = seen }, y.2)))))))

-- a section of members, and tags
unfoldable pub relation_at : Segment → List ℕ → WholeReading Body
relation_at s bytes =
    and_then (section_at bytes)
    (λ x. and_then (items_at member_at s x.0) (λ members. and_then (items_at tag_at members.1 x.1) (λ tags.
    Ok (Relation members.0 tags.0, tags.1))))

-- the body of a visible object
abbrev pub visible_at : Kind → Segment → List ℕ → WholeReading Body
visible_at kind.Node = node_at
visible_at kind.Way = way_at
visible_at kind.Relation = relation_at

-- the body of an object; an object without more bytes was deleted
unfoldable pub body_at : Kind → Segment → List ℕ → WholeReading Body
body_at k s [] = Ok (Deleted k, s)
body_at k s (b ∷ bytes) = visible_at k s (b ∷ bytes)

-- the version that the content of a data set has, and the segment after it
unfoldable pub set_at : Kind → Segment → List ℕ → WholeReading VersionData
set_at k s content =
    and_then (id_at s content) (λ x. and_then (meta_at x.1 x.2) (λ m. and_then (body_at k m.1 m.2) (λ b.
    Ok (version_of x.0 m.0 b.0, b.1))))
