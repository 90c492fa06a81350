-- The bytes written for a version, relative to the segment before it (the OSM wiki's page on o5m). Each field has only
-- one form, which is an own rule of this project.
use Rattle.std.specs.Prelude.{ℕ, ℤ, pos, ◌+◌, ◌==◌, List, [], ◌∷◌, ◌++◌, map, length, Option, Some, None, unwrap_or}
use Rattle.std.specs.Prelude.{encode_utf8_all, if◌then◌else◌}
use Rattle.osm_model.specs.declared.kind.Kind.{Kind}
use Rattle.osm_model.specs.declared.kind.Kind.TheVariants as kind
use Rattle.osm_model.specs.declared.tags.Tag.{Tag}
use Rattle.osm_model.specs.declared.members.Member.{Member}
use Rattle.osm_model.specs.declared.body.Body.{Body}
use Rattle.osm_model.specs.declared.body.Body.TheVariants.{Deleted, Node, Way, Relation}
use Rattle.osm_model.specs.Kind.{kind_order}
use Rattle.osm_model.specs.Data.{VersionData}
use Rattle.o5_codec.specs.declared.base.Bases.{Bases}
use Rattle.o5_codec.specs.declared.strings.Form.TheVariants.{Pair, Single}
use Rattle.o5_codec.specs.Shortest.{shortest_number, difference}
use Rattle.o5_codec.specs.Formed.{FormedEntry, formed_entry, reference_to, strings_bytes, formed_table_after}

-- the part of the segment so far that later data sets are written relative to
pub record EncoderSegment : Type 0 where
  pub bases : Bases
  pub table : List FormedEntry

abbrev pub after_bases : EncoderSegment → Bases → EncoderSegment
after_bases s bases = record s { bases = bases }

-- the bytes of a step, and the context after it
abbrev pub Spelling : Type 0
Spelling = List ℕ × EncoderSegment

abbrev pub WriteStep : Type 0
WriteStep = EncoderSegment → Spelling

-- steps in sequence
unfoldable pub sequence : List WriteStep → WriteStep
sequence [] s = ([], s)
sequence (step ∷ steps) s = ((step s).0 ++ (sequence steps (step s).1).0, (sequence steps (step s).1).1)

-- bytes that depend on nothing before them
unfoldable pub fixed_bytes : List ℕ → WriteStep
fixed_bytes bytes s = (bytes, s)

unfoldable pub id_spelling : ℤ → WriteStep
id_spelling id s = (difference s.bases.id id, after_bases s (record s.bases { id = id }))

unfoldable pub time_spelling : ℕ → WriteStep
time_spelling time s = (difference (pos s.bases.time) (pos time), after_bases s (record s.bases { time = time }))

unfoldable pub changeset_spelling : ℕ → WriteStep
changeset_spelling changeset s =
    (difference (pos s.bases.changeset) (pos changeset), after_bases s (record s.bases { changeset = changeset }))

-- the difference of two coordinates isn't reduced modulo 2^32
unfoldable pub longitude_spelling : ℤ → WriteStep
longitude_spelling lon s = (difference s.bases.lon lon, after_bases s (record s.bases { lon = lon }))

unfoldable pub latitude_spelling : ℤ → WriteStep
latitude_spelling lat s = (difference s.bases.lat lat, after_bases s (record s.bases { lat = lat }))

unfoldable pub reference_spelling : ℤ → WriteStep
reference_spelling id s = (difference s.bases.reference id, after_bases s (record s.bases { reference = id }))

-- each kind of members has its own base
unfoldable pub member_id_spelling : Kind → ℤ → WriteStep
member_id_spelling kind.Node id s =
    (difference s.bases.node_member id, after_bases s (record s.bases { node_member = id }))
member_id_spelling kind.Way id s =
    (difference s.bases.way_member id, after_bases s (record s.bases { way_member = id }))
member_id_spelling kind.Relation id s =
    (difference s.bases.relation_member id, after_bases s (record s.bases { relation_member = id }))

-- a pair or a single string: a reference if the table has the entry, else the inline form
unfoldable pub strings_spelling : FormedEntry → WriteStep
strings_spelling e s = (
  strings_bytes e (reference_to e s.table),
  record s { table = formed_table_after e (reference_to e s.table) s.table },
)

-- a user id as a string; 0 is the empty one
abbrev pub uid_string : ℕ → List ℕ
uid_string uid = if uid == 0 then [] else shortest_number uid

abbrev pub user_entry : ℕ → List ℕ → FormedEntry
user_entry uid user = formed_entry Pair (uid_string uid) (encode_utf8_all user)

abbrev pub tag_entry : Tag → FormedEntry
tag_entry tag = formed_entry Pair (encode_utf8_all tag.key) (encode_utf8_all tag.value)

-- the digit of a member's kind, and then the bytes of its role
abbrev pub member_string : Kind → List ℕ → List ℕ
member_string k role = (48 + kind_order k) ∷ role

abbrev pub member_entry : Kind → List ℕ → FormedEntry
member_entry k role = formed_entry Single (member_string k (encode_utf8_all role)) []

abbrev pub tag_spelling : Tag → WriteStep
tag_spelling tag = strings_spelling (tag_entry tag)

unfoldable pub tags_spelling : List Tag → WriteStep
tags_spelling tags = sequence (map tag_spelling tags)

unfoldable pub member_spelling : Member → WriteStep
member_spelling m = sequence (member_id_spelling m.kind m.id ∷ strings_spelling (member_entry m.kind m.role) ∷ [])

-- the length of a section, and then the section
unfoldable pub section_spelling : WriteStep → WriteStep
section_spelling step s = (shortest_number (length (step s).0) ++ (step s).0, (step s).1)

unfoldable pub references_spelling : List ℤ → WriteStep
references_spelling ids = sequence (map reference_spelling ids)

unfoldable pub members_spelling : List Member → WriteStep
members_spelling members = sequence (map member_spelling members)

-- changeset and user; nothing if there is no time
abbrev pub author_steps : Option ℕ → VersionData → List WriteStep
author_steps None v = []
author_steps (Some t) v = changeset_spelling v.changeset ∷ strings_spelling (user_entry v.uid v.user) ∷ []

unfoldable pub author_spelling : VersionData → WriteStep
author_spelling v = sequence (author_steps v.time v)

-- the parts of a visible body, even if its lists are empty; nothing for a deletion
unfoldable pub body_spelling : Body → WriteStep
body_spelling (Deleted k) = sequence []
body_spelling (Node lon lat tags) = sequence (longitude_spelling lon ∷ latitude_spelling lat ∷ tags_spelling tags ∷ [])
body_spelling (Way refs tags) = sequence (section_spelling (references_spelling refs) ∷ tags_spelling tags ∷ [])
body_spelling (Relation members tags) = sequence (section_spelling (members_spelling members) ∷ tags_spelling tags ∷ [])

-- the content of a version's data set; no time spells time 0
unfoldable pub content_spelling : VersionData → WriteStep
content_spelling v =
    sequence (id_spelling v.id ∷ fixed_bytes (shortest_number v.number) ∷ time_spelling (unwrap_or v.time 0)
    ∷ author_spelling v ∷
    body_spelling v.body ∷ [])
