-- The steps of a data set that are written are read back.
use Rattle.std.proofs.Common.{◌≡◌, ℕ, ℤ, pos, ◌<◌, ◌^◌, ◌-ℤ◌, true, false, eqb, List, [], ◌∷◌, ◌++◌, map, refl, arith}
use Rattle.std.proofs.Common.{FitsSigned}
use Rattle.std.specs.Int.{w32}
use Rattle.std.specs.List.{list_all}
use Rattle.std.proofs.lemmas.Bool.{lt-ltb, and_parts}
use Rattle.std.proofs.lemmas.Bool.Decides.{nat_tests}
use Rattle.osm_model.specs.declared.tags.Tag.{Tag}
use Rattle.osm_model.specs.Id.{is_id}
use Rattle.osm_model.specs.Text.{is_text}
use Rattle.o5_codec.specs.declared.read.segment.ListsSeen.{ListsSeen}
use Rattle.o5_codec.specs.Spelling.{IdAtFront, TimeAtFront, ChangesetAtFront, LongitudeAtFront, LatitudeAtFront, ReferenceAtFront}
use Rattle.o5_codec.specs.Spelling.{VersionAtFront}
use Rattle.o5_codec.specs.Spelling.{UserAtFront, TagAtFront, ItemsInAll}
use Rattle.o5_codec.specs.Shortest.{shortest_number}
use Rattle.o5_codec.specs.Formed.{FormedEntry}
use Rattle.o5_codec.specs.Writing.{EncoderSegment, sequence, id_spelling, time_spelling, changeset_spelling, longitude_spelling}
use Rattle.o5_codec.specs.Writing.{latitude_spelling, reference_spelling, strings_spelling, user_entry, tag_entry, tag_spelling}
use Rattle.o5_codec.specs.Agreement.{strings_in, reader_segment, IsEncoderSegment}
use Rattle.o5_codec.proofs.WrittenNumbers.{number_back, id_difference, id_moved, number_difference, number_moved, coordinate_difference}
use Rattle.o5_codec.proofs.WrittenNumbers.{coordinate_moved}
use Rattle.o5_codec.proofs.WrittenStrings.{strings_back, strings_few, user_back, tag_back, user_spellable, tag_spellable}
use Rattle.o5_codec.proofs.SoundSteps.{is_tag}

-- ---- one value
pub id_back : (c : EncoderSegment) (seen : ListsSeen) (id : ℤ) (rest : List ℕ) → IsEncoderSegment c → is_id id ≡ true →
    IdAtFront (reader_segment c seen) ((id_spelling id c).0 ++ rest) (id, reader_segment (id_spelling id c).1 seen, rest)
unfolding id_spelling
id_back c seen id rest ok h = (id -ℤ c.bases.id, id_difference c.bases.id id rest ok.ids.id h, id_moved c.bases.id id h, refl)

-- An id that is written leaves the bases within their ranges.
pub id_keeps : (c : EncoderSegment) (id : ℤ) → IsEncoderSegment c → is_id id ≡ true → IsEncoderSegment (id_spelling id c).1
unfolding id_spelling
id_keeps c id ok h = record {
  few = ok.few;
  ids = record {
    id = h;
    reference = ok.ids.reference;
    node_member = ok.ids.node_member;
    way_member = ok.ids.way_member;
    relation_member =
        ok.ids.relation_member;
  };
  time = ok.time;
  changeset = ok.changeset;
  lon = ok.lon;
  lat = ok.lat;
}

-- A time that is written is read back.
pub time_back : (c : EncoderSegment) (seen : ListsSeen) (time : ℕ) (rest : List ℕ) → IsEncoderSegment c → time < 2 ^ 32 →
    TimeAtFront (reader_segment c seen) ((time_spelling time c).0 ++ rest) (time, reader_segment (time_spelling time c).1 seen, rest)
unfolding time_spelling
time_back c seen time rest ok h = (
  pos time -ℤ pos c.bases.time,
  number_difference c.bases.time time rest ok.time h,
  number_moved c.bases.time time h,
  refl,
)

-- A time that is written leaves the bases within their ranges.
pub time_keeps : (c : EncoderSegment) (time : ℕ) → IsEncoderSegment c → time < 2 ^ 32 → IsEncoderSegment (time_spelling time c).1
unfolding time_spelling
time_keeps c time ok h = record {
  few = ok.few;
  ids = record {
    id = ok.ids.id;
    reference = ok.ids.reference;
    node_member = ok.ids.node_member;
    way_member = ok.ids.way_member;
    relation_member = ok.ids.relation_member;
  };
  time = h;
  changeset = ok.changeset;
  lon = ok.lon;
  lat = ok.lat;
}

-- A changeset that is written is read back.
pub changeset_back : (c : EncoderSegment) (seen : ListsSeen) (changeset : ℕ) (rest : List ℕ) → IsEncoderSegment c → changeset < 2 ^ 32 →
    ChangesetAtFront (reader_segment c seen) ((changeset_spelling changeset c).0 ++ rest)
    (changeset, reader_segment (changeset_spelling changeset c).1 seen, rest)
unfolding changeset_spelling
changeset_back c seen changeset rest ok h = (
  pos changeset -ℤ pos c.bases.changeset,
  number_difference c.bases.changeset changeset rest ok.changeset h,
  number_moved c.bases.changeset changeset h,
  refl,
)

-- A changeset that is written leaves the bases within their ranges.
pub changeset_keeps : (c : EncoderSegment) (changeset : ℕ) → IsEncoderSegment c → changeset < 2 ^ 32 →
    IsEncoderSegment (changeset_spelling changeset c).1
unfolding changeset_spelling
changeset_keeps c changeset ok h = record {
  few = ok.few;
  ids = record {
    id = ok.ids.id;
    reference = ok.ids.reference;
    node_member = ok.ids.node_member;
    way_member = ok.ids.way_member;
    relation_member = ok.ids.relation_member;
  };
  time = ok.time;
  changeset = h;
  lon = ok.lon;
  lat = ok.lat;
}

-- A longitude that is written is read back.
pub longitude_back : (c : EncoderSegment) (seen : ListsSeen) (lon : ℤ) (rest : List ℕ) → IsEncoderSegment c → FitsSigned w32 lon →
    LongitudeAtFront (reader_segment c seen) ((longitude_spelling lon c).0 ++ rest)
    (lon, reader_segment (longitude_spelling lon c).1 seen, rest)
unfolding longitude_spelling
longitude_back c seen lon rest ok h = (
  lon -ℤ c.bases.lon,
  coordinate_difference c.bases.lon lon rest ok.lon h,
  coordinate_moved c.bases.lon lon ok.lon h,
  refl,
)

-- A longitude that is written leaves the bases within their ranges.
pub longitude_keeps : (c : EncoderSegment) (lon : ℤ) → IsEncoderSegment c → FitsSigned w32 lon →
    IsEncoderSegment (longitude_spelling lon c).1
unfolding longitude_spelling
longitude_keeps c lon ok h = record {
  few = ok.few;
  ids = record {
    id = ok.ids.id;
    reference = ok.ids.reference;
    node_member = ok.ids.node_member;
    way_member = ok.ids.way_member;
    relation_member = ok.ids.relation_member;
  };
  time = ok.time;
  changeset = ok.changeset;
  lon = h;
  lat = ok.lat;
}

-- A latitude that is written is read back.
pub latitude_back : (c : EncoderSegment) (seen : ListsSeen) (lat : ℤ) (rest : List ℕ) → IsEncoderSegment c → FitsSigned w32 lat →
    LatitudeAtFront (reader_segment c seen) ((latitude_spelling lat c).0 ++ rest)
    (lat, reader_segment (latitude_spelling lat c).1 seen, rest)
unfolding latitude_spelling
latitude_back c seen lat rest ok h = (
  lat -ℤ c.bases.lat,
  coordinate_difference c.bases.lat lat rest ok.lat h,
  coordinate_moved c.bases.lat lat ok.lat h,
  refl,
)

-- A latitude that is written leaves the bases within their ranges.
pub latitude_keeps : (c : EncoderSegment) (lat : ℤ) → IsEncoderSegment c → FitsSigned w32 lat → IsEncoderSegment (latitude_spelling lat c).1
unfolding latitude_spelling
latitude_keeps c lat ok h = record {
  few = ok.few;
  ids = record {
    id = ok.ids.id;
    reference = ok.ids.reference;
    node_member = ok.ids.node_member;
    way_member = ok.ids.way_member;
    relation_member = ok.ids.relation_member;
  };
  time = ok.time;
  changeset = ok.changeset;
  lon = ok.lon;
  lat = h;
}

reference_back : (c : EncoderSegment) (seen : ListsSeen) (id : ℤ) (rest : List ℕ) → IsEncoderSegment c → is_id id ≡ true →
    ReferenceAtFront (reader_segment c seen) ((reference_spelling id c).0 ++ rest)
    (id, reader_segment (reference_spelling id c).1 seen, rest)
unfolding reference_spelling
reference_back c seen id rest ok h = (
  id -ℤ c.bases.reference,
  id_difference c.bases.reference id rest ok.ids.reference h,
  id_moved c.bases.reference id h,
  refl,
)

reference_keeps : (c : EncoderSegment) (id : ℤ) → IsEncoderSegment c → is_id id ≡ true → IsEncoderSegment (reference_spelling id c).1
unfolding reference_spelling
reference_keeps c id ok h = record {
  few = ok.few;
  ids = record {
    id = ok.ids.id;
    reference = h;
    node_member = ok.ids.node_member;
    way_member = ok.ids.way_member;
    relation_member =
        ok.ids.relation_member;
  };
  time = ok.time;
  changeset = ok.changeset;
  lon = ok.lon;
  lat = ok.lat;
}

-- A version number that is written is read back.
pub version_back : (n : ℕ) (rest : List ℕ) → 0 < n → n < 2 ^ 32 → VersionAtFront (shortest_number n ++ rest) (n, rest)
version_back n rest some small = (
  n,
  number_back n rest (omega arith),
  (let not_none : eqb n 0 ≡ false = grind (arith, nat_tests) in rw (not_none, lt-ltb n (2 ^ 32) small) refl),
)

-- ---- strings
pub strings_keep : (e : FormedEntry) (c : EncoderSegment) → IsEncoderSegment c → IsEncoderSegment (strings_spelling e c).1
unfolding strings_spelling
strings_keep e c ok = record {
  few = strings_few e c.table ok.few;
  ids = ok.ids;
  time = ok.time;
  changeset = ok.changeset;
  lon = ok.lon;
  lat = ok.lat;
}

-- A user that is written is read back.
pub user_at_front : (c : EncoderSegment) (seen : ListsSeen) (uid : ℕ) (user : List ℕ) (rest : List ℕ) → IsEncoderSegment c → uid < 2 ^ 32 →
    is_text user ≡ true →
    UserAtFront (reader_segment c seen) ((strings_spelling (user_entry uid user) c).0 ++ rest)
    ((uid, user), reader_segment (strings_spelling (user_entry uid user) c).1 seen, rest)
unfolding strings_spelling
user_at_front c seen uid user rest ok small text = (
  (user_entry uid user).strings,
  strings_in (strings_spelling (user_entry uid user) c).1.table,
  strings_back (user_entry uid user) c.table rest (user_spellable uid user text) ok.few,
  user_back uid user small text,
  refl,
)

tag_at_front : (c : EncoderSegment) (seen : ListsSeen) (tag : Tag) (rest : List ℕ) → IsEncoderSegment c → is_text tag.key ≡ true →
    is_text tag.value ≡ true →
    TagAtFront (reader_segment c seen) ((tag_spelling tag c).0 ++ rest) (tag, reader_segment (tag_spelling tag c).1 seen, rest)
unfolding strings_spelling
tag_at_front c seen tag rest ok key value = (
  (tag_entry tag).strings,
  strings_in (strings_spelling (tag_entry tag) c).1.table,
  strings_back (tag_entry tag) c.table rest (tag_spellable tag key value) ok.few,
  tag_back tag key value,
  refl,
)

-- ---- lists to the end of some bytes
-- Tags that are written are read back.
pub tags_back : (tags : List Tag) (c : EncoderSegment) (seen : ListsSeen) → IsEncoderSegment c → list_all is_tag tags ≡ true →
    ItemsInAll TagAtFront (reader_segment c seen) (sequence (map tag_spelling tags) c).0 tags
    (reader_segment (sequence (map tag_spelling tags) c).1 seen)
unfolding sequence
tags_back [] c seen ok texts = (refl, refl)
tags_back (tag ∷ tags) c seen ok texts =
    let all = and_parts (is_tag tag) (list_all is_tag tags) texts in
    let own = and_parts (is_text tag.key) (is_text tag.value) all.0 in (
      reader_segment (tag_spelling tag c).1 seen,
      (sequence (map tag_spelling tags) (tag_spelling tag c).1).0,
      tag_at_front c seen tag (sequence (map tag_spelling tags) (tag_spelling tag c).1).0 ok own.0 own.1,
      tags_back tags (tag_spelling tag c).1 seen (strings_keep (tag_entry tag) c ok) all.1,
    )

-- Tags that are written leave the bases within their ranges.
pub tags_keep : (tags : List Tag) (c : EncoderSegment) → IsEncoderSegment c → IsEncoderSegment (sequence (map tag_spelling tags) c).1
unfolding sequence
tags_keep [] c ok = ok
tags_keep (tag ∷ tags) c ok = tags_keep tags (tag_spelling tag c).1 (strings_keep (tag_entry tag) c ok)

-- References that are written are read back.
pub references_back : (ids : List ℤ) (c : EncoderSegment) (seen : ListsSeen) → IsEncoderSegment c → list_all is_id ids ≡ true →
    ItemsInAll ReferenceAtFront (reader_segment c seen) (sequence (map reference_spelling ids) c).0 ids
    (reader_segment (sequence (map reference_spelling ids) c).1 seen)
unfolding sequence
references_back [] c seen ok h = (refl, refl)
references_back (id ∷ ids) c seen ok h =
    let all = and_parts (is_id id) (list_all is_id ids) h in (
      reader_segment (reference_spelling id c).1 seen,
      (sequence (map reference_spelling ids) (reference_spelling id c).1).0,
      reference_back c seen id (sequence (map reference_spelling ids) (reference_spelling id c).1).0 ok all.0,
      references_back ids (reference_spelling id c).1 seen (reference_keeps c id ok all.0) all.1,
    )

-- References that are written leave the bases within their ranges.
pub references_keep : (ids : List ℤ) (c : EncoderSegment) → IsEncoderSegment c → list_all is_id ids ≡ true →
    IsEncoderSegment (sequence (map reference_spelling ids) c).1
unfolding sequence
references_keep [] c ok h = ok
references_keep (id ∷ ids) c ok h = let all = and_parts (is_id id) (list_all is_id ids) h in
    references_keep ids (reference_spelling id c).1 (reference_keeps c id ok all.0) all.1
