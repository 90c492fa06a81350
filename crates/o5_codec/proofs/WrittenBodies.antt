-- The bodies of data sets that are written are read back.
use Rattle.std.proofs.Common.{◌≡◌, ℕ, ℤ, ◌<◌, ◌^◌, ◌-ℤ◌, true, List, [], ◌∷◌, ◌++◌, map, length, refl, ap, sym, ◌∙◌, arith, Ok}
use Rattle.std.proofs.Common.{inl, inr, subst, append_assoc, length-append, FitsSigned, encode_utf8_all}
use Rattle.std.specs.Int.{w32}
use Rattle.std.specs.List.{list_all}
use Rattle.std.proofs.lemmas.List.{append-nil}
use Rattle.std.proofs.lemmas.Bool.{and_parts}
use Rattle.osm_model.specs.declared.kind.Kind.{Kind}
use Rattle.osm_model.specs.declared.kind.Kind.TheVariants as kind
use Rattle.osm_model.specs.declared.tags.Tag.{Tag}
use Rattle.osm_model.specs.declared.members.Member.{Member}
use Rattle.osm_model.specs.declared.body.Body.{Body}
use Rattle.osm_model.specs.declared.body.Body.TheVariants.{Deleted, Node, Way, Relation}
use Rattle.osm_model.specs.Data.{kind_of, ids_of, tags_of}
use Rattle.osm_model.specs.Id.{is_id}
use Rattle.osm_model.specs.Text.{is_text}
use Rattle.osm_model.specs.Valid.{IsInRange}
use Rattle.o5_codec.specs.declared.read.segment.Segment.{Segment}
use Rattle.o5_codec.specs.declared.read.segment.ListsSeen.{ListsSeen}
use Rattle.o5_codec.specs.declared.read.segment.ListsSeen.TheVariants.{References, NodeMembers}
use Rattle.o5_codec.specs.Body.{with_section, with_member}
use Rattle.o5_codec.specs.Base.{moved_id}
use Rattle.o5_codec.specs.Spelling.{NumberAtFront, TagAtFront, MemberAtFront, ItemsInAll, SectionAtFront, VisibleInAll, BodyInAll}
use Rattle.o5_codec.specs.Shortest.{shortest_number}
use Rattle.o5_codec.specs.Formed.{FormedEntry}
use Rattle.o5_codec.specs.Writing.{EncoderSegment, WriteStep, sequence, longitude_spelling, latitude_spelling, reference_spelling}
use Rattle.o5_codec.specs.Writing.{member_id_spelling}
use Rattle.o5_codec.specs.Writing.{strings_spelling, member_entry, tag_spelling, tags_spelling, member_spelling, section_spelling}
use Rattle.o5_codec.specs.Writing.{references_spelling, members_spelling, body_spelling}
use Rattle.o5_codec.specs.Agreement.{strings_in, reader_segment, IsEncoderSegment, MayHaveSeen}
use Rattle.o5_codec.proofs.ResultSteps.{read_next}
use Rattle.o5_codec.proofs.NumberLaws.{number_shorter, signed_shorter}
use Rattle.o5_codec.proofs.WrittenNumbers.{number_back, id_difference, id_moved}
use Rattle.o5_codec.proofs.WrittenStrings.{strings_back, text_back, role_back, role_spellable}
use Rattle.o5_codec.proofs.WrittenSteps.{strings_keep, tags_back, tags_keep, references_back, references_keep, longitude_back}
use Rattle.o5_codec.proofs.WrittenSteps.{longitude_keeps, latitude_back, latitude_keeps}
use Rattle.o5_codec.proofs.SoundSteps.{is_member, is_tag}

-- ---- members
abbrev seen_with : Kind → ListsSeen → ListsSeen
seen_with kind.Node seen = NodeMembers
seen_with kind.Way seen = seen
seen_with kind.Relation seen = seen

seen_with_member : (k : Kind) (seen : ListsSeen) → MayHaveSeen kind.Relation seen → with_member seen k ≡ Ok (seen_with k seen)
seen_with_member kind.Node seen (inl e) = ap (λ s. with_member s kind.Node) e
seen_with_member kind.Node seen (inr e) = ap (λ s. with_member s kind.Node) e
seen_with_member kind.Way seen may = refl
seen_with_member kind.Relation seen may = refl

may_continue : (k : Kind) (seen : ListsSeen) → MayHaveSeen kind.Relation seen → MayHaveSeen kind.Relation (seen_with k seen)
may_continue kind.Node seen may = inr refl
may_continue kind.Way seen may = may
may_continue kind.Relation seen may = may

-- Two parts and the rest are the same list, however they are grouped.
pub two_bytes : (a b rest : List ℕ) → (a ++ (b ++ [])) ++ rest ≡ a ++ (b ++ rest)
two_bytes a b rest = ap (λ x. (a ++ x) ++ rest) (append-nil b) ∙ append_assoc a b rest

member_at_front : (k : Kind) (id : ℤ) (role : List ℕ) (c : EncoderSegment) (seen : ListsSeen) (rest : List ℕ) → IsEncoderSegment c →
    MayHaveSeen kind.Relation seen → is_id id ≡ true → is_text role ≡ true →
    MemberAtFront (reader_segment c seen) ((member_id_spelling k id c).0
    ++ ((strings_spelling (member_entry k role) (member_id_spelling k id c).1).0 ++ rest)) (
      record { kind = k; id = id; role = role },
      reader_segment (strings_spelling (member_entry k role) (member_id_spelling k id c).1).1
          (seen_with k seen),
      rest,
    )
unfolding member_id_spelling strings_spelling
member_at_front kind.Node id role c seen rest ok may h text =
    let e : FormedEntry = member_entry kind.Node role in
    let c1 : EncoderSegment = (member_id_spelling kind.Node id c).1 in
    let later : List ℕ = (strings_spelling e c1).0 ++ rest in (
      (id -ℤ c.bases.node_member, later),
      (e.strings, strings_in (strings_spelling e c1).1.table),
      (kind.Node, encode_utf8_all role),
      NodeMembers,
      (id, c1.bases),
      id_difference c.bases.node_member id later ok.ids.node_member h,
      strings_back e c.table rest (role_spellable kind.Node role text) ok.few,
      role_back kind.Node role,
      seen_with_member kind.Node seen may,
      read_next (moved_id c.bases.node_member (id -ℤ c.bases.node_member)) _ _ (id_moved c.bases.node_member id h),
      text_back role text,
      refl,
      refl,
      refl,
    )
member_at_front kind.Way id role c seen rest ok may h text =
    let e : FormedEntry = member_entry kind.Way role in
    let c1 : EncoderSegment = (member_id_spelling kind.Way id c).1 in
    let later : List ℕ = (strings_spelling e c1).0 ++ rest in (
      (id -ℤ c.bases.way_member, later),
      (e.strings, strings_in (strings_spelling e c1).1.table),
      (kind.Way, encode_utf8_all role),
      seen,
      (id, c1.bases),
      id_difference c.bases.way_member id later ok.ids.way_member h,
      strings_back e c.table rest (role_spellable kind.Way role text) ok.few,
      role_back kind.Way role,
      seen_with_member kind.Way seen may,
      read_next (moved_id c.bases.way_member (id -ℤ c.bases.way_member)) _ _ (id_moved c.bases.way_member id h),
      text_back role text,
      refl,
      refl,
      refl,
    )
member_at_front kind.Relation id role c seen rest ok may h text =
    let e : FormedEntry = member_entry kind.Relation role in
    let c1 : EncoderSegment = (member_id_spelling kind.Relation id c).1 in
    let later : List ℕ = (strings_spelling e c1).0 ++ rest in (
      (id -ℤ c.bases.relation_member, later),
      (e.strings, strings_in (strings_spelling e c1).1.table),
      (kind.Relation, encode_utf8_all role),
      seen,
      (id, c1.bases),
      id_difference c.bases.relation_member id later ok.ids.relation_member h,
      strings_back e c.table rest (role_spellable kind.Relation role text) ok.few,
      role_back kind.Relation role,
      seen_with_member kind.Relation seen may,
      read_next (moved_id c.bases.relation_member (id -ℤ c.bases.relation_member)) _ _ (id_moved c.bases.relation_member id h),
      text_back role text,
      refl,
      refl,
      refl,
    )

member_back : (m : Member) (c : EncoderSegment) (seen : ListsSeen) (rest : List ℕ) → IsEncoderSegment c → MayHaveSeen kind.Relation seen →
    is_id m.id ≡ true → is_text m.role ≡ true →
    MemberAtFront (reader_segment c seen) ((member_spelling m c).0 ++ rest)
    (m, reader_segment (member_spelling m c).1 (seen_with m.kind seen), rest)
unfolding member_spelling sequence
member_back m c seen rest ok may h text =
    let end : Segment = reader_segment (strings_spelling (member_entry m.kind m.role) (member_id_spelling m.kind m.id c).1).1
    (seen_with m.kind seen) in
    subst (λ bytes. MemberAtFront (reader_segment c seen) bytes (m, end, rest))
    (sym (two_bytes (member_id_spelling m.kind m.id c).0
    (strings_spelling (member_entry m.kind m.role) (member_id_spelling m.kind m.id c).1).0 rest))
    (member_at_front m.kind m.id m.role c seen rest ok may h text)

member_id_keeps : (k : Kind) (id : ℤ) (c : EncoderSegment) → IsEncoderSegment c → is_id id ≡ true →
    IsEncoderSegment (member_id_spelling k id c).1
unfolding member_id_spelling
member_id_keeps kind.Node id c ok h = record {
  few = ok.few;
  ids = record {
    id = ok.ids.id;
    reference = ok.ids.reference;
    node_member = h;
    way_member = ok.ids.way_member;
    relation_member =
        ok.ids.relation_member;
  };
  time = ok.time;
  changeset = ok.changeset;
  lon = ok.lon;
  lat = ok.lat;
}
member_id_keeps kind.Way id c ok h = record {
  few = ok.few;
  ids = record {
    id = ok.ids.id;
    reference = ok.ids.reference;
    node_member = ok.ids.node_member;
    way_member = h;
    relation_member =
        ok.ids.relation_member;
  };
  time = ok.time;
  changeset = ok.changeset;
  lon = ok.lon;
  lat = ok.lat;
}
member_id_keeps kind.Relation id c ok h = record {
  few = ok.few;
  ids = record {
    id = ok.ids.id;
    reference = ok.ids.reference;
    node_member = ok.ids.node_member;
    way_member = ok.ids.way_member;
    relation_member = h;
  };
  time = ok.time;
  changeset = ok.changeset;
  lon = ok.lon;
  lat = ok.lat;
}

member_keeps : (m : Member) (c : EncoderSegment) → IsEncoderSegment c → is_id m.id ≡ true → IsEncoderSegment (member_spelling m c).1
unfolding member_spelling sequence
member_keeps m c ok h = strings_keep (member_entry m.kind m.role) (member_id_spelling m.kind m.id c).1 (member_id_keeps m.kind m.id c ok h)

abbrev seen_with_all : List Member → ListsSeen → ListsSeen
seen_with_all [] seen = seen
seen_with_all (m ∷ members) seen = seen_with_all members (seen_with m.kind seen)

members_back : (members : List Member) (c : EncoderSegment) (seen : ListsSeen) → IsEncoderSegment c → MayHaveSeen kind.Relation seen →
    list_all is_member members ≡ true →
    ItemsInAll MemberAtFront (reader_segment c seen) (sequence (map member_spelling members) c).0 members
    (reader_segment (sequence (map member_spelling members) c).1 (seen_with_all members seen))
unfolding sequence
members_back [] c seen ok may h = (refl, refl)
members_back (m ∷ members) c seen ok may h =
    let all = and_parts (is_member m) (list_all is_member members) h in
    let own = and_parts (is_id m.id) (is_text m.role) all.0 in (
      reader_segment (member_spelling m c).1 (seen_with m.kind seen),
      (sequence (map member_spelling members) (member_spelling m c).1).0,
      member_back m c seen (sequence (map member_spelling members) (member_spelling m c).1).0 ok may own.0 own.1,
      members_back members (member_spelling m c).1 (seen_with m.kind seen) (member_keeps m c ok own.0) (may_continue m.kind seen may) all.1,
    )

members_keep : (members : List Member) (c : EncoderSegment) → IsEncoderSegment c → list_all is_member members ≡ true →
    IsEncoderSegment (sequence (map member_spelling members) c).1
unfolding sequence
members_keep [] c ok h = ok
members_keep (m ∷ members) c ok h =
    let all = and_parts (is_member m) (list_all is_member members) h in
    let own = and_parts (is_id m.id) (is_text m.role) all.0 in
    members_keep members (member_spelling m c).1 (member_keeps m c ok own.0) all.1

all_may : (members : List Member) (seen : ListsSeen) → MayHaveSeen kind.Relation seen →
    MayHaveSeen kind.Relation (seen_with_all members seen)
all_may [] seen may = may
all_may (m ∷ members) seen may = all_may members (seen_with m.kind seen) (may_continue m.kind seen may)

-- ---- bodies
abbrev pub members_in : Body → List Member
members_in (Deleted k) = []
members_in (Node lon lat tags) = []
members_in (Way ids tags) = []
members_in (Relation members tags) = members

-- the conditions under which a body is read back
pub record IsWritable (body : Body) : Type 0 where
  pub ids : list_all is_id (ids_of body) ≡ true
  pub texts : list_all is_tag (tags_of body) ≡ true
  pub location : IsInRange body
  pub roles : list_all is_member (members_in body) ≡ true

-- a body is read back, in a segment of its kind
abbrev pub BodyBack : Kind → EncoderSegment → ListsSeen → WriteStep → Body → Type 0
BodyBack k c seen step body = (after : ListsSeen) × MayHaveSeen k after
    × BodyInAll k (reader_segment c seen) (step c).0 (body, reader_segment (step c).1 after) × IsEncoderSegment (step c).1

-- a body that has bytes is visible
visible : (k : Kind) (s : Segment) (bytes : List ℕ) (x : Body × Segment) → VisibleInAll k s bytes x → 0 < length bytes →
    BodyInAll k s bytes x
visible k s [] x spelled some = absurd (omega arith)
visible k s (b ∷ bytes) x spelled some = spelled

node_back : (lon lat : ℤ) (tags : List Tag) (c : EncoderSegment) (seen : ListsSeen) → IsEncoderSegment c → MayHaveSeen kind.Node seen →
    FitsSigned w32 lon → FitsSigned w32 lat → list_all is_tag tags ≡ true →
    BodyBack kind.Node c seen (body_spelling (Node lon lat tags)) (Node lon lat tags)
unfolding body_spelling sequence tags_spelling
node_back lon lat tags c seen ok may lon_fits lat_fits texts =
    let c1 : EncoderSegment = (longitude_spelling lon c).1 in
    let c2 : EncoderSegment = (latitude_spelling lat c1).1 in
    let ok1 : IsEncoderSegment c1 = longitude_keeps c lon ok lon_fits in
    let ok2 : IsEncoderSegment c2 = latitude_keeps c1 lat ok1 lat_fits in
    let end : List ℕ = (sequence (map tag_spelling tags) c2).0 ++ [] in
    let later : List ℕ = (latitude_spelling lat c1).0 ++ end in
    let first = longitude_back c seen lon later ok lon_fits in
    let items = subst (λ bytes. ItemsInAll TagAtFront (reader_segment c2 seen) bytes tags
    (reader_segment (sequence (map tag_spelling tags) c2).1 seen))
    (sym (append-nil (sequence (map tag_spelling tags) c2).0)) (tags_back tags c2 seen ok2 texts) in (
      seen,
      may,
      visible kind.Node (reader_segment c seen) ((longitude_spelling lon c).0 ++ later)
          (Node lon lat tags, reader_segment (sequence (map tag_spelling tags) c2).1 seen) (
            (lon, reader_segment c1 seen, later),
            (lat, reader_segment c2 seen, end),
            tags,
            first,
            latitude_back c1 seen lat end ok1 lat_fits,
            items,
            refl,
          )
          (let short = signed_shorter ((longitude_spelling lon c).0 ++ later) (first.0, later) first.1 in omega arith),
      tags_keep tags c2 ok2,
    )

-- a way with any section of references is accepted in a segment of ways
section_seen : (section : List ℕ) (seen : ListsSeen) → MayHaveSeen kind.Way seen →
    (after : ListsSeen) × (with_section seen section ≡ Ok after) × MayHaveSeen kind.Way after
section_seen [] seen may = (seen, refl, may)
section_seen (b ∷ section) seen (inl e) = (References, ap (λ s. with_section s (b ∷ section)) e, inr refl)
section_seen (b ∷ section) seen (inr e) = (References, ap (λ s. with_section s (b ∷ section)) e, inr refl)

-- A section that is written is read back.
pub section_back : (section rest : List ℕ) → length section < 2 ^ 64 →
    SectionAtFront ((shortest_number (length section) ++ section) ++ rest) (section, rest)
section_back section rest small =
    subst (λ bytes. NumberAtFront bytes (length section, section ++ rest))
    (sym (append_assoc (shortest_number (length section)) section rest)) (number_back (length section) (section ++ rest) small)

way_back : (ids : List ℤ) (tags : List Tag) (c : EncoderSegment) (seen : ListsSeen) → IsEncoderSegment c → MayHaveSeen kind.Way seen →
    list_all is_id ids ≡ true → list_all is_tag tags ≡ true →
    length (sequence (map reference_spelling ids) c).0 < 2 ^ 64 → BodyBack kind.Way c seen (body_spelling (Way ids tags)) (Way ids tags)
unfolding body_spelling sequence tags_spelling section_spelling references_spelling
way_back ids tags c seen ok may are_ids texts small =
    let section : List ℕ = (sequence (map reference_spelling ids) c).0 in
    let c1 : EncoderSegment = (sequence (map reference_spelling ids) c).1 in
    let ok1 : IsEncoderSegment c1 = references_keep ids c ok are_ids in
    let end : List ℕ = (sequence (map tag_spelling tags) c1).0 ++ [] in
    let sees = section_seen section seen may in
    let cut = section_back section end small in
    let items = subst (λ bytes. ItemsInAll TagAtFront (reader_segment c1 sees.0) bytes tags
    (reader_segment (sequence (map tag_spelling tags) c1).1 sees.0))
    (sym (append-nil (sequence (map tag_spelling tags) c1).0)) (tags_back tags c1 sees.0 ok1 texts) in (
      sees.0,
      sees.2,
      visible kind.Way (reader_segment c seen) ((shortest_number (length section) ++ section) ++ end)
          (Way ids tags, reader_segment (sequence (map tag_spelling tags) c1).1 sees.0)
          ((section, end), sees.0, (ids, reader_segment c1 sees.0), tags, cut, sees.1, references_back ids c sees.0 ok are_ids, items, refl)
          (let short = number_shorter ((shortest_number (length section) ++ section) ++ end) (length section, section ++ end) cut in
          omega arith),
      tags_keep tags c1 ok1,
    )

relation_back : (members : List Member) (tags : List Tag) (c : EncoderSegment) (seen : ListsSeen) → IsEncoderSegment c →
    MayHaveSeen kind.Relation seen → list_all is_member members ≡ true → list_all is_tag tags ≡ true →
    length (sequence (map member_spelling members) c).0 < 2 ^ 64 →
    BodyBack kind.Relation c seen (body_spelling (Relation members tags)) (Relation members tags)
unfolding body_spelling sequence tags_spelling section_spelling members_spelling
relation_back members tags c seen ok may are_members texts small =
    let section : List ℕ = (sequence (map member_spelling members) c).0 in
    let c1 : EncoderSegment = (sequence (map member_spelling members) c).1 in
    let ok1 : IsEncoderSegment c1 = members_keep members c ok are_members in
    let end : List ℕ = (sequence (map tag_spelling tags) c1).0 ++ [] in
    let after : ListsSeen = seen_with_all members seen in
    let cut = section_back section end small in
    let items = subst (λ bytes. ItemsInAll TagAtFront (reader_segment c1 after) bytes tags
    (reader_segment (sequence (map tag_spelling tags) c1).1 after))
    (sym (append-nil (sequence (map tag_spelling tags) c1).0)) (tags_back tags c1 after ok1 texts) in (
      after,
      all_may members seen may,
      visible kind.Relation (reader_segment c seen) ((shortest_number (length section) ++ section) ++ end)
          (Relation members tags, reader_segment (sequence (map tag_spelling tags) c1).1 after)
          ((section, end), (members, reader_segment c1 after), tags, cut, members_back members c seen ok may are_members, items, refl)
          (let short = number_shorter ((shortest_number (length section) ++ section) ++ end) (length section, section ++ end) cut in
          omega arith),
      tags_keep tags c1 ok1,
    )

-- a section is shorter than 2^64 bytes if the body is
section_room : (section end : List ℕ) → length ((shortest_number (length section) ++ section) ++ end) < 2 ^ 64 → length section < 2 ^ 64
section_room section end small =
    omega (arith, length-append (shortest_number (length section) ++ section) end, length-append (shortest_number (length section)) section)

way_section : (ids : List ℤ) (tags : List Tag) (c : EncoderSegment) → length (body_spelling (Way ids tags) c).0 < 2 ^ 64 →
    length (sequence (map reference_spelling ids) c).0 < 2 ^ 64
unfolding body_spelling sequence tags_spelling section_spelling references_spelling
way_section ids tags c small = section_room (sequence (map reference_spelling ids) c).0
    ((sequence (map tag_spelling tags) (sequence (map reference_spelling ids) c).1).0 ++ []) small

relation_section : (members : List Member) (tags : List Tag) (c : EncoderSegment) →
    length (body_spelling (Relation members tags) c).0 < 2 ^ 64 → length (sequence (map member_spelling members) c).0 < 2 ^ 64
unfolding body_spelling sequence tags_spelling section_spelling members_spelling
relation_section members tags c small = section_room (sequence (map member_spelling members) c).0
    ((sequence (map tag_spelling tags) (sequence (map member_spelling members) c).1).0 ++ []) small

deleted_back : (k : Kind) (c : EncoderSegment) (seen : ListsSeen) → IsEncoderSegment c → MayHaveSeen k seen →
    BodyBack k c seen (body_spelling (Deleted k)) (Deleted k)
unfolding body_spelling sequence
deleted_back k c seen ok may = (seen, may, refl, ok)

-- A body that is written is read back.
pub body_back : (body : Body) (c : EncoderSegment) (seen : ListsSeen) → IsEncoderSegment c → MayHaveSeen (kind_of body) seen →
    IsWritable body →
    length (body_spelling body c).0 < 2 ^ 64 →
    BodyBack (kind_of body) c seen (body_spelling body) body
body_back (Deleted k) c seen ok may w small = deleted_back k c seen ok may
body_back (Node lon lat tags) c seen ok may w small = node_back lon lat tags c seen ok may w.location.0 w.location.1 w.texts
body_back (Way ids tags) c seen ok may w small = way_back ids tags c seen ok may w.ids w.texts (way_section ids tags c small)
body_back (Relation members tags) c seen ok may w small =
    relation_back members tags c seen ok may w.roles w.texts (relation_section members tags c small)
