-- A data set in a sound segment spells a version, and the segment after it is sound.
use Rattle.std.proofs.Common.{◌≡◌, ℕ, ℤ, Bool, true, false, not, eqb, ◌&&◌, List, [], ◌∷◌, refl, ap, sym, ◌∙◌, subst, arith, Ok, None}
use Rattle.std.specs.Prelude.{All}
use Rattle.std.specs.List.{list_all}
use Rattle.std.proofs.lemmas.List.Folds.{list_all-append}
use Rattle.std.proofs.lemmas.List.Elements.{All-cons}
use Rattle.std.proofs.lemmas.Bool.{not-true, and_parts, and_from}
use Rattle.osm_model.specs.declared.kind.Kind.{Kind}
use Rattle.osm_model.specs.declared.kind.Kind.TheVariants as kind
use Rattle.osm_model.specs.declared.tags.Tag.{Tag}
use Rattle.osm_model.specs.declared.members.Member.{Member}
use Rattle.osm_model.specs.declared.meta.Meta.{Meta}
use Rattle.osm_model.specs.declared.body.Body.{Body}
use Rattle.osm_model.specs.declared.body.Body.TheVariants.{Deleted, Node, Way, Relation}
use Rattle.osm_model.specs.Id.{is_id}
use Rattle.osm_model.specs.Text.{is_text}
use Rattle.osm_model.specs.Tags.{texts_of_tags}
use Rattle.osm_model.specs.Members.{ids_of_members, roles_of}
use Rattle.osm_model.specs.Data.{VersionData, ids_of, texts_of, normal_body, version_of}
use Rattle.osm_model.specs.New.{is_number, is_time, is_dated, first_fault}
use Rattle.osm_model.specs.Valid.{IsInRange, IsVersion}
use Rattle.osm_model.proofs.ValidLaws.{valid_version}
use Rattle.o5_codec.specs.declared.read.segment.Segment.{Segment}
use Rattle.o5_codec.specs.Segment.{id_at, meta_at}
use Rattle.o5_codec.specs.Items.{items_at}
use Rattle.o5_codec.specs.Body.{with_seen, tag_at, longitude_at, latitude_at, node_at, section_at, with_section, reference_at, way_at}
use Rattle.o5_codec.specs.Body.{member_at, relation_at, body_at, set_at}
use Rattle.o5_codec.specs.Sound.{is_sound}
use Rattle.o5_codec.specs.Earlier.{sets_at}
use Rattle.o5_codec.proofs.SoundStrings.{first_ok, same_value}
use Rattle.o5_codec.proofs.SoundSteps.{is_version, is_meta, is_tag, is_member, id_ok, meta_ok, tag_ok, reference_ok, member_ok}
use Rattle.o5_codec.proofs.SoundSteps.{longitude_ok, latitude_ok, longitude_range, latitude_range, items_ok}

tags_texts : (tags : List Tag) → list_all is_tag tags ≡ true → list_all is_text (texts_of_tags tags) ≡ true
tags_texts [] h = refl
tags_texts (t ∷ tags) h =
    let both = and_parts (is_tag t) (list_all is_tag tags) h in
    let texts = and_parts (is_text t.key) (is_text t.value) both.0 in
    and_from _ _ texts.0 (and_from _ _ texts.1 (tags_texts tags both.1))

members_ids : (members : List Member) → list_all is_member members ≡ true → list_all is_id (ids_of_members members) ≡ true
members_ids [] h = refl
members_ids (m ∷ members) h =
    let both = and_parts (is_member m) (list_all is_member members) h in
    and_from _ _ (and_parts (is_id m.id) (is_text m.role) both.0).0 (members_ids members both.1)

members_roles : (members : List Member) → list_all is_member members ≡ true → list_all is_text (roles_of members) ≡ true
members_roles [] h = refl
members_roles (m ∷ members) h =
    let both = and_parts (is_member m) (list_all is_member members) h in
    and_from _ _ (and_parts (is_id m.id) (is_text m.role) both.0).1 (members_roles members both.1)

-- ids and texts of a body are in range
abbrev is_body : Body → Bool
is_body b = list_all is_id (ids_of b) && list_all is_text (texts_of b)

node_ok : (s : Segment) (bytes : List ℕ) (x : Body × Segment) → is_sound s ≡ true → node_at s bytes ≡ Ok x →
    (is_body x.0 ≡ true) × (is_sound x.1 ≡ true)
unfolding node_at
node_ok s bytes x sound h =
    let lon = first_ok (longitude_at s bytes) _ x h in
    let lat = first_ok (latitude_at lon.0.1 lon.0.2) _ x lon.2 in
    let tags = first_ok (items_at tag_at lat.0.1 lat.0.2) _ x lat.2 in
    let same : (Node lon.0.0 lat.0.0 tags.0.0, tags.0.1) ≡ x = cc in
    let all = items_ok tag_at is_tag tag_ok lat.0.1 lat.0.2 tags.0
    (latitude_ok lon.0.1 lon.0.2 lat.0 (longitude_ok s bytes lon.0 sound lon.1) lat.1) tags.1 in
    (ap (λ y. is_body y.0) (sym same) ∙ and_from _ _ refl (tags_texts tags.0.0 all.0), ap (λ y. is_sound y.1) (sym same) ∙ all.1)

way_ok : (s : Segment) (bytes : List ℕ) (x : Body × Segment) → is_sound s ≡ true → way_at s bytes ≡ Ok x →
    (is_body x.0 ≡ true) × (is_sound x.1 ≡ true)
unfolding way_at
way_ok s bytes x sound h =
    let c = first_ok (section_at bytes) _ x h in
    let l = first_ok (with_section s.seen c.0.0) _ x c.2 in
    let ids = first_ok (items_at reference_at (with_seen s l.0) c.0.0) _ x l.2 in
    let tags = first_ok (items_at tag_at ids.0.1 c.0.1) _ x ids.2 in
    let same : (Way ids.0.0 tags.0.0, tags.0.1) ≡ x = cc in
    let references = items_ok reference_at is_id reference_ok (with_seen s l.0) c.0.0 ids.0 sound ids.1 in
    let all = items_ok tag_at is_tag tag_ok ids.0.1 c.0.1 tags.0 references.1 tags.1 in
    (ap (λ y. is_body y.0) (sym same) ∙ and_from _ _ references.0 (tags_texts tags.0.0 all.0), ap (λ y. is_sound y.1) (sym same) ∙ all.1)

relation_ok : (s : Segment) (bytes : List ℕ) (x : Body × Segment) → is_sound s ≡ true → relation_at s bytes ≡ Ok x →
    (is_body x.0 ≡ true) × (is_sound x.1 ≡ true)
unfolding relation_at
relation_ok s bytes x sound h =
    let c = first_ok (section_at bytes) _ x h in
    let m = first_ok (items_at member_at s c.0.0) _ x c.2 in
    let tags = first_ok (items_at tag_at m.0.1 c.0.1) _ x m.2 in
    let same : (Relation m.0.0 tags.0.0, tags.0.1) ≡ x = cc in
    let members = items_ok member_at is_member member_ok s c.0.0 m.0 sound m.1 in
    let all = items_ok tag_at is_tag tag_ok m.0.1 c.0.1 tags.0 members.1 tags.1 in
    let texts = list_all-append is_text (roles_of m.0.0) (texts_of_tags tags.0.0)
    ∙ and_from _ _ (members_roles m.0.0 members.0) (tags_texts tags.0.0 all.0) in
    (ap (λ y. is_body y.0) (sym same) ∙ and_from _ _ (members_ids m.0.0 members.0) texts, ap (λ y. is_sound y.1) (sym same) ∙ all.1)

body_ok : (k : Kind) (s : Segment) (bytes : List ℕ) (x : Body × Segment) → is_sound s ≡ true → body_at k s bytes ≡ Ok x →
    (is_body x.0 ≡ true) × (is_sound x.1 ≡ true)
unfolding body_at
body_ok k s [] x sound h = let same : (Deleted k, s) ≡ x = cc in
    (ap (λ y. is_body y.0) (sym same), ap (λ y. is_sound y.1) (sym same) ∙ sound)
body_ok kind.Node s (b ∷ bytes) x sound h = node_ok s (b ∷ bytes) x sound h
body_ok kind.Way s (b ∷ bytes) x sound h = way_ok s (b ∷ bytes) x sound h
body_ok kind.Relation s (b ∷ bytes) x sound h = relation_ok s (b ∷ bytes) x sound h

no_fault : (id : ℤ) (meta : Meta) (body : Body) → is_id id ≡ true → is_meta meta ≡ true → is_body body ≡ true →
    first_fault id meta body ≡ None
no_fault id meta body i m b =
    let numbers = and_parts (is_version meta.version && (is_number meta.changeset && is_number meta.uid)) _ m in
    let version = and_parts (is_version meta.version) _ numbers.0 in
    let some = and_parts (not (eqb meta.version 0)) (is_number meta.version) version.0 in
    let author = and_parts (is_number meta.changeset) (is_number meta.uid) version.1 in
    let dated = and_parts (is_time meta.time) _ numbers.1 in
    let user = and_parts (is_dated meta) (is_text meta.user) dated.1 in
    let body_parts = and_parts (list_all is_id (ids_of body)) _ b in
    let above : eqb meta.version 0 ≡ false = not-true _ some.0 in
    let ids : list_all is_id (id ∷ ids_of body) ≡ true = and_from _ _ i body_parts.0 in
    let small : list_all is_number (meta.version ∷ meta.changeset ∷ meta.uid ∷ []) ≡ true =
    and_from _ _ some.1 (and_from _ _ author.0 (and_from _ _ author.1 refl)) in
    let texts : list_all is_text (meta.user ∷ texts_of body) ≡ true = and_from _ _ user.1 body_parts.1 in
    rw (ids, above, small, dated.0, user.0, texts) refl

-- the data that the steps read has no fault
pub set_faultless : (k : Kind) (s : Segment) (content : List ℕ) (x : ℤ × Segment × List ℕ) (m : Meta × Segment × List ℕ)
    (b : Body × Segment) → is_sound s ≡ true →
    id_at s content ≡ Ok x → meta_at x.1 x.2 ≡ Ok m → body_at k m.1 m.2 ≡ Ok b →
    (first_fault x.0 m.0 b.0 ≡ None) × (is_sound b.1 ≡ true)
set_faultless k s content x m b sound first second third =
    let id = id_ok s content x sound first in
    let meta = meta_ok x.1 x.2 m id.1 second in
    let body = body_ok k m.1 m.2 b meta.1 third in
    (no_fault x.0 m.0 b.0 id.0 meta.0 body.0, body.1)

-- ---- the version is within its ranges
node_range : (s : Segment) (bytes : List ℕ) (x : Body × Segment) → node_at s bytes ≡ Ok x → IsInRange (normal_body x.0)
unfolding node_at
node_range s bytes x h =
    let lon = first_ok (longitude_at s bytes) _ x h in
    let lat = first_ok (latitude_at lon.0.1 lon.0.2) _ x lon.2 in
    let tags = first_ok (items_at tag_at lat.0.1 lat.0.2) _ x lat.2 in
    let same : (Node lon.0.0 lat.0.0 tags.0.0, tags.0.1) ≡ x = same_value _ _ tags.2 in
    let P : Body × Segment → Type 0 = λ y. IsInRange (normal_body y.0) in
    subst P same (longitude_range s bytes lon.0 lon.1, latitude_range lon.0.1 lon.0.2 lat.0 lat.1)

way_range : (s : Segment) (bytes : List ℕ) (x : Body × Segment) → way_at s bytes ≡ Ok x → IsInRange (normal_body x.0)
unfolding way_at
way_range s bytes x h =
    let c = first_ok (section_at bytes) _ x h in
    let l = first_ok (with_section s.seen c.0.0) _ x c.2 in
    let ids = first_ok (items_at reference_at (with_seen s l.0) c.0.0) _ x l.2 in
    let tags = first_ok (items_at tag_at ids.0.1 c.0.1) _ x ids.2 in
    let same : (Way ids.0.0 tags.0.0, tags.0.1) ≡ x = same_value _ _ tags.2 in
    let P : Body × Segment → Type 0 = λ y. IsInRange (normal_body y.0) in
    subst P same tt

relation_range : (s : Segment) (bytes : List ℕ) (x : Body × Segment) → relation_at s bytes ≡ Ok x → IsInRange (normal_body x.0)
unfolding relation_at
relation_range s bytes x h =
    let c = first_ok (section_at bytes) _ x h in
    let m = first_ok (items_at member_at s c.0.0) _ x c.2 in
    let tags = first_ok (items_at tag_at m.0.1 c.0.1) _ x m.2 in
    let same : (Relation m.0.0 tags.0.0, tags.0.1) ≡ x = same_value _ _ tags.2 in
    let P : Body × Segment → Type 0 = λ y. IsInRange (normal_body y.0) in
    subst P same tt

body_range : (k : Kind) (s : Segment) (bytes : List ℕ) (x : Body × Segment) → body_at k s bytes ≡ Ok x → IsInRange (normal_body x.0)
unfolding body_at
body_range k s [] x h =
    let same : (Deleted k, s) ≡ x = same_value _ _ h in
    let P : Body × Segment → Type 0 = λ y. IsInRange (normal_body y.0) in
    subst P same tt
body_range kind.Node s (b ∷ bytes) x h = node_range s (b ∷ bytes) x h
body_range kind.Way s (b ∷ bytes) x h = way_range s (b ∷ bytes) x h
body_range kind.Relation s (b ∷ bytes) x h = relation_range s (b ∷ bytes) x h

-- a version that is read in a sound segment is within its ranges, and the segment after it is sound
pub set_version : (k : Kind) (s : Segment) (content : List ℕ) (x : VersionData × Segment) → is_sound s ≡ true → set_at k s content ≡ Ok x →
    IsVersion x.0 × (is_sound x.1 ≡ true)
unfolding set_at
set_version k s content x sound h =
    let id = first_ok (id_at s content) _ x h in
    let meta = first_ok (meta_at id.0.1 id.0.2) _ x id.2 in
    let body = first_ok (body_at k meta.0.1 meta.0.2) _ x meta.2 in
    let same : (version_of id.0.0 meta.0.0 body.0.0, body.0.1) ≡ x = same_value _ _ body.2 in
    let P : VersionData × Segment → Type 0 = λ y. IsVersion y.0 × (is_sound y.1 ≡ true) in
    let faultless = set_faultless k s content id.0 meta.0 body.0 sound id.1 meta.1 body.1 in
    subst P same (valid_version id.0.0 meta.0.0 body.0.0 faultless.0 (body_range k meta.0.1 meta.0.2 body.0 body.1), faultless.1)

-- Versions that are read in sequence in a sound segment are within their ranges, and the segment after them is sound.
pub sets_versions : (s : Segment) (sets : List (Kind × List ℕ)) (x : List VersionData × Segment) → is_sound s ≡ true →
    sets_at s sets ≡ Ok x → All IsVersion x.0 × (is_sound x.1 ≡ true)
sets_versions s [] x sound h =
    let same : ([], s) ≡ x = same_value _ _ h in
    let P : List VersionData × Segment → Type 0 = λ y. All IsVersion y.0 × (is_sound y.1 ≡ true) in
    subst P same ((λ k d below. absurd (omega arith)), sound)
sets_versions s (set ∷ sets) x sound h =
    let f = first_ok (set_at set.0 s set.1) _ x h in
    let g = first_ok (sets_at f.0.1 sets) _ x f.2 in
    let same : (f.0.0 ∷ g.0.0, g.0.1) ≡ x = same_value _ _ g.2 in
    let P : List VersionData × Segment → Type 0 = λ y. All IsVersion y.0 × (is_sound y.1 ≡ true) in
    let one = set_version set.0 s set.1 f.0 sound f.1 in
    let later = sets_versions f.0.1 sets g.0 one.1 g.1 in
    subst P same (All-cons IsVersion f.0.0 g.0.0 one.0 later.0, later.1)
