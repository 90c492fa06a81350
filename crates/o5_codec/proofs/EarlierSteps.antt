-- The changes of a segment by a data set that spells a version: the bases by the version, the table by the inline
-- entries.
use Rattle.std.proofs.Common.{◌≡◌, ◌∙◌, inl, inr, ap, sym, refl, ℕ, ℤ, true, false, eqb, List, [], ◌∷◌, ◌++◌, append_assoc, is_some}
use Rattle.std.proofs.Common.{unwrap_or, arith, Ok, if◌then◌else◌}
use Rattle.std.proofs.lemmas.List.{append-nil}
use Rattle.std.proofs.lemmas.Bool.Decides.{nat_tests}
use Rattle.osm_model.specs.declared.kind.Kind.{Kind}
use Rattle.osm_model.specs.declared.kind.Kind.TheVariants as kind
use Rattle.osm_model.specs.declared.tags.Tag.{Tag}
use Rattle.osm_model.specs.declared.members.Member.{Member}
use Rattle.osm_model.specs.declared.meta.Meta.{Meta}
use Rattle.osm_model.specs.declared.body.Body.{Body}
use Rattle.osm_model.specs.declared.body.Body.TheVariants.{Deleted, Node, Way, Relation}
use Rattle.osm_model.specs.Data.{VersionData, normal_body}
use Rattle.o5_codec.specs.declared.base.Bases.{Bases}
use Rattle.o5_codec.specs.declared.read.segment.Segment.{Segment}
use Rattle.o5_codec.specs.Author.{Author}
use Rattle.o5_codec.specs.declared.strings.Form.{Form}
use Rattle.o5_codec.specs.declared.strings.Form.TheVariants.{Pair, Single}
use Rattle.o5_codec.specs.Entry.{EntryStrings}
use Rattle.o5_codec.specs.Table.{table_with, table_of}
use Rattle.o5_codec.specs.Base.{moved_id}
use Rattle.o5_codec.specs.Segment.{time_of, meta_of}
use Rattle.o5_codec.specs.Body.{moved_member}
use Rattle.o5_codec.specs.Spelling.{StringsAtFront, AuthorAfterChangeset, AuthorAtFront, MetaAtFront, TagAtFront, MemberAtFront, ItemsInAll}
use Rattle.o5_codec.specs.Spelling.{ReferenceAtFront, NodeInAll, WayInAll, RelationInAll, BodyInAll, SpellsSet}
use Rattle.o5_codec.specs.Earlier.{last_from, changesets, longitudes, latitudes, references, members_of, node_id, way_id, relation_id}
use Rattle.o5_codec.specs.Earlier.{node_ids, way_ids, relation_ids, inline_strings, inline_user, inline_author, inline_tag, inline_tags}
use Rattle.o5_codec.specs.Earlier.{inline_member, inline_members, inline_body, inline_entries}
use Rattle.o5_codec.proofs.SoundStrings.{first_ok, same_value}
use Rattle.o5_codec.proofs.EntryLaws.{table_more}

-- ---- the table
abbrev pub Grows : Segment → Segment → List EntryStrings → Type 0
Grows s end inline = (entries : List EntryStrings) → s.table ≡ table_of entries → end.table ≡ table_of (entries ++ inline)

pub grows_not : (s end : Segment) → end.table ≡ s.table → Grows s end []
grows_not s end same entries h = same ∙ h ∙ ap table_of (sym (append-nil entries))

pub grows_then : (s middle end : Segment) (first second : List EntryStrings) → Grows s middle first → Grows middle end second →
    Grows s end (first ++ second)
grows_then s middle end first second one more entries h =
    more (entries ++ first) (one entries h) ∙ ap table_of (append_assoc entries first second)

strings_table : (form : Form) (table : List EntryStrings) (bytes : List ℕ) (x : EntryStrings × List EntryStrings × List ℕ)
    (spelled : StringsAtFront form table bytes x) (entries : List EntryStrings) →
    table ≡ table_of entries → x.1 ≡ table_of (entries ++ inline_strings form table bytes x spelled)
strings_table form table bytes x (inl inline) entries h = inline.3 ∙ ap (table_with x.0) h ∙ sym (table_more entries x.0)
strings_table form table bytes x (inr reference) entries h = reference.3 ∙ h ∙ ap table_of (sym (append-nil entries))

-- ---- metadata
abbrev pub meta_bases : Bases → Meta → Bases
meta_bases b m = record b { time = unwrap_or m.time 0; changeset = last_from b.changeset (if is_some m.time then m.changeset ∷ [] else []) }

without_time : (b : Bases) (time changeset : ℕ) → eqb time 0 ≡ true →
    record b { time = time } ≡ record b {
      time = unwrap_or (time_of time) 0;
      changeset =
          last_from b.changeset (if is_some (time_of time) then changeset ∷ [] else []);
    }
without_time b time changeset h = let zero : time ≡ 0 = grind (arith, nat_tests) in rw (h, zero) refl

with_time : (b : Bases) (time changeset : ℕ) → eqb time 0 ≡ false →
    record b { time = time; changeset = changeset } ≡ record b {
      time = unwrap_or (time_of time) 0;
      changeset =
          last_from b.changeset (if is_some (time_of time) then changeset ∷ [] else []);
    }
with_time b time changeset h = rw h refl

-- a user keeps the bases
record AfterChangeset (changeset : ℕ) (s : Segment) (x : Author × Segment × List ℕ) (inline : List EntryStrings) : Type 0 where
  changeset_is : x.0.changeset ≡ changeset
  bases_are : x.1.bases ≡ s.bases
  seen_is : x.1.seen ≡ s.seen
  table_is : Grows s x.1 inline

after_end : (changeset : ℕ) (s : Segment) (bytes : List ℕ) (x : Author × Segment × List ℕ)
    (spelled : AuthorAfterChangeset changeset s bytes x) →
    AfterChangeset changeset s x (inline_user changeset s bytes x spelled)
after_end changeset s [] x spelled = record {
  changeset_is = ap (λ z. z.0.changeset) spelled;
  bases_are = ap (λ z. z.1.bases) spelled;
  seen_is = ap (λ z. z.1.seen) spelled;
  table_is = grows_not s x.1 (ap (λ z. z.1.table) spelled);
}
after_end changeset s (b ∷ bytes) x spelled =
    let user = spelled.1 in
    record {
      changeset_is = ap (λ a. a.changeset) spelled.2;
      bases_are = ap (λ z. z.bases) user.4;
      seen_is = ap (λ z. z.seen) user.4;
      table_is = λ entries h. ap (λ z. z.table) user.4 ∙ strings_table Pair s.table (b ∷ bytes) (user.0, user.1, x.2) user.2 entries h;
    }

-- the state after the metadata
pub record AfterMeta (s : Segment) (x : Meta × Segment × List ℕ) (inline : List EntryStrings) : Type 0 where
  pub bases_are : x.1.bases ≡ meta_bases s.bases x.0
  pub seen_is : x.1.seen ≡ s.seen
  pub table_is : Grows s x.1 inline

meta_by_author : (s : Segment) (v : ℕ × List ℕ) (t : ℕ × Segment × List ℕ) (x : Meta × Segment × List ℕ) (a : Author × Segment × List ℕ) →
    t.1 ≡ record s { bases = record s.bases { time = t.0 } } → (spelled : AuthorAtFront t.0 t.1 t.2 a) →
    x ≡ (meta_of v.0 t.0 a.0, a.1, a.2) →
    AfterMeta s x (inline_author t.0 t.1 t.2 a spelled)
meta_by_author s v t x a timed (inl none) made =
    let same : x.1 ≡ t.1 = ap (λ z. z.1) made ∙ ap (λ z. z.1) none.1 in
    record {
      bases_are = ap (λ z. z.bases) (same ∙ timed) ∙ without_time s.bases t.0 a.0.changeset none.0
          ∙ ap (meta_bases s.bases) (sym (ap (λ z. z.0) made));
      seen_is = ap (λ z. z.seen) (same ∙ timed);
      table_is = grows_not s x.1 (ap (λ z. z.table) (same ∙ timed));
    }
meta_by_author s v t x a timed (inr some) made =
    let c = some.1.0 in
    let moved = some.1.1 in
    let rest = after_end c.0 c.1 c.2 a some.1.2 in
    let last : x.1 ≡ a.1 = ap (λ z. z.1) made in
    let before : Bases = record s.bases { time = t.0 } in
    let changed : c.1.bases ≡ record before { changeset = c.0 } = ap (λ z. z.bases) moved.3
    ∙ ap (λ (z : Segment). record z.bases { changeset = c.0 }) timed in
    let named : record before { changeset = c.0 } ≡ record before { changeset = a.0.changeset } =
    ap (λ (n : ℕ). record before { changeset = n }) (sym rest.changeset_is) in
    record {
      bases_are = ap (λ z. z.bases) last ∙ rest.bases_are ∙ changed ∙ named ∙ with_time s.bases t.0 a.0.changeset some.0
          ∙ ap (meta_bases s.bases) (sym (ap (λ z. z.0) made));
      seen_is = ap (λ z. z.seen) last ∙ rest.seen_is ∙ ap (λ z. z.seen) moved.3 ∙ ap (λ z. z.seen) timed;
      table_is = λ entries h. ap (λ z. z.table) last ∙ rest.table_is entries (ap (λ z. z.table) moved.3 ∙ ap (λ z. z.table) timed ∙ h);
    }

-- The metadata of a data set moves the bases and adds its inline entries.
pub meta_end : (s : Segment) (bytes : List ℕ) (x : Meta × Segment × List ℕ) (spelled : MetaAtFront s bytes x) →
    AfterMeta s x (inline_author spelled.1.0 spelled.1.1 spelled.1.2 spelled.2 spelled.5)
meta_end s bytes x spelled = meta_by_author s spelled.0 spelled.1 x spelled.2 spelled.4.3 spelled.5 spelled.6

-- ---- lists
-- the state after tags
pub record Kept (s end : Segment) (inline : List EntryStrings) : Type 0 where
  pub bases_are : end.bases ≡ s.bases
  pub seen_is : end.seen ≡ s.seen
  pub table_is : Grows s end inline

tag_end : (s : Segment) (bytes : List ℕ) (x : Tag × Segment × List ℕ) (spelled : TagAtFront s bytes x) →
    Kept s x.1 (inline_tag s bytes x spelled)
tag_end s bytes x spelled = record {
  bases_are = ap (λ z. z.bases) spelled.4;
  seen_is = ap (λ z. z.seen) spelled.4;
  table_is = λ entries h. ap (λ z. z.table) spelled.4 ∙ strings_table Pair s.table bytes (spelled.0, spelled.1, x.2) spelled.2 entries h;
}

-- Tags change only the table, by their inline entries.
pub tags_end : (s : Segment) (bytes : List ℕ) (tags : List Tag) (end : Segment) (spelled : ItemsInAll TagAtFront s bytes tags end) →
    Kept s end (inline_tags s bytes tags end spelled)
tags_end s bytes [] end spelled = record {
  bases_are = ap (λ z. z.bases) (sym spelled.1);
  seen_is = ap (λ z. z.seen) (sym spelled.1);
  table_is = grows_not s end (ap (λ z. z.table) (sym spelled.1));
}
tags_end s bytes (tag ∷ tags) end spelled =
    let first = tag_end s bytes (tag, spelled.0, spelled.1) spelled.2 in
    let later = tags_end spelled.0 spelled.1 tags end spelled.3 in
    record {
      bases_are = later.bases_are ∙ first.bases_are;
      seen_is = later.seen_is ∙ first.seen_is;
      table_is = grows_then s spelled.0 end _ _ first.table_is later.table_is;
    }

-- the state after references
pub record Referred (s end : Segment) (ids : List ℤ) : Type 0 where
  pub bases_are : end.bases ≡ record s.bases { reference = last_from s.bases.reference ids }
  pub seen_is : end.seen ≡ s.seen
  pub table_is : end.table ≡ s.table

-- References move only the base of references.
pub references_end : (s : Segment) (bytes : List ℕ) (ids : List ℤ) (end : Segment) → ItemsInAll ReferenceAtFront s bytes ids end →
    Referred s end ids
references_end s bytes [] end spelled = record {
  bases_are = ap (λ z. z.bases) (sym spelled.1);
  seen_is = ap (λ z. z.seen) (sym spelled.1);
  table_is = ap (λ z. z.table) (sym spelled.1);
}
references_end s bytes (id ∷ ids) end spelled =
    let moved = spelled.2.3 in
    let later = references_end spelled.0 spelled.1 ids end spelled.3 in
    let first : spelled.0.bases ≡ record s.bases { reference = id } = ap (λ z. z.bases) moved in
    record {
      bases_are = later.bases_are ∙ ap (λ (b : Bases). record b { reference = last_from b.reference ids }) first;
      seen_is = later.seen_is ∙ ap (λ z. z.seen) moved;
      table_is = later.table_is ∙ ap (λ z. z.table) moved;
    }

-- the bases after members
abbrev pub member_bases : Bases → List Member → Bases
member_bases b members = record b {
  node_member = last_from b.node_member (node_ids members);
  way_member = last_from b.way_member (way_ids members);
  relation_member = last_from b.relation_member (relation_ids members);
}

-- the bases after a member of the kind `k` and the id `id`
abbrev pub bases_with : Bases → Kind → ℤ → Bases
bases_with b k id = record b {
  node_member = last_from b.node_member (node_id k id);
  way_member = last_from b.way_member (way_id k id);
  relation_member = last_from b.relation_member (relation_id k id);
}

moved_bases : (b : Bases) (k : Kind) (difference : ℤ) (id : ℤ × Bases) → moved_member b k difference ≡ Ok id → id.1 ≡ bases_with b k id.0
moved_bases b kind.Node difference id h =
    let f = first_ok (moved_id b.node_member difference) _ id h in
    let same : (f.0, record b { node_member = f.0 }) ≡ id = same_value _ _ f.2 in
    ap (λ z. z.1) (sym same) ∙ ap (λ (n : ℤ). record b { node_member = n }) (ap (λ z. z.0) same)
moved_bases b kind.Way difference id h =
    let f = first_ok (moved_id b.way_member difference) _ id h in
    let same : (f.0, record b { way_member = f.0 }) ≡ id = same_value _ _ f.2 in
    ap (λ z. z.1) (sym same) ∙ ap (λ (n : ℤ). record b { way_member = n }) (ap (λ z. z.0) same)
moved_bases b kind.Relation difference id h =
    let f = first_ok (moved_id b.relation_member difference) _ id h in
    let same : (f.0, record b { relation_member = f.0 }) ≡ id = same_value _ _ f.2 in
    ap (λ z. z.1) (sym same) ∙ ap (λ (n : ℤ). record b { relation_member = n }) (ap (λ z. z.0) same)

-- The last value of two lists in sequence is the last of the second list, or of the first if the second is empty.
pub last_append : {X : Type 0} (x : X) (xs ys : List X) → last_from x (xs ++ ys) ≡ last_from (last_from x xs) ys
last_append x [] ys = refl
last_append x (z ∷ xs) ys = last_append z xs ys

bases_more : (b : Bases) (m : Member) (members : List Member) →
    member_bases (bases_with b m.kind m.id) members ≡ member_bases b (m ∷ members)
bases_more b m members = λ i. record b {
  node_member = sym (last_append b.node_member (node_id m.kind m.id) (node_ids members)) i;
  way_member = sym (last_append b.way_member (way_id m.kind m.id) (way_ids members)) i;
  relation_member = sym (last_append b.relation_member (relation_id m.kind m.id) (relation_ids members)) i;
}

-- the state after members
record Joined (s end : Segment) (members : List Member) (inline : List EntryStrings) : Type 0 where
  bases_are : end.bases ≡ member_bases s.bases members
  table_is : Grows s end inline

member_end : (s : Segment) (bytes : List ℕ) (x : Member × Segment × List ℕ) (spelled : MemberAtFront s bytes x) →
    (x.1.bases ≡ bases_with s.bases x.0.kind x.0.id) × Grows s x.1 (inline_member s bytes x spelled)
member_end s bytes x (d, e, m, seen, id, ds, es, ms, sees, ids, role, kind_is, id_is, after) = (
  ap (λ z. z.bases) after ∙ moved_bases s.bases m.0 d.0 id ids ∙ (λ i. bases_with s.bases (sym kind_is i) (sym id_is i)),
  λ entries h. ap (λ z. z.table) after ∙ strings_table Single s.table d.1 (e.0, e.1, x.2) es entries h,
)

members_end : (s : Segment) (bytes : List ℕ) (members : List Member) (end : Segment)
    (spelled : ItemsInAll MemberAtFront s bytes members end) →
    Joined s end members (inline_members s bytes members end spelled)
members_end s bytes [] end spelled = record {
  bases_are = ap (λ z. z.bases) (sym spelled.1);
  table_is = grows_not s end (ap (λ z. z.table) (sym spelled.1));
}
members_end s bytes (m ∷ members) end spelled =
    let first = member_end s bytes (m, spelled.0, spelled.1) spelled.2 in
    let later = members_end spelled.0 spelled.1 members end spelled.3 in
    record {
      bases_are = later.bases_are ∙ ap (λ b. member_bases b members) first.0 ∙ bases_more s.bases m members;
      table_is = grows_then s spelled.0 end _ _ first.1 later.table_is;
    }

-- ---- bodies
abbrev pub body_bases : Bases → Body → Bases
body_bases b body = record b {
  lon = last_from b.lon (longitudes body);
  lat = last_from b.lat (latitudes body);
  reference = last_from b.reference (references body);
  node_member = last_from b.node_member (node_ids (members_of body));
  way_member = last_from b.way_member (way_ids (members_of body));
  relation_member = last_from b.relation_member (relation_ids (members_of body));
}

same_bases : (b : Bases) (body : Body) → body_bases b body ≡ body_bases b (normal_body body)
same_bases b (Deleted k) = refl
same_bases b (Node lon lat tags) = refl
same_bases b (Way refs tags) = refl
same_bases b (Relation members tags) = refl

-- the state after a body
pub record AfterBody (s : Segment) (x : Body × Segment) (inline : List EntryStrings) : Type 0 where
  pub bases_are : x.1.bases ≡ body_bases s.bases x.0
  pub table_is : Grows s x.1 inline

node_end : (s : Segment) (bytes : List ℕ) (x : Body × Segment) (spelled : NodeInAll s bytes x) →
    AfterBody s x (inline_tags spelled.1.1 spelled.1.2 spelled.2 x.1 spelled.5)
node_end s bytes x (lon, lat, tags, lons, lats, tagged, made) =
    let rest = tags_end lat.1 lat.2 tags x.1 tagged in
    let before : lat.1 ≡ record s { bases = record s.bases { lon = lon.0; lat = lat.0 } } = lats.3
    ∙ ap (λ (z : Segment). record z { bases = record z.bases { lat = lat.0 } }) lons.3 in
    record {
      bases_are = rest.bases_are ∙ ap (λ z. z.bases) before ∙ ap (body_bases s.bases) (sym made);
      table_is = λ entries h. rest.table_is entries (ap (λ z. z.table) before ∙ h);
    }

way_end : (s : Segment) (bytes : List ℕ) (x : Body × Segment) (spelled : WayInAll s bytes x) →
    AfterBody s x (inline_tags spelled.2.1 spelled.0.1 spelled.3 x.1 spelled.7)
way_end s bytes x (section, seen, ids, tags, cut, list, referred, tagged, made) =
    let rest = tags_end ids.1 section.1 tags x.1 tagged in
    let before = references_end (record s { seen = seen }) section.0 ids.0 ids.1 referred in
    record {
      bases_are = rest.bases_are ∙ before.bases_are ∙ ap (body_bases s.bases) (sym made);
      table_is = λ entries h. rest.table_is entries (before.table_is ∙ h);
    }

relation_end : (s : Segment) (bytes : List ℕ) (x : Body × Segment) (spelled : RelationInAll s bytes x) →
    AfterBody s x (inline_members s spelled.0.0 spelled.1.0 spelled.1.1 spelled.4
    ++ inline_tags spelled.1.1 spelled.0.1 spelled.2 x.1 spelled.5)
relation_end s bytes x (section, members, tags, cut, joined, tagged, made) =
    let rest = tags_end members.1 section.1 tags x.1 tagged in
    let before = members_end s section.0 members.0 members.1 joined in
    record {
      bases_are = rest.bases_are ∙ before.bases_are ∙ ap (body_bases s.bases) (sym made);
      table_is = grows_then s members.1 x.1 _ _ before.table_is rest.table_is;
    }

body_end : (k : Kind) (s : Segment) (bytes : List ℕ) (x : Body × Segment) (spelled : BodyInAll k s bytes x) →
    AfterBody s x (inline_body k s bytes x spelled)
body_end k s [] x spelled = record {
  bases_are = ap (λ z. z.1.bases) spelled ∙ ap (body_bases s.bases) (sym (ap (λ z. z.0) spelled));
  table_is = grows_not s x.1 (ap (λ z. z.1.table) spelled);
}
body_end kind.Node s (b ∷ bytes) x spelled = node_end s (b ∷ bytes) x spelled
body_end kind.Way s (b ∷ bytes) x spelled = way_end s (b ∷ bytes) x spelled
body_end kind.Relation s (b ∷ bytes) x spelled = relation_end s (b ∷ bytes) x spelled

-- ---- data sets
abbrev pub bases_after : Bases → VersionData → Bases
bases_after b v = body_bases (record b { id = v.id; time = unwrap_or v.time 0; changeset = last_from b.changeset (changesets v) }) v.body

-- A data set moves the bases to the values of its version.
pub set_bases : (k : Kind) (s : Segment) (content : List ℕ) (x : VersionData × Segment) → SpellsSet k s content x →
    x.1.bases ≡ bases_after s.bases x.0
set_bases k s content x spells =
    let id = spells.id in
    let meta = spells.meta in
    let body = spells.body in
    let started : id.1.bases ≡ record s.bases { id = id.0 } = ap (λ z. z.bases) spells.id_at_front.3 in
    let rest = meta_end id.1 id.2 meta spells.meta_at_front in
    let last = body_end k meta.1 meta.2 body spells.body_at_front in
    ap (λ z. z.1.bases) spells.made ∙ last.bases_are
    ∙ ap (λ b. body_bases b body.0) (rest.bases_are ∙ ap (λ b. meta_bases b meta.0) started)
    ∙ same_bases _ body.0 ∙ ap (bases_after s.bases) (sym (ap (λ z. z.0) spells.made))

-- A data set extends the table by its inline entries.
pub set_table : (k : Kind) (s : Segment) (content : List ℕ) (x : VersionData × Segment) (spells : SpellsSet k s content x) →
    Grows s x.1 (inline_entries k s content x spells)
set_table k s content x spells entries h =
    let id = spells.id in
    let meta = spells.meta in
    let rest = meta_end id.1 id.2 meta spells.meta_at_front in
    let last = body_end k meta.1 meta.2 spells.body spells.body_at_front in
    let started : id.1.table ≡ table_of entries = ap (λ z. z.table) spells.id_at_front.3 ∙ h in
    ap (λ z. z.1.table) spells.made ∙ grows_then id.1 meta.1 spells.body.1 _ _ rest.table_is last.table_is entries started
