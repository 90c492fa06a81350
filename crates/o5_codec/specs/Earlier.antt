-- The contents of a segment, by the list of its objects and the list of its inline entries. Delta coding and the string
-- table are those of the OSM wiki's page on o5m.
use Rattle.std.specs.Prelude.{◌≡◌, ℕ, ℤ, pos, Bool, true, false, List, [], ◌∷◌, ◌++◌, is_some, unwrap_or, Result, Ok}
use Rattle.std.specs.Prelude.{if◌then◌else◌}
use Rattle.std.specs.List.{flat_map, list_any}
use Rattle.std.proofs.Common.{inl, inr}
use Rattle.osm_model.specs.declared.kind.Kind.{Kind}
use Rattle.osm_model.specs.declared.kind.Kind.TheVariants as kind
use Rattle.osm_model.specs.declared.tags.Tag.{Tag}
use Rattle.osm_model.specs.declared.members.Member.{Member}
use Rattle.osm_model.specs.declared.body.Body.{Body}
use Rattle.osm_model.specs.declared.body.Body.TheVariants.{Deleted, Node, Way, Relation}
use Rattle.osm_model.specs.Data.{VersionData}
use Rattle.o5_codec.specs.declared.reason.O5Reason.{O5Reason}
use Rattle.o5_codec.specs.declared.base.Bases.{Bases}
use Rattle.o5_codec.specs.declared.read.segment.Segment.{Segment}
use Rattle.o5_codec.specs.Author.{Author}
use Rattle.o5_codec.specs.declared.read.segment.ListsSeen.{ListsSeen}
use Rattle.o5_codec.specs.declared.read.segment.ListsSeen.TheVariants.{Neither, References, NodeMembers}
use Rattle.o5_codec.specs.declared.strings.Form.{Form}
use Rattle.o5_codec.specs.declared.strings.Form.TheVariants.{Pair, Single}
use Rattle.o5_codec.specs.Entry.{EntryStrings}
use Rattle.o5_codec.specs.Table.{table_of}
use Rattle.o5_codec.specs.Results.{and_then}
use Rattle.o5_codec.specs.Body.{set_at}
use Rattle.o5_codec.specs.Spelling.{StringsAtFront, AuthorAfterChangeset, AuthorAtFront, TagAtFront, MemberAtFront}
use Rattle.o5_codec.specs.Spelling.{ItemsInAll}
use Rattle.o5_codec.specs.Spelling.{NodeInAll, WayInAll, RelationInAll, BodyInAll, SpellsSet}

-- ---- the values that a version spells for a field, in their order

-- no time spells 0
abbrev pub times : VersionData → List ℕ
times v = unwrap_or v.time 0 ∷ []

-- without a time there is no changeset
abbrev pub changesets : VersionData → List ℕ
changesets v = if is_some v.time then v.changeset ∷ [] else []

-- a deleted node has no location
abbrev pub longitudes : Body → List ℤ
longitudes (Deleted k) = []
longitudes (Node lon lat tags) = lon ∷ []
longitudes (Way refs tags) = []
longitudes (Relation members tags) = []

abbrev pub latitudes : Body → List ℤ
latitudes (Deleted k) = []
latitudes (Node lon lat tags) = lat ∷ []
latitudes (Way refs tags) = []
latitudes (Relation members tags) = []

abbrev pub references : Body → List ℤ
references (Deleted k) = []
references (Node lon lat tags) = []
references (Way refs tags) = refs
references (Relation members tags) = []

abbrev pub members_of : Body → List Member
members_of (Deleted k) = []
members_of (Node lon lat tags) = []
members_of (Way refs tags) = []
members_of (Relation members tags) = members

-- ids of members; each kind is a field of its own
abbrev pub node_id : Kind → ℤ → List ℤ
node_id kind.Node id = id ∷ []
node_id kind.Way id = []
node_id kind.Relation id = []

abbrev pub way_id : Kind → ℤ → List ℤ
way_id kind.Node id = []
way_id kind.Way id = id ∷ []
way_id kind.Relation id = []

abbrev pub relation_id : Kind → ℤ → List ℤ
relation_id kind.Node id = []
relation_id kind.Way id = []
relation_id kind.Relation id = id ∷ []

abbrev pub node_ids : List Member → List ℤ
node_ids members = flat_map (λ m. node_id m.kind m.id) members

abbrev pub way_ids : List Member → List ℤ
way_ids members = flat_map (λ m. way_id m.kind m.id) members

abbrev pub relation_ids : List Member → List ℤ
relation_ids members = flat_map (λ m. relation_id m.kind m.id) members

-- ---- the segment after some objects and inline entries

-- the last value of a list, or `x` if there is none
abbrev pub last_from : {X : Type 0} → X → List X → X
last_from x [] = x
last_from x (y ∷ ys) = last_from y ys

-- the value last spelled for a field, or `x` if there is none
abbrev pub last_spelled : {X : Type 0} → X → (VersionData → List X) → List VersionData → X
last_spelled x spelled objects = last_from x (flat_map spelled objects)

-- the base of each field: the value last spelled for it, else 0
abbrev pub bases_of : List VersionData → Bases
bases_of objects = record {
  id = last_spelled (pos 0) (λ v. v.id ∷ []) objects;
  time = last_spelled 0 times objects;
  changeset = last_spelled 0 changesets objects;
  lon = last_spelled (pos 0) (λ v. longitudes v.body) objects;
  lat = last_spelled (pos 0) (λ v. latitudes v.body) objects;
  reference = last_spelled (pos 0) (λ v. references v.body) objects;
  node_member = last_spelled (pos 0) (λ v. node_ids (members_of v.body)) objects;
  way_member = last_spelled (pos 0) (λ v. way_ids (members_of v.body)) objects;
  relation_member = last_spelled (pos 0) (λ v. relation_ids (members_of v.body)) objects;
}

-- a list that isn't empty
abbrev pub is_some_of : {X : Type 0} → List X → Bool
is_some_of [] = false
is_some_of (x ∷ xs) = true

-- a way with references
abbrev pub has_references : VersionData → Bool
has_references v = is_some_of (references v.body)

-- a relation with a node member
abbrev pub has_node_members : VersionData → Bool
has_node_members v = is_some_of (node_ids (members_of v.body))

-- which of the two kinds of lists some objects have; no segment has both kinds
abbrev pub lists_of : List VersionData → ListsSeen
lists_of objects =
    if list_any has_references objects then References else
    (if list_any has_node_members objects then NodeMembers else Neither)

-- the segment after some objects and inline entries
abbrev pub segment_of : List VersionData → List EntryStrings → Segment
segment_of objects entries = record { bases = bases_of objects; table = table_of entries; seen = lists_of objects }

-- ---- the inline entries in the bytes that spell a version, in their order

abbrev pub inline_strings : (form : Form) (table : List EntryStrings) (bytes : List ℕ)
    (x : EntryStrings × List EntryStrings × List ℕ) →
    StringsAtFront form table bytes x → List EntryStrings
inline_strings form table bytes x (inl inline) = x.0 ∷ []
inline_strings form table bytes x (inr reference) = []

abbrev pub inline_user : (changeset : ℕ) (s : Segment) (bytes : List ℕ) (x : Author × Segment × List ℕ) →
    AuthorAfterChangeset changeset s bytes x → List EntryStrings
inline_user changeset s [] x at_front = []
inline_user changeset s (b ∷ bytes) x at_front =
    let user = at_front.1 in
    inline_strings Pair s.table (b ∷ bytes) (user.0, user.1, x.2) user.2

abbrev pub inline_author : (time : ℕ) (s : Segment) (bytes : List ℕ) (x : Author × Segment × List ℕ) →
    AuthorAtFront time s bytes x → List EntryStrings
inline_author time s bytes x (inl none) = []
inline_author time s bytes x (inr author) = inline_user author.1.0.0 author.1.0.1 author.1.0.2 x author.1.2

-- the inline entries of the items of a list, in sequence
abbrev pub inline_items : {X : Type 0} (AtFront : Segment → List ℕ → X × Segment × List ℕ → Type 0) →
    ((s : Segment) (bytes : List ℕ) (x : X × Segment × List ℕ) → AtFront s bytes x → List EntryStrings) →
    (s : Segment) (bytes : List ℕ) (xs : List X) (end : Segment) → ItemsInAll AtFront s bytes xs end → List EntryStrings
inline_items AtFront of_item s bytes [] end at_front = []
inline_items AtFront of_item s bytes (x ∷ xs) end at_front =
    of_item s bytes (x, at_front.0, at_front.1) at_front.2
    ++ inline_items AtFront of_item at_front.0 at_front.1 xs end at_front.3

abbrev pub inline_tag : (s : Segment) (bytes : List ℕ) (x : Tag × Segment × List ℕ) → TagAtFront s bytes x →
    List EntryStrings
inline_tag s bytes x at_front = inline_strings Pair s.table bytes (at_front.0, at_front.1, x.2) at_front.2

abbrev pub inline_tags : (s : Segment) (bytes : List ℕ) (tags : List Tag) (end : Segment) →
    ItemsInAll TagAtFront s bytes tags end → List EntryStrings
inline_tags = inline_items TagAtFront inline_tag

abbrev pub inline_member : (s : Segment) (bytes : List ℕ) (x : Member × Segment × List ℕ) → MemberAtFront s bytes x →
    List EntryStrings
inline_member s bytes x at_front = inline_strings Single s.table at_front.0.1
    (at_front.1.0, at_front.1.1, x.2) at_front.6

abbrev pub inline_members : (s : Segment) (bytes : List ℕ) (members : List Member) (end : Segment) →
    ItemsInAll MemberAtFront s bytes members end → List EntryStrings
inline_members = inline_items MemberAtFront inline_member

abbrev pub inline_node : (s : Segment) (bytes : List ℕ) (x : Body × Segment) → NodeInAll s bytes x → List EntryStrings
inline_node s bytes x at_front = inline_tags at_front.1.1 at_front.1.2 at_front.2 x.1 at_front.5

abbrev pub inline_way : (s : Segment) (bytes : List ℕ) (x : Body × Segment) → WayInAll s bytes x → List EntryStrings
inline_way s bytes x at_front = inline_tags at_front.2.1 at_front.0.1 at_front.3 x.1 at_front.7

abbrev pub inline_relation : (s : Segment) (bytes : List ℕ) (x : Body × Segment) → RelationInAll s bytes x →
    List EntryStrings
inline_relation s bytes x at_front =
    inline_members s at_front.0.0 at_front.1.0 at_front.1.1 at_front.4 ++
    inline_tags at_front.1.1 at_front.0.1 at_front.2 x.1 at_front.5

abbrev pub inline_body : (k : Kind) (s : Segment) (bytes : List ℕ) (x : Body × Segment) → BodyInAll k s bytes x →
    List EntryStrings
inline_body k s [] x at_front = []
inline_body kind.Node s (b ∷ bytes) x at_front = inline_node s (b ∷ bytes) x at_front
inline_body kind.Way s (b ∷ bytes) x at_front = inline_way s (b ∷ bytes) x at_front
inline_body kind.Relation s (b ∷ bytes) x at_front = inline_relation s (b ∷ bytes) x at_front

-- the inline entries of a data set: those of the user, the members, the tags
abbrev pub inline_entries : (k : Kind) (s : Segment) (content : List ℕ) (x : VersionData × Segment) →
    SpellsSet k s content x → List EntryStrings
inline_entries k s content x spells =
    let meta = spells.meta_at_front in
    inline_author meta.1.0 meta.1.1 meta.1.2 meta.2 meta.5 ++
    inline_body k spells.meta.1 spells.meta.2 spells.body spells.body_at_front

-- ---- data sets in sequence

-- contents, each with its kind, spell versions in sequence: `inline` are the inline entries of all contents, `s` is the
-- segment before the contents, and `end` the segment after them
abbrev pub SpellSets : Segment → List (Kind × List ℕ) → List VersionData → List EntryStrings → Segment → Type 0
SpellSets s [] [] inline end = (inline ≡ []) × (s ≡ end)
SpellSets s [] (v ∷ versions) inline end = ⊥
SpellSets s (set ∷ sets) [] inline end = ⊥
SpellSets s (set ∷ sets) (v ∷ versions) inline end =
    (middle : Segment) × (later : List EntryStrings) × (spells : SpellsSet set.0 s set.1 (v, middle)) ×
    (inline ≡ inline_entries set.0 s set.1 (v, middle) spells ++ later) × SpellSets middle sets versions later end

-- the versions of data sets that are read in sequence, and the segment after them
abbrev pub sets_at : Segment → List (Kind × List ℕ) → Result (List VersionData × Segment) O5Reason
sets_at s [] = Ok ([], s)
sets_at s (set ∷ sets) =
    and_then (set_at set.0 s set.1) (λ x. and_then (sets_at x.1 sets) (λ more. Ok (x.0 ∷ more.0, more.1)))
