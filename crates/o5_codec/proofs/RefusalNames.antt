-- A content is refused for a reason of its steps: never for out of memory, an earlier refusal or the end of a file.
use Rattle.std.proofs.Common.{◌≡◌, ℕ, ℤ, pos, negsuc, zero, suc, ◌-◌, ◌^◌, Bool, true, eqb, leb, ltb, List, [], ◌∷◌, length, take, drop}
use Rattle.std.proofs.Common.{Option, Some, None, refl, Result, Ok, Err, if◌then◌else◌}
use Rattle.std.specs.Prelude.{unsigned_abs, position}
use lib.IntN.{◌+ℤ◌}
use Rattle.std.specs.Int.{w32, int_wrap}
use Rattle.std.specs.Str.{chars, is_utf8}
use Rattle.osm_model.specs.declared.kind.Kind.{Kind}
use Rattle.osm_model.specs.declared.kind.Kind.TheVariants as kind
use Rattle.osm_model.specs.Id.{is_id}
use Rattle.o5_codec.specs.declared.reason.O5Reason.{O5Reason}
use Rattle.o5_codec.specs.declared.reason.O5Reason.TheVariants.{BadNumber, OutOfRange, NoVersion, BadMemberType, BadSection, NotUtf8}
use Rattle.o5_codec.specs.declared.base.Bases.{Bases}
use Rattle.o5_codec.specs.declared.read.segment.Segment.{Segment}
use Rattle.o5_codec.specs.declared.read.segment.ListsSeen.{ListsSeen}
use Rattle.o5_codec.specs.declared.read.segment.ListsSeen.TheVariants.{Neither, References, NodeMembers}
use Rattle.o5_codec.specs.declared.strings.Form.{Form}
use Rattle.o5_codec.specs.declared.strings.Form.TheVariants.{Pair, Single}
use Rattle.o5_codec.specs.declared.read.strings.StringRef.{StringRef}
use Rattle.o5_codec.specs.declared.read.strings.StringRef.TheVariants.{Inline, Reference}
use Rattle.o5_codec.specs.Reason.{is_step_reason}
use Rattle.o5_codec.specs.Results.{and_then}
use Rattle.o5_codec.specs.Entry.{EntryStrings}
use Rattle.o5_codec.specs.Table.{entry_at}
use Rattle.o5_codec.specs.Number.{with_low, groups_at, within_word, number_at, signed_at}
use Rattle.o5_codec.specs.Base.{moved_id, within_range, number_within, moved_number, moved_coordinate}
use Rattle.o5_codec.specs.StringPair.{is_zero, split_at_end, string_at, inline_at, spelled_at, entry_or_fault, strings_of, strings_at}
use Rattle.o5_codec.specs.Text.{text_of, tag_of, whole_number, uid_of, user_of}
use Rattle.o5_codec.specs.Segment.{ReadStep, id_at, nonzero_version, version_at, time_at, changeset_at, user_at, author_after_changeset}
use Rattle.o5_codec.specs.Segment.{author_at, meta_at}
use Rattle.o5_codec.specs.Items.{items_up_to, items_at}
use Rattle.o5_codec.specs.Body.{with_seen, tag_at, longitude_at, latitude_at, node_at, cut_at, section_at, with_section, reference_at}
use Rattle.o5_codec.specs.Body.{way_at, member_kind, kind_and_role, with_member, moved_member, member_at, relation_at, body_at, set_at}

-- if a reading is refused, the reason is that of a step
abbrev pub Named : {X : Type 0} → Result X O5Reason → Type 0
Named (Ok x) = Unit {0}
Named (Err reason) = is_step_reason reason ≡ true

named_then : {X Y : Type 0} (reading : Result X O5Reason) (next : X → Result Y O5Reason) → Named reading → ((x : X) → Named (next x)) →
    Named (and_then reading next)
named_then (Ok x) next first later = later x
named_then (Err reason) next first later = first

named_last : {X Y : Type 0} (reading : Result X O5Reason) (value : X → Y) → Named reading → Named (and_then reading (λ x. Ok (value x)))
named_last (Ok x) value first = tt
named_last (Err reason) value first = first

named_if : {X : Type 0} (test : Bool) (this that : Result X O5Reason) → Named this → Named that → Named (if test then this else that)
named_if test this that first second = elim test as (λ b. Named (if b then this else that)) [ true ↦ first | _ ↦ second ]

-- ---- numbers
low_named : (low : ℕ) (r : Result (ℕ × List ℕ) O5Reason) → Named r → Named (with_low low r)
low_named low (Ok x) h = tt
low_named low (Err reason) h = h

groups_named : (room : ℕ) (bytes : List ℕ) → Named (groups_at room bytes)
unfolding groups_at
groups_named zero bytes = refl
groups_named (suc room) [] = refl
groups_named (suc room) (b ∷ bytes) = named_if (ltb b 128) (Ok (b, bytes)) (with_low (b - 128) (groups_at room bytes)) tt
    (low_named (b - 128) _ (groups_named room bytes))

number_named : (bytes : List ℕ) → Named (number_at bytes)
unfolding number_at
number_named bytes = named_then (groups_at 10 bytes) within_word (groups_named 10 bytes)
    (λ x. named_if (ltb x.0 (2 ^ 64)) (Ok x) (Err BadNumber) tt refl)

signed_named : (bytes : List ℕ) → Named (signed_at bytes)
unfolding signed_at
signed_named bytes = named_last (number_at bytes) _ (number_named bytes)

-- ---- values
id_named : (base difference : ℤ) → Named (moved_id base difference)
id_named base difference = named_if (is_id (base +ℤ difference)) (Ok (base +ℤ difference)) (Err OutOfRange) tt refl

range_named : (n : ℕ) → Named (within_range n)
range_named n = named_if (ltb n (2 ^ 32)) (Ok n) (Err OutOfRange) tt refl

within_named : (z : ℤ) → Named (number_within z)
within_named (pos n) = range_named n
within_named (negsuc n) = refl

coordinate_named : (base difference : ℤ) → Named (moved_coordinate base difference)
coordinate_named base difference = named_if (ltb (unsigned_abs difference) (2 ^ 32)) (Ok (int_wrap w32 (base +ℤ difference)))
    (Err OutOfRange) tt refl

text_named : (bytes : List ℕ) → Named (text_of bytes)
unfolding text_of
text_named bytes = named_if (is_utf8 bytes) (Ok (chars bytes)) (Err NotUtf8) tt refl

tag_of_named : (e : EntryStrings) → Named (tag_of e)
unfolding tag_of
tag_of_named e = named_then (text_of e.first) _ (text_named e.first) (λ key. named_last (text_of e.second) _ (text_named e.second))

whole_named : (x : ℕ × List ℕ) → Named (whole_number x)
whole_named (n, []) = range_named n
whole_named (n, b ∷ bytes) = refl

uid_named : (bytes : List ℕ) → Named (uid_of bytes)
unfolding uid_of
uid_named [] = tt
uid_named (b ∷ bytes) = named_then (number_at (b ∷ bytes)) whole_number (number_named (b ∷ bytes)) whole_named

user_of_named : (e : EntryStrings) → Named (user_of e)
unfolding user_of
user_of_named e = named_then (uid_of e.first) _ (uid_named e.first) (λ uid. named_last (text_of e.second) _ (text_named e.second))

-- ---- strings
ended_named : (bytes : List ℕ) (place : Option ℕ) → Named (split_at_end bytes place)
ended_named bytes None = refl
ended_named bytes (Some end) = tt

string_named : (bytes : List ℕ) → Named (string_at bytes)
unfolding string_at
string_named bytes = ended_named bytes (position is_zero bytes)

inline_named : (form : Form) (bytes : List ℕ) → Named (inline_at form bytes)
unfolding inline_at
inline_named Pair bytes = named_then (string_at bytes) _ (string_named bytes) (λ x. named_last (string_at x.1) _ (string_named x.1))
inline_named Single bytes = named_last (string_at bytes) _ (string_named bytes)

spelled_named : (form : Form) (bytes : List ℕ) → Named (spelled_at form bytes)
unfolding spelled_at
spelled_named form [] = refl
spelled_named form (b ∷ bytes) =
    named_if (eqb b 0) (and_then (inline_at form bytes) (λ x. Ok (Inline x.0, x.1)))
    (and_then (number_at (b ∷ bytes)) (λ x. Ok (Reference x.0, x.1)))
    (named_last (inline_at form bytes) _ (inline_named form bytes)) (named_last (number_at (b ∷ bytes)) _ (number_named (b ∷ bytes)))

referred_named : (o : Option EntryStrings) → Named (entry_or_fault o)
referred_named None = refl
referred_named (Some e) = tt

strings_of_named : (table : List EntryStrings) (x : StringRef) → Named (strings_of table x)
strings_of_named table (Inline e) = tt
strings_of_named table (Reference n) = referred_named (entry_at table n)

strings_named : (form : Form) (table : List EntryStrings) (bytes : List ℕ) → Named (strings_at form table bytes)
unfolding strings_at
strings_named form table bytes = named_then (spelled_at form bytes) _ (spelled_named form bytes)
    (λ x. named_last (strings_of table x.0) _ (strings_of_named table x.0))

-- ---- steps
moved_named : {X : Type 0} (moved : ℤ → Result X O5Reason) (after : X → Segment) (bytes : List ℕ) →
    ((difference : ℤ) → Named (moved difference)) →
    Named (and_then (signed_at bytes) (λ x. and_then (moved x.0)
    (λ v. let made : Result (X × Segment × List ℕ) O5Reason = Ok (v, after v, x.1) in made)))
moved_named moved after bytes h = named_then (signed_at bytes) _ (signed_named bytes) (λ x. named_last (moved x.0) _ (h x.0))

id_step_named : (s : Segment) (bytes : List ℕ) → Named (id_at s bytes)
unfolding id_at
id_step_named s bytes = moved_named (moved_id s.bases.id) _ bytes (id_named s.bases.id)

numbered_named : (x : ℕ × List ℕ) → Named (nonzero_version x)
numbered_named x = named_if (eqb x.0 0) (Err NoVersion) (and_then (within_range x.0) (λ n. Ok (n, x.1))) refl
    (named_last (within_range x.0) _ (range_named x.0))

version_named : (bytes : List ℕ) → Named (version_at bytes)
unfolding version_at
version_named bytes = named_then (number_at bytes) nonzero_version (number_named bytes) numbered_named

time_named : (s : Segment) (bytes : List ℕ) → Named (time_at s bytes)
unfolding time_at
time_named s bytes = moved_named (moved_number s.bases.time) _ bytes (λ difference. within_named (pos s.bases.time +ℤ difference))

changeset_named : (s : Segment) (bytes : List ℕ) → Named (changeset_at s bytes)
unfolding changeset_at
changeset_named s bytes = moved_named (moved_number s.bases.changeset) _ bytes
    (λ difference. within_named (pos s.bases.changeset +ℤ difference))

user_named : (s : Segment) (bytes : List ℕ) → Named (user_at s bytes)
unfolding user_at
user_named s bytes = named_then (strings_at Pair s.table bytes) _ (strings_named Pair s.table bytes)
    (λ x. named_last (user_of x.0) _ (user_of_named x.0))

after_named : (x : ℕ × Segment × List ℕ) → Named (author_after_changeset x)
unfolding author_after_changeset
after_named (changeset, s, []) = tt
after_named (changeset, s, b ∷ bytes) = named_last (user_at s (b ∷ bytes)) _ (user_named s (b ∷ bytes))

author_named : (time : ℕ) (s : Segment) (bytes : List ℕ) → Named (author_at time s bytes)
unfolding author_at
author_named time s bytes = named_if (eqb time 0) _ (and_then (changeset_at s bytes) author_after_changeset) tt
    (named_then (changeset_at s bytes) author_after_changeset (changeset_named s bytes) after_named)

meta_named : (s : Segment) (bytes : List ℕ) → Named (meta_at s bytes)
unfolding meta_at
meta_named s bytes =
    named_then (version_at bytes) _ (version_named bytes)
    (λ v. named_then (time_at s v.1) _ (time_named s v.1) (λ t. named_last (author_at t.0 t.1 t.2) _ (author_named t.0 t.1 t.2)))

-- ---- items
tag_named : (s : Segment) (bytes : List ℕ) → Named (tag_at s bytes)
unfolding tag_at
tag_named s bytes = named_then (strings_at Pair s.table bytes) _ (strings_named Pair s.table bytes)
    (λ x. named_last (tag_of x.0) _ (tag_of_named x.0))

reference_named : (s : Segment) (bytes : List ℕ) → Named (reference_at s bytes)
unfolding reference_at
reference_named s bytes = moved_named (moved_id s.bases.reference) _ bytes (id_named s.bases.reference)

member_kind_named : (b : ℕ) → Named (member_kind b)
member_kind_named b =
    named_if (eqb b 48) (Ok kind.Node) _ tt (named_if (eqb b 49) (Ok kind.Way) _ tt
    (named_if (eqb b 50) (Ok kind.Relation) (Err BadMemberType) tt refl))

kind_named : (bytes : List ℕ) → Named (kind_and_role bytes)
kind_named [] = refl
kind_named (b ∷ role) = named_last (member_kind b) _ (member_kind_named b)

with_member_named : (seen : ListsSeen) (k : Kind) → Named (with_member seen k)
with_member_named Neither kind.Node = tt
with_member_named References kind.Node = refl
with_member_named NodeMembers kind.Node = tt
with_member_named seen kind.Way = tt
with_member_named seen kind.Relation = tt

moved_member_named : (bases : Bases) (k : Kind) (difference : ℤ) → Named (moved_member bases k difference)
moved_member_named bases kind.Node difference = named_last (moved_id bases.node_member difference) _ (id_named bases.node_member difference)
moved_member_named bases kind.Way difference = named_last (moved_id bases.way_member difference) _ (id_named bases.way_member difference)
moved_member_named bases kind.Relation difference =
    named_last (moved_id bases.relation_member difference) _ (id_named bases.relation_member difference)

member_named : (s : Segment) (bytes : List ℕ) → Named (member_at s bytes)
unfolding member_at
member_named s bytes =
    named_then (signed_at bytes) _ (signed_named bytes) (λ d.
    named_then (strings_at Single s.table d.1) _ (strings_named Single s.table d.1) (λ x.
    named_then (kind_and_role x.0.first) _ (kind_named x.0.first) (λ m.
    named_then (with_member s.seen m.0) _ (with_member_named s.seen m.0) (λ seen.
    named_then (moved_member s.bases m.0 d.0) _ (moved_member_named s.bases m.0 d.0) (λ id.
    named_last (text_of m.1) _ (text_named m.1))))))

module _ {X : Type 0} (item_at : Segment → List ℕ → ReadStep X) (step : (s : Segment) (bytes : List ℕ) → Named (item_at s bytes)) where
  up_to_named : (most : ℕ) (s : Segment) (bytes : List ℕ) → Named (items_up_to item_at most s bytes)
  unfolding items_up_to
  up_to_named zero s [] = tt
  up_to_named (suc most) s [] = tt
  up_to_named zero s (b ∷ bytes) = refl
  up_to_named (suc most) s (b ∷ bytes) =
      named_then (item_at s (b ∷ bytes)) _ (step s (b ∷ bytes))
      (λ x. named_last (items_up_to item_at most x.1 x.2) _ (up_to_named most x.1 x.2))

  items_named : (s : Segment) (bytes : List ℕ) → Named (items_at item_at s bytes)
  unfolding items_at
  items_named s bytes = up_to_named (length bytes) s bytes

tags_named : (s : Segment) (bytes : List ℕ) → Named (items_at tag_at s bytes)
tags_named s bytes = items_named tag_at tag_named s bytes

-- ---- bodies
longitude_named : (s : Segment) (bytes : List ℕ) → Named (longitude_at s bytes)
unfolding longitude_at
longitude_named s bytes = moved_named (moved_coordinate s.bases.lon) _ bytes (coordinate_named s.bases.lon)

latitude_named : (s : Segment) (bytes : List ℕ) → Named (latitude_at s bytes)
unfolding latitude_at
latitude_named s bytes = moved_named (moved_coordinate s.bases.lat) _ bytes (coordinate_named s.bases.lat)

node_named : (s : Segment) (bytes : List ℕ) → Named (node_at s bytes)
unfolding node_at
node_named s bytes =
    named_then (longitude_at s bytes) _ (longitude_named s bytes) (λ lon.
    named_then (latitude_at lon.1 lon.2) _ (latitude_named lon.1 lon.2)
    (λ lat. named_last (items_at tag_at lat.1 lat.2) _ (tags_named lat.1 lat.2)))

section_named : (bytes : List ℕ) → Named (section_at bytes)
unfolding section_at
section_named bytes = named_then (number_at bytes) cut_at (number_named bytes)
    (λ x. named_if (leb x.0 (length x.1)) (Ok (take x.0 x.1, drop x.0 x.1)) (Err BadSection) tt refl)

with_section_named : (seen : ListsSeen) (section : List ℕ) → Named (with_section seen section)
with_section_named seen [] = tt
with_section_named Neither (b ∷ section) = tt
with_section_named References (b ∷ section) = tt
with_section_named NodeMembers (b ∷ section) = refl

way_named : (s : Segment) (bytes : List ℕ) → Named (way_at s bytes)
unfolding way_at
way_named s bytes =
    named_then (section_at bytes) _ (section_named bytes)
    (λ x. named_then (with_section s.seen x.0) _ (with_section_named s.seen x.0) (λ seen.
    named_then (items_at reference_at (with_seen s seen) x.0) _ (items_named reference_at reference_named (with_seen s seen) x.0) (λ ids.
    named_last (items_at tag_at ids.1 x.1) _ (tags_named ids.1 x.1))))

relation_named : (s : Segment) (bytes : List ℕ) → Named (relation_at s bytes)
unfolding relation_at
relation_named s bytes =
    named_then (section_at bytes) _ (section_named bytes)
    (λ x. named_then (items_at member_at s x.0) _ (items_named member_at member_named s x.0) (λ members.
    named_last (items_at tag_at members.1 x.1) _ (tags_named members.1 x.1)))

body_named : (k : Kind) (s : Segment) (bytes : List ℕ) → Named (body_at k s bytes)
unfolding body_at
body_named k s [] = tt
body_named kind.Node s (b ∷ bytes) = node_named s (b ∷ bytes)
body_named kind.Way s (b ∷ bytes) = way_named s (b ∷ bytes)
body_named kind.Relation s (b ∷ bytes) = relation_named s (b ∷ bytes)

-- No content is refused for Memory, Failed or Truncated.
pub set_named : (k : Kind) (s : Segment) (content : List ℕ) → Named (set_at k s content)
unfolding set_at
set_named k s content =
    named_then (id_at s content) _ (id_step_named s content)
    (λ x. named_then (meta_at x.1 x.2) _ (meta_named x.1 x.2) (λ m. named_last (body_at k m.1 m.2) _ (body_named k m.1 m.2)))
