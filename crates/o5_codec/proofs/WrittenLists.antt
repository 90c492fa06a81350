-- Data sets in sequence that are written are read back.
use Rattle.std.proofs.Common.{◌≡◌, ℕ, suc, ◌+◌, ◌<◌, ◌^◌, Bool, true, false, List, [], ◌∷◌, ◌++◌, length, refl, ap, sym, ◌∙◌, arith}
use Rattle.std.proofs.Common.{rules, inl, subst, append_assoc, length-append}
use Rattle.std.specs.List.{All}
use Rattle.std.proofs.lemmas.Bool.{eqb-false}
use Rattle.osm_model.specs.declared.kind.Kind.{Kind}
use Rattle.osm_model.specs.declared.kind.Kind.TheVariants as kind
use Rattle.osm_model.specs.Data.{VersionData, kind_of}
use Rattle.osm_model.specs.Valid.{IsVersion}
use Rattle.o5_codec.specs.declared.read.segment.Segment.{Segment}
use Rattle.o5_codec.specs.declared.read.segment.ListsSeen.{ListsSeen}
use Rattle.o5_codec.specs.declared.read.segment.ListsSeen.TheVariants.{Neither}
use Rattle.o5_codec.specs.Table.{table_limit}
use Rattle.o5_codec.specs.Decoder.{new_segment}
use Rattle.o5_codec.specs.Body.{section_at, set_at}
use Rattle.o5_codec.specs.Spelling.{SpellsSet}
use Rattle.o5_codec.specs.Shortest.{shortest_number}
use Rattle.o5_codec.specs.Writing.{content_spelling}
use Rattle.o5_codec.specs.Agreement.{reader_segment, IsEncoderSegment, MayHaveSeen}
use Rattle.o5_codec.specs.Encoder.{WriterState, new_encoder_segment, initial_writer, type_byte, begins_segment, reset_before}
use Rattle.o5_codec.specs.Encoder.{segment_to_use}
use Rattle.o5_codec.specs.Encoder.{data_set, segment_before, spelled_set, writer_after}
use Rattle.o5_codec.specs.WritingLaws.{segment_for, segment_after, AreInStep, content_after, IsReadNext, WrittenSetsAreRead, SetsInAll}
use Rattle.o5_codec.specs.WritingLaws.{spelled_sets, WrittenListsAreRead}
use Rattle.o5_codec.proofs.ResultSteps.{one_value}
use Rattle.o5_codec.proofs.StepLaws.{section_only, set_only}
use Rattle.o5_codec.proofs.WrittenBodies.{section_back}
use Rattle.o5_codec.proofs.WrittenSets.{set_back}

-- ---- one data set
none_yet : (k : Kind) → MayHaveSeen k Neither
none_yet kind.Node = refl
none_yet kind.Way = inl refl
none_yet kind.Relation = inl refl

new_is_context : IsEncoderSegment new_encoder_segment
unfolding table_limit
new_is_context = record {
  few = omega arith;
  ids = record { id = refl; reference = refl; node_member = refl; way_member = refl; relation_member = refl };
  time = omega arith;
  changeset = omega arith;
  lon = search rules;
  lat = search rules;
}

begin : AreInStep initial_writer Neither
begin = record { segment = new_is_context; lists = refl }

one_kind : (j k : Kind) → begins_segment j k ≡ false → j ≡ k
one_kind kind.Node kind.Node h = refl
one_kind kind.Node kind.Way h = cc
one_kind kind.Node kind.Relation h = cc
one_kind kind.Way kind.Node h = cc
one_kind kind.Way kind.Way h = refl
one_kind kind.Way kind.Relation h = cc
one_kind kind.Relation kind.Node h = cc
one_kind kind.Relation kind.Way h = cc
one_kind kind.Relation kind.Relation h = refl

-- read back relative to the context that a reset leaves, or to the one before
next_by : (begins : Bool) (w : WriterState) (seen : ListsSeen) (v : VersionData) → begins_segment w.last (kind_of v.body) ≡ begins →
    AreInStep w seen → IsVersion v →
    length (content_spelling v (segment_to_use begins w.segment)).0 < 2 ^ 64 →
    (after : ListsSeen) × MayHaveSeen (kind_of v.body) after ×
    SpellsSet (kind_of v.body) (segment_for begins (segment_after w seen)) (content_spelling v (segment_to_use begins w.segment)).0
    (v, reader_segment (content_spelling v (segment_to_use begins w.segment)).1 after) ×
    IsEncoderSegment (content_spelling v (segment_to_use begins w.segment)).1
next_by true w seen v is h valid small =
    let r = set_back v new_encoder_segment Neither valid new_is_context (none_yet (kind_of v.body)) small in
    (r.after, r.may, r.spells, r.segment)
next_by false w seen v is h valid small =
    let r = set_back v w.segment seen valid h.segment
    (subst (λ k. MayHaveSeen k seen) (one_kind w.last (kind_of v.body) is) h.lists) small in (r.after, r.may, r.spells, r.segment)

content_room : (w : WriterState) (v : VersionData) → length (spelled_set w v) < 2 ^ 64 → length (content_after w v) < 2 ^ 64
unfolding spelled_set
content_room w v small =
    let k : Kind = kind_of v.body in
    omega (
      arith,
      length-append (reset_before (begins_segment w.last k)) (data_set k (content_after w v)),
      length-append (type_byte k ∷ shortest_number (length (content_after w v))) (content_after w v),
    )

next_back : (w : WriterState) (seen : ListsSeen) (v : VersionData) → AreInStep w seen → IsVersion v → length (content_after w v) < 2 ^ 64 →
    IsReadNext w seen v
unfolding segment_before writer_after
next_back w seen v h valid small =
    let r = next_by (begins_segment w.last (kind_of v.body)) w seen v refl h valid small in
    record { after = r.0; spells = r.2; in_step = record { segment = r.3; lists = r.1 } }

-- The bytes written for a version are read as that version and no other.
pub sets_read : WrittenSetsAreRead
sets_read = (begin, λ w seen v h valid small. next_back w seen v h valid (content_room w v small))

-- ---- lists
parted : (k : Kind) (reset content rest : List ℕ) →
    (reset ++ data_set k content) ++ rest ≡ reset ++ type_byte k ∷ ((shortest_number (length content) ++ content) ++ rest)
parted k reset content rest = append_assoc reset (data_set k content) rest

lists_in_step : (versions : List VersionData) (w : WriterState) (seen : ListsSeen) → AreInStep w seen → All IsVersion versions →
    length (spelled_sets w versions) < 2 ^ 64 →
    SetsInAll (segment_after w seen) (spelled_sets w versions) versions
unfolding spelled_set
lists_in_step [] w seen h valid small = refl
lists_in_step (v ∷ versions) w seen h valid small =
    let k : Kind = kind_of v.body in
    let content : List ℕ = content_after w v in
    let rest : List ℕ = spelled_sets (writer_after w v) versions in
    let lengths : length (spelled_set w v ++ rest) ≡ length (spelled_set w v) + length rest = length-append (spelled_set w v) rest in
    let room : length content < 2 ^ 64 = content_room w v (omega arith) in
    let r = next_back w seen v h (valid 0 v (omega arith)) room in (
      begins_segment w.last k,
      (shortest_number (length content) ++ content) ++ rest,
      (content, rest),
      segment_after (writer_after w v) r.after,
      parted k (reset_before (begins_segment w.last k)) content rest,
      section_back content rest room,
      r.spells,
      lists_in_step versions (writer_after w v) r.after r.in_step (λ k d inside. valid (suc k) d (omega arith)) (omega arith),
    )

-- ---- no other list
pub heads : (a b : ℕ) (x y : List ℕ) → a ∷ x ≡ b ∷ y → a ≡ b
heads a b x y e = cc

tails : (a b : ℕ) (x y : List ℕ) → a ∷ x ≡ b ∷ y → x ≡ y
tails a b x y e = cc

one_type : (j k : Kind) → type_byte j ≡ type_byte k → j ≡ k
one_type kind.Node kind.Node e = refl
one_type kind.Node kind.Way e = absurd (eqb-false 0x10 0x11 refl e)
one_type kind.Node kind.Relation e = absurd (eqb-false 0x10 0x12 refl e)
one_type kind.Way kind.Node e = absurd (eqb-false 0x11 0x10 refl e)
one_type kind.Way kind.Way e = refl
one_type kind.Way kind.Relation e = absurd (eqb-false 0x11 0x12 refl e)
one_type kind.Relation kind.Node e = absurd (eqb-false 0x12 0x10 refl e)
one_type kind.Relation kind.Way e = absurd (eqb-false 0x12 0x11 refl e)
one_type kind.Relation kind.Relation e = refl

no_reset : (k : Kind) → 0xff ≡ type_byte k → ⊥
no_reset kind.Node e = eqb-false 0xff 0x10 refl e
no_reset kind.Way e = eqb-false 0xff 0x11 refl e
no_reset kind.Relation e = eqb-false 0xff 0x12 refl e

-- the bytes determine a reset, a type byte and the bytes after them
same_begin : (b c : Bool) (j k : Kind) (x y : List ℕ) → reset_before b ++ type_byte j ∷ x ≡ reset_before c ++ type_byte k ∷ y →
    (b ≡ c) × (j ≡ k) × (x ≡ y)
same_begin true true j k x y e =
    let remaining : type_byte j ∷ x ≡ type_byte k ∷ y = tails 0xff 0xff (type_byte j ∷ x) (type_byte k ∷ y) e in
    (refl, one_type j k (heads (type_byte j) (type_byte k) x y remaining), tails (type_byte j) (type_byte k) x y remaining)
same_begin true false j k x y e = absurd (no_reset k (heads 0xff (type_byte k) (type_byte j ∷ x) y e))
same_begin false true j k x y e = absurd (no_reset j (sym (heads (type_byte j) 0xff x (type_byte k ∷ y) e)))
same_begin false false j k x y e = (refl, one_type j k (heads (type_byte j) (type_byte k) x y e), tails (type_byte j) (type_byte k) x y e)

never_empty : (b : Bool) (k : Kind) (x : List ℕ) → [] ≡ reset_before b ++ type_byte k ∷ x → ⊥
never_empty true k x e = cc
never_empty false k x e = cc

pub one_list : (versions others : List VersionData) (s : Segment) (bytes : List ℕ) → SetsInAll s bytes versions → SetsInAll s bytes others →
    others ≡ versions
one_list [] [] s bytes h g = refl
one_list [] (w ∷ others) s bytes h g = absurd (never_empty g.0 (kind_of w.body) g.1 (sym h ∙ g.4))
one_list (v ∷ versions) [] s bytes h g = absurd (never_empty h.0 (kind_of v.body) h.1 (sym g ∙ h.4))
one_list (v ∷ versions) (w ∷ others) s bytes (b, set, x, after, is, cut, spells, more) (b', set', x', after', is', cut', spells', more') =
    let start = same_begin b' b (kind_of w.body) (kind_of v.body) set' set (sym is' ∙ is) in
    let parts : x' ≡ x = one_value (section_at set) x' x (ap section_at (sym start.2) ∙ section_only set' x' cut')
    (section_only set x cut) in
    let here : set_at (kind_of w.body) (segment_for b' s) x'.0 ≡ set_at (kind_of v.body) (segment_for b s) x.0 =
    (λ i. set_at (start.1 i) (segment_for (start.0 i) s) (parts i).0) in
    let same : (w, after') ≡ (v, after) = one_value (set_at (kind_of v.body) (segment_for b s) x.0) (w, after') (v, after)
    (sym here ∙ set_only (kind_of w.body) (segment_for b' s) x'.0 (w, after') spells')
    (set_only (kind_of v.body) (segment_for b s) x.0 (v, after) spells) in
    let later : SetsInAll after x.1 others = subst (λ bytes. SetsInAll after bytes others) (ap (λ z. z.1) parts)
    (subst (λ t. SetsInAll t x'.1 others) (ap (λ z. z.1) same) more') in
    let rest : others ≡ versions = one_list versions others after x.1 more later in
    λ i. (same i).0 ∷ rest i

-- The bytes written for a list of versions are read as that list and no other.
pub lists_read : WrittenListsAreRead
lists_read versions valid small =
    let spelled = lists_in_step versions initial_writer Neither begin valid small in
    (spelled, λ others h. one_list versions others new_segment (spelled_sets initial_writer versions) spelled h)
