-- Why a data set spells no version: the reason of the first step such that no front of the remaining bytes spells it.
-- The order of the steps is that of the OSM wiki's page on o5m; the reasons are own rules of this project.
use Rattle.std.specs.Prelude.{◌≡◌, ◌⊎◌, ◌<◌, ℕ, ℤ, true, false, List, [], ◌∷◌, length, None, Result, Ok, Err, ◌==◌}
use Rattle.osm_model.specs.declared.kind.Kind.{Kind}
use Rattle.osm_model.specs.declared.kind.Kind.TheVariants as kind
use Rattle.osm_model.specs.declared.members.Member.{Member}
use Rattle.o5_codec.specs.declared.reason.O5Reason.{O5Reason}
use Rattle.o5_codec.specs.declared.reason.O5Reason.TheVariants.{BadNumber, BadText, BadReference, BadSection}
use Rattle.o5_codec.specs.declared.read.segment.Segment.{Segment}
use Rattle.o5_codec.specs.declared.strings.Form.{Form}
use Rattle.o5_codec.specs.declared.strings.Form.TheVariants.{Pair, Single}
use Rattle.o5_codec.specs.Entry.{EntryStrings}
use Rattle.o5_codec.specs.Table.{entry_at}
use Rattle.o5_codec.specs.Base.{moved_id, moved_number, moved_coordinate}
use Rattle.o5_codec.specs.Text.{text_of, tag_of, user_of}
use Rattle.o5_codec.specs.Segment.{nonzero_version}
use Rattle.o5_codec.specs.Body.{with_seen, with_section, kind_and_role, with_member, moved_member}
use Rattle.o5_codec.specs.Spelling.{NumberAtFront, SignedAtFront, InlineAtFront, StringsAtFront, IdAtFront, TimeAtFront}
use Rattle.o5_codec.specs.Spelling.{ChangesetAtFront, LongitudeAtFront, LatitudeAtFront, ReferenceAtFront}
use Rattle.o5_codec.specs.Spelling.{VersionAtFront}
use Rattle.o5_codec.specs.Spelling.{MetaAtFront, TagAtFront, MemberAtFront, ItemsInAll, SectionAtFront}

-- no value is spelled
abbrev pub Nothing : {X : Type 0} → (X → Type 0) → Type 0
Nothing {X} AtFront = (x : X) → AtFront x → ⊥

-- a step is refused, or it is spelled and a later step is refused
abbrev pub Then : {X : Type 0} → Type 0 → (X → Type 0) → (X → Type 0) → Type 0
Then {X} first AtFront later = first ⊎ ((x : X) × AtFront x × later x)

-- a value can't be made from those that were read, or it is made and a later step is refused
abbrev pub Made : {X : Type 0} → Result X O5Reason → (X → Type 0) → O5Reason → Type 0
Made made later reason = Then (made ≡ Err reason) (λ x. made ≡ Ok x) later

abbrev pub NumberRefused : List ℕ → O5Reason → Type 0
NumberRefused bytes reason = (reason ≡ BadNumber) × Nothing (NumberAtFront bytes)

abbrev pub SignedRefused : List ℕ → O5Reason → Type 0
SignedRefused bytes reason = (reason ≡ BadNumber) × Nothing (SignedAtFront bytes)

abbrev pub InlineRefused : Form → List ℕ → O5Reason → Type 0
InlineRefused form bytes reason = (reason ≡ BadText) × Nothing (InlineAtFront form bytes)

-- a number that refers to no entry
abbrev pub ReferenceMissing : List EntryStrings → List ℕ → O5Reason → Type 0
ReferenceMissing table bytes reason =
    Then (NumberRefused bytes reason) (NumberAtFront bytes) (λ x. (entry_at table x.0 ≡ None) × (reason ≡ BadReference))

-- no byte is left, a string isn't ended, or the table has no entry of the reference
abbrev pub StringsRefused : Form → List EntryStrings → List ℕ → O5Reason → Type 0
StringsRefused form table [] reason = reason ≡ BadText
StringsRefused form table (b ∷ bytes) reason =
    ((b == 0 ≡ true) × InlineRefused form bytes reason) ⊎ ((b == 0 ≡ false) × ReferenceMissing table (b ∷ bytes) reason)

abbrev pub MovedRefused : {X : Type 0} → (ℤ → Result X O5Reason) → List ℕ → O5Reason → Type 0
MovedRefused moved bytes reason = Then (SignedRefused bytes reason) (SignedAtFront bytes) (λ x. moved x.0 ≡ Err reason)

abbrev pub VersionRefused : List ℕ → O5Reason → Type 0
VersionRefused bytes reason = Then (NumberRefused bytes reason) (NumberAtFront bytes)
    (λ x. nonzero_version x ≡ Err reason)

abbrev pub UserRefused : Segment → List ℕ → O5Reason → Type 0
UserRefused s bytes reason =
    Then (StringsRefused Pair s.table bytes reason) (StringsAtFront Pair s.table bytes) (λ x. user_of x.0 ≡ Err reason)

abbrev pub UserOrEndRefused : Segment → List ℕ → O5Reason → Type 0
UserOrEndRefused s [] reason = ⊥
UserOrEndRefused s (b ∷ bytes) reason = UserRefused s (b ∷ bytes) reason

abbrev pub AuthorRefused : ℕ → Segment → List ℕ → O5Reason → Type 0
AuthorRefused time s bytes reason =
    (time == 0 ≡ false) × Then (MovedRefused (moved_number s.bases.changeset) bytes reason) (ChangesetAtFront s bytes)
    (λ x. UserOrEndRefused x.1 x.2 reason)

abbrev pub MetaRefused : Segment → List ℕ → O5Reason → Type 0
MetaRefused s bytes reason = Then (VersionRefused bytes reason) (VersionAtFront bytes) (λ v.
    Then (MovedRefused (moved_number s.bases.time) v.1 reason) (TimeAtFront s v.1)
    (λ t. AuthorRefused t.0 t.1 t.2 reason))

abbrev pub TagRefused : Segment → List ℕ → O5Reason → Type 0
TagRefused s bytes reason =
    Then (StringsRefused Pair s.table bytes reason) (StringsAtFront Pair s.table bytes) (λ x. tag_of x.0 ≡ Err reason)

abbrev pub ReferenceRefused : Segment → List ℕ → O5Reason → Type 0
ReferenceRefused s = MovedRefused (moved_id s.bases.reference)

-- the steps of a member: the difference, the string, the kind, the lists of the segment, the id and the role
abbrev pub MemberRefused : Segment → List ℕ → O5Reason → Type 0
MemberRefused s bytes reason = Then (SignedRefused bytes reason) (SignedAtFront bytes) (λ d.
    Then (StringsRefused Single s.table d.1 reason) (StringsAtFront Single s.table d.1) (λ x.
    Made (kind_and_role x.0.first)
    (λ m. Made (with_member s.seen m.0)
    (λ _. Made (moved_member s.bases m.0 d.0) (λ _. text_of m.1 ≡ Err reason) reason) reason) reason))

-- some items are spelled, bytes are left after them, and the next item is refused
abbrev pub RefusedAfterItems : {X : Type 0} → (Segment → List ℕ → X × Segment × List ℕ → Type 0) →
    (Segment → List ℕ → O5Reason → Type 0) → O5Reason → List X → Segment → List ℕ → Type 0
RefusedAfterItems AtFront Refused reason [] s bytes = Refused s bytes reason × (bytes ≡ [] → ⊥)
RefusedAfterItems AtFront Refused reason (x ∷ xs) s bytes =
    (middle : Segment) × (rest : List ℕ) × AtFront s bytes (x, middle, rest) ×
    RefusedAfterItems AtFront Refused reason xs middle rest

-- one of the items of a list is refused
abbrev pub ItemsRefused : {X : Type 0} → (Segment → List ℕ → X × Segment × List ℕ → Type 0) →
    (Segment → List ℕ → O5Reason → Type 0) → Segment → List ℕ → O5Reason → Type 0
ItemsRefused {X} AtFront Refused s bytes reason = (xs : List X) × RefusedAfterItems AtFront Refused reason xs s bytes

abbrev pub TagsRefused : Segment → List ℕ → O5Reason → Type 0
TagsRefused = ItemsRefused TagAtFront TagRefused

abbrev pub NodeRefused : Segment → List ℕ → O5Reason → Type 0
NodeRefused s bytes reason =
    Then (MovedRefused (moved_coordinate s.bases.lon) bytes reason) (LongitudeAtFront s bytes) (λ lon.
    Then (MovedRefused (moved_coordinate lon.1.bases.lat) lon.2 reason) (LatitudeAtFront lon.1 lon.2)
    (λ lat. TagsRefused lat.1 lat.2 reason))

-- the length is no number, or more than the bytes that are left
abbrev pub SectionRefused : List ℕ → O5Reason → Type 0
SectionRefused bytes reason =
    Then (NumberRefused bytes reason) (NumberAtFront bytes) (λ x. (length x.1 < x.0) × (reason ≡ BadSection))

abbrev pub WayRefused : Segment → List ℕ → O5Reason → Type 0
WayRefused s bytes reason =
    Then (SectionRefused bytes reason) (SectionAtFront bytes) (λ section. Made (with_section s.seen section.0) (λ seen.
    Then (ItemsRefused ReferenceAtFront ReferenceRefused (with_seen s seen) section.0 reason)
    (λ (ids : List ℤ × Segment). ItemsInAll ReferenceAtFront (with_seen s seen) section.0 ids.0 ids.1) (λ ids.
    TagsRefused ids.1 section.1 reason)) reason)

abbrev pub RelationRefused : Segment → List ℕ → O5Reason → Type 0
RelationRefused s bytes reason = Then (SectionRefused bytes reason) (SectionAtFront bytes) (λ section.
    Then (ItemsRefused MemberAtFront MemberRefused s section.0 reason)
    (λ (members : List Member × Segment). ItemsInAll MemberAtFront s section.0 members.0 members.1) (λ members.
    TagsRefused members.1 section.1 reason))

abbrev pub VisibleRefused : Kind → Segment → List ℕ → O5Reason → Type 0
VisibleRefused kind.Node = NodeRefused
VisibleRefused kind.Way = WayRefused
VisibleRefused kind.Relation = RelationRefused

abbrev pub BodyRefused : Kind → Segment → List ℕ → O5Reason → Type 0
BodyRefused k s [] reason = ⊥
BodyRefused k s (b ∷ bytes) reason = VisibleRefused k s (b ∷ bytes) reason

-- why a content spells no version of the kind `k`, relative to the segment before the content
abbrev pub SetReason : Kind → Segment → List ℕ → O5Reason → Type 0
SetReason k s content reason = Then (MovedRefused (moved_id s.bases.id) content reason) (IdAtFront s content) (λ id.
    Then (MetaRefused id.1 id.2 reason) (MetaAtFront id.1 id.2) (λ meta. BodyRefused k meta.1 meta.2 reason))
