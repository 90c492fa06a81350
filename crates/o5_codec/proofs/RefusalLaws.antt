-- A data set is refused for the reason of its first step that can't be done, and for no other. A lemma `X_refused` ties
-- the two sides of a part X: the function that reads X returns a reason exactly if the relation of specs/Refusal.antt has
-- it. A lemma `X_reason` names the one reason that X has.
use Rattle.std.proofs.Common.{◌≡◌, ℕ, ℤ, zero, suc, ◌-◌, ◌^◌, ◌<◌, ◌≤◌, ◌⊎◌, inl, inr, Bool, true, false, eqb, ltb, leb, List, [], ◌∷◌}
use Rattle.std.proofs.Common.{length, take, drop, refl, ap, sym, ◌∙◌, arith, Result, Ok, Err, Option, Some, None, if◌then◌else◌}
use Rattle.std.proofs.lemmas.Bool.{false≢true}
use Rattle.std.proofs.lemmas.Bool.Decides.{nat_tests}
use Rattle.osm_model.specs.declared.kind.Kind.{Kind}
use Rattle.osm_model.specs.declared.kind.Kind.TheVariants as kind
use Rattle.o5_codec.specs.declared.reason.O5Reason.{O5Reason}
use Rattle.o5_codec.specs.declared.reason.O5Reason.TheVariants.{BadNumber, BadText, BadReference, BadSection}
use Rattle.o5_codec.specs.declared.read.segment.Segment.{Segment}
use Rattle.o5_codec.specs.declared.strings.Form.{Form}
use Rattle.o5_codec.specs.declared.strings.Form.TheVariants.{Pair, Single}
use Rattle.o5_codec.specs.declared.read.strings.StringRef.{StringRef}
use Rattle.o5_codec.specs.declared.read.strings.StringRef.TheVariants.{Inline, Reference}
use Rattle.o5_codec.specs.Results.{and_then}
use Rattle.o5_codec.specs.Entry.{EntryStrings}
use Rattle.o5_codec.specs.Table.{entry_at}
use Rattle.o5_codec.specs.Number.{groups_at, with_low, within_word, number_at, signed_at}
use Rattle.o5_codec.specs.Base.{moved_id, moved_number, moved_coordinate}
use Rattle.o5_codec.specs.StringPair.{split_at_end, string_at, inline_at, spelled_at, entry_or_fault, strings_of, table_after, strings_at}
use Rattle.o5_codec.specs.Text.{text_of, tag_of, user_of}
use Rattle.o5_codec.specs.Segment.{ReadStep, with_bases, id_at, nonzero_version, version_at, time_at, changeset_at, user_at, author}
use Rattle.o5_codec.specs.Segment.{author_after_changeset}
use Rattle.o5_codec.specs.Segment.{author_at, meta_at}
use Rattle.o5_codec.specs.Items.{items_up_to, items_at}
use Rattle.o5_codec.specs.Body.{with_seen, tag_at, longitude_at, latitude_at, node_at, cut_at, section_at, with_section, reference_at}
use Rattle.o5_codec.specs.Body.{way_at, kind_and_role, with_member, moved_member, member_at, relation_at, body_at, set_at}
use Rattle.o5_codec.specs.Spelling.{NumberAtFront, SignedAtFront, InlineAtFront, StringsAtFront, IdAtFront, TimeAtFront, ChangesetAtFront}
use Rattle.o5_codec.specs.Spelling.{LongitudeAtFront, LatitudeAtFront, ReferenceAtFront, VersionAtFront, MetaAtFront, TagAtFront}
use Rattle.o5_codec.specs.Spelling.{MemberAtFront}
use Rattle.o5_codec.specs.Spelling.{SectionAtFront}
use Rattle.o5_codec.specs.Refusal.{Nothing, Then, NumberRefused, SignedRefused, InlineRefused, ReferenceMissing, StringsRefused}
use Rattle.o5_codec.specs.Refusal.{MovedRefused, VersionRefused, UserRefused, UserOrEndRefused, AuthorRefused, MetaRefused, TagRefused}
use Rattle.o5_codec.specs.Refusal.{ReferenceRefused, MemberRefused, RefusedAfterItems, ItemsRefused, TagsRefused, NodeRefused}
use Rattle.o5_codec.specs.Refusal.{SectionRefused}
use Rattle.o5_codec.specs.Refusal.{WayRefused, RelationRefused, BodyRefused, SetReason}
use Rattle.o5_codec.proofs.ResultSteps.{read_next, not_refused}
use Rattle.o5_codec.proofs.NumberLaws.{number_found, number_only, signed_found, signed_only}
use Rattle.o5_codec.proofs.StringLaws.{inline_found, inline_only, strings_found, strings_only}
use Rattle.o5_codec.proofs.StepLaws.{moved_found, moved_only, version_found, version_only, meta_found, meta_only, tag_found, tag_only}
use Rattle.o5_codec.proofs.StepLaws.{reference_found, reference_only, member_found, member_only, items_found, items_only, section_found}
use Rattle.o5_codec.proofs.StepLaws.{section_only}

abbrev Same : Type 0 → Type 0 → Type 0
Same P Q = (P → Q) × (Q → P)

-- a refusal has one reason
pub same_reason : {X : Type 0} (a b : O5Reason) → (let refused : Result X O5Reason = Err a in refused ≡ Err b) → a ≡ b
same_reason a b h = cc

then_found : {X Y : Type 0} (reading : Result X O5Reason) (next : X → Result Y O5Reason) (reason : O5Reason) (first : Type 0)
    (AtFront later : X → Type 0) →
    (reading ≡ Err reason → first) → ((x : X) → reading ≡ Ok x → AtFront x) → ((x : X) → next x ≡ Err reason → later x) →
    and_then reading next ≡ Err reason → Then first AtFront later
then_found (Ok x) next reason first AtFront later refused found remaining h = inr (x, found x refl, remaining x h)
then_found (Err f) next reason first AtFront later refused found remaining h = inl (refused (ap (λ e. Err e) (same_reason f reason h)))

then_only : {X Y : Type 0} (reading : Result X O5Reason) (next : X → Result Y O5Reason) (reason : O5Reason) (first : Type 0)
    (AtFront later : X → Type 0) →
    (first → reading ≡ Err reason) → ((x : X) → AtFront x → reading ≡ Ok x) → ((x : X) → later x → next x ≡ Err reason) →
    Then first AtFront later → and_then reading next ≡ Err reason
then_only reading next reason first AtFront later refused only remaining (inl h) = ap (λ r. and_then r next) (refused h)
then_only reading next reason first AtFront later refused only remaining (inr h) = read_next reading next h.0 (only h.0 h.1)
    ∙ remaining h.0 h.2

-- a reading in two steps is refused exactly if the first step is, or the first is spelled and the second is refused
then_same : {X Y : Type 0} (reading : Result X O5Reason) (next : X → Result Y O5Reason) (reason : O5Reason) (first : Type 0)
    (AtFront later : X → Type 0) →
    Same (reading ≡ Err reason) first → ((x : X) → Same (reading ≡ Ok x) (AtFront x)) → ((x : X) → Same (next x ≡ Err reason) (later x)) →
    Same (and_then reading next ≡ Err reason) (Then first AtFront later)
then_same reading next reason first AtFront later refused spelled remaining = (
  then_found reading next reason first AtFront later refused.0 (λ x. (spelled x).0) (λ x. (remaining x).0),
  then_only reading next reason first AtFront later refused.1 (λ x. (spelled x).1) (λ x. (remaining x).1),
)

-- a last step that only makes a value adds no refusal
last_same : {X Y : Type 0} (reading : Result X O5Reason) (value : X → Y) (reason : O5Reason) (first : Type 0) →
    Same (reading ≡ Err reason) first → Same (and_then reading (λ x. Ok (value x)) ≡ Err reason) first
last_same (Ok x) value reason first refused = (λ h. cc, λ f. absurd (not_refused (Ok x) x reason refl (refused.1 f)))
last_same (Err f) value reason first refused = (
  λ h. refused.0 (ap (λ e. Err e) (same_reason f reason h)),
  λ g. ap (λ e. Err e) (same_reason f reason (refused.1 g)),
)

-- a step that has only one reason is refused exactly if the bytes spell nothing of its form
only_reason : {X : Type 0} (reading : Result X O5Reason) (only reason : O5Reason) (AtFront : X → Type 0) →
    ((f : O5Reason) → reading ≡ Err f → f ≡ only) →
    ((x : X) → Same (reading ≡ Ok x) (AtFront x)) → Same (reading ≡ Err reason) ((reason ≡ only) × Nothing AtFront)
only_reason (Ok x) only reason AtFront single spelled = (λ h. cc, λ h. absurd (h.1 x ((spelled x).0 refl)))
only_reason (Err f) only reason AtFront single spelled =
    (λ h. (single reason h, λ x s. not_refused (Err f) x f ((spelled x).1 s) refl), λ h. ap (λ e. Err e) (single f refl ∙ sym h.0))

low_reason : (low : ℕ) (r : Result (ℕ × List ℕ) O5Reason) (f : O5Reason) → with_low low r ≡ Err f → r ≡ Err f
low_reason low (Ok x) f h = cc
low_reason low (Err e) f h = ap (λ g. Err g) (same_reason e f h)

within_reason : (r : Result (ℕ × List ℕ) O5Reason) (f : O5Reason) → ((g : O5Reason) → r ≡ Err g → g ≡ BadNumber) →
    and_then r within_word ≡ Err f → f ≡ BadNumber
within_reason (Ok x) f single h =
    elim (ltb x.0 (2 ^ 64)) as (λ t. (if t then Ok x else Err BadNumber) ≡ Err f → f ≡ BadNumber) [ true ↦ λ e. cc | false ↦ λ e. cc ] h
within_reason (Err e) f single h = single f (ap (λ g. Err g) (same_reason e f h))

value_reason : {X Y : Type 0} {only : O5Reason} (r : Result X O5Reason) (value : X → Y) (f : O5Reason) →
    ((g : O5Reason) → r ≡ Err g → g ≡ only) → and_then r (λ x. Ok (value x)) ≡ Err f → f ≡ only
value_reason (Ok x) value f single h = cc
value_reason (Err e) value f single h = single f (ap (λ g. Err g) (same_reason e f h))

groups_reason : (room : ℕ) (bytes : List ℕ) (f : O5Reason) → groups_at room bytes ≡ Err f → f ≡ BadNumber
unfolding groups_at
groups_reason zero bytes f h = cc
groups_reason (suc room) [] f h = cc
groups_reason (suc room) (b ∷ bytes) f h =
    elim (ltb b 128) as (λ t. (if t then Ok (b, bytes) else with_low (b - 128) (groups_at room bytes)) ≡ Err f → f ≡ BadNumber) [
      | true ↦ λ e. cc
      | false ↦ λ e. groups_reason room bytes f (low_reason (b - 128) (groups_at room bytes) f e)
    ] h

number_reason : (bytes : List ℕ) (f : O5Reason) → number_at bytes ≡ Err f → f ≡ BadNumber
unfolding number_at
number_reason bytes f h = within_reason (groups_at 10 bytes) f (groups_reason 10 bytes) h

number_same : (bytes : List ℕ) (x : ℕ × List ℕ) → Same (number_at bytes ≡ Ok x) (NumberAtFront bytes x)
number_same bytes x = (number_found bytes x, number_only bytes x)

-- an unsigned number is refused exactly for BadNumber, if the bytes begin with no number
pub number_refused : (bytes : List ℕ) (reason : O5Reason) → Same (number_at bytes ≡ Err reason) (NumberRefused bytes reason)
number_refused bytes reason = only_reason (number_at bytes) BadNumber reason (NumberAtFront bytes) (number_reason bytes) (number_same bytes)

signed_reason : (bytes : List ℕ) (f : O5Reason) → signed_at bytes ≡ Err f → f ≡ BadNumber
unfolding signed_at
signed_reason bytes f h = value_reason (number_at bytes) _ f (number_reason bytes) h

signed_same : (bytes : List ℕ) (x : ℤ × List ℕ) → Same (signed_at bytes ≡ Ok x) (SignedAtFront bytes x)
signed_same bytes x = (signed_found bytes x, signed_only bytes x)

signed_refused : (bytes : List ℕ) (reason : O5Reason) → Same (signed_at bytes ≡ Err reason) (SignedRefused bytes reason)
signed_refused bytes reason = only_reason (signed_at bytes) BadNumber reason (SignedAtFront bytes) (signed_reason bytes) (signed_same bytes)

-- ---- strings
ended_reason : (bytes : List ℕ) (place : Option ℕ) (f : O5Reason) → split_at_end bytes place ≡ Err f → f ≡ BadText
ended_reason bytes None f h = sym (same_reason BadText f h)
ended_reason bytes (Some end) f h = cc

next_reason : {X Y : Type 0} {only : O5Reason} (r : Result X O5Reason) (next : X → Result Y O5Reason) (f : O5Reason) →
    ((g : O5Reason) → r ≡ Err g → g ≡ only) →
    ((x : X) → next x ≡ Err f → f ≡ only) → and_then r next ≡ Err f → f ≡ only
next_reason (Ok x) next f single remaining h = remaining x h
next_reason (Err e) next f single remaining h = single f (ap (λ g. Err g) (same_reason e f h))

string_reason : (bytes : List ℕ) (f : O5Reason) → string_at bytes ≡ Err f → f ≡ BadText
unfolding string_at
string_reason bytes f h = ended_reason bytes _ f h

inline_reason : (form : Form) (bytes : List ℕ) (f : O5Reason) → inline_at form bytes ≡ Err f → f ≡ BadText
unfolding inline_at
inline_reason Pair bytes f h = next_reason (string_at bytes) _ f (string_reason bytes)
    (λ x e. value_reason (string_at x.1) _ f (string_reason x.1) e) h
inline_reason Single bytes f h = value_reason (string_at bytes) _ f (string_reason bytes) h

inline_refused : (form : Form) (bytes : List ℕ) (reason : O5Reason) →
    Same (inline_at form bytes ≡ Err reason) (InlineRefused form bytes reason)
inline_refused form bytes reason =
    only_reason (inline_at form bytes) BadText reason (InlineAtFront form bytes) (inline_reason form bytes)
    (λ x. (inline_found form bytes x, inline_only form bytes x))

abbrev with_table_and : List EntryStrings → List ℕ → EntryStrings → Result (EntryStrings × List EntryStrings × List ℕ) O5Reason
with_table_and table rest e = Ok (e, table, rest)

abbrev inline_of : EntryStrings × List ℕ → Result (StringRef × List ℕ) O5Reason
inline_of y = Ok (Inline y.0, y.1)

abbrev resolved : List EntryStrings → StringRef × List ℕ → Result (EntryStrings × List EntryStrings × List ℕ) O5Reason
resolved table x = and_then (strings_of table x.0) (with_table_and (table_after x.0 table) x.1)

abbrev moved_on : {X : Type 0} → (ℤ → Result X O5Reason) → (X → Segment) → ℤ × List ℕ → ReadStep X
moved_on {X} moved after x = let made : X → ReadStep X = λ v. Ok (v, after v, x.1) in and_then (moved x.0) made

missing : (table : List EntryStrings) (rest : List ℕ) (o : Option EntryStrings) (reason : O5Reason) →
    Same (and_then (entry_or_fault o) (with_table_and table rest) ≡ Err reason) ((o ≡ None) × (reason ≡ BadReference))
missing table rest None reason = (λ h. (refl, sym (same_reason BadReference reason h)), λ h. ap (λ e. Err e) (sym h.1))
missing table rest (Some e) reason = (λ h. cc, λ h. (let clash = h.0 in cc))

-- a step that only makes a value can be joined with the next step
joined : {X Y Z : Type 0} (r : Result X O5Reason) (value : X → Y) (next : Y → Result Z O5Reason) →
    and_then (and_then r (λ x. Ok (value x))) next ≡ and_then r (λ x. next (value x))
joined (Ok x) value next = refl
joined (Err e) value next = refl

inline_first : (r : Result (EntryStrings × List ℕ) O5Reason) (table : List EntryStrings) (reason : O5Reason) →
    and_then (and_then r inline_of) (resolved table) ≡ Err reason → r ≡ Err reason
inline_first (Ok x) table reason h = cc
inline_first (Err e) table reason h = ap (λ f. Err f) (same_reason e reason h)

inline_again : (form : Form) (table : List EntryStrings) (bytes : List ℕ) (reason : O5Reason) {Q : Type 0} →
    ((true ≡ true) × InlineRefused form bytes reason) ⊎ ((true ≡ false) × Q) →
    (InlineRefused form bytes reason → inline_at form bytes ≡ Err reason) →
    and_then (and_then (inline_at form bytes) inline_of) (resolved table) ≡ Err reason
inline_again form table bytes reason (inl s) again = rw (again s.1) refl
inline_again form table bytes reason (inr s) again = (let clash = s.0 in cc)

reference_again : (table : List EntryStrings) (bytes : List ℕ) (reason : O5Reason) {P Q : Type 0} →
    ((false ≡ true) × P) ⊎ ((false ≡ false) × ReferenceMissing table bytes reason) →
    (ReferenceMissing table bytes reason → Q) → Q
reference_again table bytes reason (inl s) again = absurd (false≢true s.0)
reference_again table bytes reason (inr s) again = again s.1

strings_refused : (form : Form) (table : List EntryStrings) (bytes : List ℕ) (reason : O5Reason) →
    Same (strings_at form table bytes ≡ Err reason) (StringsRefused form table bytes reason)
unfolding strings_at spelled_at
strings_refused form table [] reason = (λ h. sym (same_reason BadText reason h), λ h. ap (λ e. Err e) (sym h))
strings_refused form table (b ∷ bytes) reason =
    let remaining : StringRef × List ℕ → Result (EntryStrings × List EntryStrings × List ℕ) O5Reason =
    λ x. and_then (strings_of table x.0) (λ e. Ok (e, table_after x.0 table, x.1)) in
    let inline : Result (StringRef × List ℕ) O5Reason = and_then (inline_at form bytes) (λ y. Ok (Inline y.0, y.1)) in
    let reference : Result (StringRef × List ℕ) O5Reason = and_then (number_at (b ∷ bytes)) (λ y. Ok (Reference y.0, y.1)) in
    elim (eqb b 0) as (λ t. Same (and_then (if t then inline else reference) remaining ≡ Err reason)
    (((t ≡ true) × InlineRefused form bytes reason) ⊎ ((t ≡ false) × ReferenceMissing table (b ∷ bytes) reason))) [
      | true ↦ (let r = inline_refused form bytes reason in (
        λ h. inl (refl, r.0 (inline_first (inline_at form bytes) table reason h)),
        λ s. inline_again form table bytes reason s r.1,
      ))
      | false ↦ (let r = then_same (number_at (b ∷ bytes)) (λ y. remaining (Reference y.0, y.1)) reason (NumberRefused (b ∷ bytes) reason)
          (NumberAtFront (b ∷ bytes)) (λ x. (entry_at table x.0 ≡ None) × (reason ≡ BadReference))
          (number_refused (b ∷ bytes) reason) (number_same (b ∷ bytes)) (λ x. missing table x.1 (entry_at table x.0) reason) in
          let same = joined (number_at (b ∷ bytes)) (λ y. (Reference y.0, y.1)) remaining in
          (λ h. inr (refl, r.0 (sym same ∙ h)), λ s. reference_again table (b ∷ bytes) reason s (λ m. same ∙ r.1 m)))
    ]

strings_same : (form : Form) (table : List EntryStrings) (bytes : List ℕ) (x : EntryStrings × List EntryStrings × List ℕ) →
    Same (strings_at form table bytes ≡ Ok x) (StringsAtFront form table bytes x)
strings_same form table bytes x = (strings_found form table bytes x, strings_only form table bytes x)

-- ---- steps
moved_refused : {X : Type 0} (moved : ℤ → Result X O5Reason) (after : X → Segment) (bytes : List ℕ) (reason : O5Reason) →
    Same (and_then (signed_at bytes) (moved_on moved after) ≡ Err reason) (MovedRefused moved bytes reason)
moved_refused moved after bytes reason =
    then_same (signed_at bytes) (moved_on moved after) reason (SignedRefused bytes reason) (SignedAtFront bytes)
    (λ x. moved x.0 ≡ Err reason)
    (signed_refused bytes reason) (signed_same bytes) (λ x. last_same (moved x.0) _ reason _ (λ h. h, λ h. h))

version_refused : (bytes : List ℕ) (reason : O5Reason) → Same (version_at bytes ≡ Err reason) (VersionRefused bytes reason)
unfolding version_at
version_refused bytes reason =
    then_same (number_at bytes) nonzero_version reason (NumberRefused bytes reason) (NumberAtFront bytes)
    (λ x. nonzero_version x ≡ Err reason)
    (number_refused bytes reason) (number_same bytes) (λ x. (λ h. h, λ h. h))

user_refused : (s : Segment) (bytes : List ℕ) (reason : O5Reason) → Same (user_at s bytes ≡ Err reason) (UserRefused s bytes reason)
unfolding user_at
user_refused s bytes reason =
    then_same (strings_at Pair s.table bytes) _ reason (StringsRefused Pair s.table bytes reason) (StringsAtFront Pair s.table bytes)
    (λ x. user_of x.0 ≡ Err reason)
    (strings_refused Pair s.table bytes reason) (strings_same Pair s.table bytes) (λ x. last_same (user_of x.0) _ reason _ (λ h. h, λ h. h))

after_refused : (changeset : ℕ) (s : Segment) (bytes : List ℕ) (reason : O5Reason) →
    Same (author_after_changeset (changeset, s, bytes) ≡ Err reason) (UserOrEndRefused s bytes reason)
unfolding author_after_changeset
after_refused changeset s [] reason = (λ h. cc, λ h. absurd h)
after_refused changeset s (b ∷ bytes) reason = last_same (user_at s (b ∷ bytes)) _ reason _ (user_refused s (b ∷ bytes) reason)

author_refused : (time : ℕ) (s : Segment) (bytes : List ℕ) (reason : O5Reason) →
    Same (author_at time s bytes ≡ Err reason) (AuthorRefused time s bytes reason)
unfolding author_at changeset_at
author_refused time s bytes reason =
    elim (eqb time 0) as (λ t. Same ((if t then Ok (author 0 0 [], s, bytes) else and_then (changeset_at s bytes) author_after_changeset)
    ≡ Err reason)
    ((t ≡ false) × Then (MovedRefused (moved_number s.bases.changeset) bytes reason) (ChangesetAtFront s bytes)
    (λ x. UserOrEndRefused x.1 x.2 reason))) [
      | true ↦ (λ h. cc, λ h. (let clash = h.0 in cc))
      | false ↦ (let after : ℕ → Segment = λ c. with_bases s (record s.bases { changeset = c }) in
          let r = then_same (changeset_at s bytes) author_after_changeset reason
          (MovedRefused (moved_number s.bases.changeset) bytes reason)
          (ChangesetAtFront s bytes) (λ x. UserOrEndRefused x.1 x.2 reason)
          (moved_refused (moved_number s.bases.changeset) after bytes reason)
          (λ x. (moved_found (moved_number s.bases.changeset) after bytes x, moved_only (moved_number s.bases.changeset) after bytes x))
          (λ x. after_refused x.0 x.1 x.2 reason) in
          (λ h. (refl, r.0 h), λ h. r.1 h.1))
    ]

meta_refused : (s : Segment) (bytes : List ℕ) (reason : O5Reason) → Same (meta_at s bytes ≡ Err reason) (MetaRefused s bytes reason)
unfolding meta_at time_at
meta_refused s bytes reason =
    then_same (version_at bytes) _ reason (VersionRefused bytes reason) (VersionAtFront bytes) _ (version_refused bytes reason)
    (λ v. (version_found bytes v, version_only bytes v)) (λ v.
    let after : ℕ → Segment = λ time. with_bases s (record s.bases { time = time }) in
    then_same (time_at s v.1) _ reason (MovedRefused (moved_number s.bases.time) v.1 reason) (TimeAtFront s v.1) _
    (moved_refused (moved_number s.bases.time) after v.1 reason)
    (λ t. (moved_found (moved_number s.bases.time) after v.1 t, moved_only (moved_number s.bases.time) after v.1 t)) (λ t.
    last_same (author_at t.0 t.1 t.2) _ reason _ (author_refused t.0 t.1 t.2 reason)))

-- ---- items
tag_refused : (s : Segment) (bytes : List ℕ) (reason : O5Reason) → Same (tag_at s bytes ≡ Err reason) (TagRefused s bytes reason)
unfolding tag_at
tag_refused s bytes reason =
    then_same (strings_at Pair s.table bytes) _ reason (StringsRefused Pair s.table bytes reason) (StringsAtFront Pair s.table bytes)
    (λ x. tag_of x.0 ≡ Err reason)
    (strings_refused Pair s.table bytes reason) (strings_same Pair s.table bytes) (λ x. last_same (tag_of x.0) _ reason _ (λ h. h, λ h. h))

reference_refused : (s : Segment) (bytes : List ℕ) (reason : O5Reason) →
    Same (reference_at s bytes ≡ Err reason) (ReferenceRefused s bytes reason)
unfolding reference_at
reference_refused s bytes reason = moved_refused (moved_id s.bases.reference)
    (λ id. with_bases s (record s.bases { reference = id })) bytes reason

member_refused : (s : Segment) (bytes : List ℕ) (reason : O5Reason) → Same (member_at s bytes ≡ Err reason) (MemberRefused s bytes reason)
unfolding member_at
member_refused s bytes reason =
    then_same (signed_at bytes) _ reason (SignedRefused bytes reason) (SignedAtFront bytes) _ (signed_refused bytes reason)
    (signed_same bytes) (λ d.
    then_same (strings_at Single s.table d.1) _ reason (StringsRefused Single s.table d.1 reason) (StringsAtFront Single s.table d.1) _
    (strings_refused Single s.table d.1 reason) (strings_same Single s.table d.1) (λ x.
    then_same (kind_and_role x.0.first) _ reason _ _ _ (λ h. h, λ h. h) (λ m. (λ h. h, λ h. h)) (λ m.
    then_same (with_member s.seen m.0) _ reason _ _ _ (λ h. h, λ h. h) (λ seen. (λ h. h, λ h. h)) (λ seen.
    then_same (moved_member s.bases m.0 d.0) _ reason _ _ _ (λ h. h, λ h. h) (λ id. (λ h. h, λ h. h)) (λ id.
    last_same (text_of m.1) _ reason _ (λ h. h, λ h. h))))))

module _ {X : Type 0} (item_at : Segment → List ℕ → ReadStep X) (AtFront : Segment → List ℕ → X × Segment × List ℕ → Type 0)
    (Refused : Segment → List ℕ → O5Reason → Type 0)
    (found : (s : Segment) (bytes : List ℕ) (x : X × Segment × List ℕ) → item_at s bytes ≡ Ok x → AtFront s bytes x)
    (only : (s : Segment) (bytes : List ℕ) (x : X × Segment × List ℕ) → AtFront s bytes x →
    (item_at s bytes ≡ Ok x) × (length x.2 < length bytes))
    (refused : (s : Segment) (bytes : List ℕ) (reason : O5Reason) → Same (item_at s bytes ≡ Err reason) (Refused s bytes reason))
    (reason : O5Reason) where
  up_to_refused : (most : ℕ) (s : Segment) (bytes : List ℕ) → length bytes ≤ most → items_up_to item_at most s bytes ≡ Err reason →
      ItemsRefused AtFront Refused s bytes reason
  unfolding items_up_to
  up_to_refused most s [] room h = cc
  up_to_refused zero s (b ∷ bytes) room h = absurd (omega arith)
  up_to_refused (suc most) s (b ∷ bytes) room h =
      let next : X × Segment × List ℕ → Result (List X × Segment) O5Reason =
      λ x. and_then (items_up_to item_at most x.1 x.2) (λ more. Ok (x.0 ∷ more.0, more.1)) in
      elim (then_found (item_at s (b ∷ bytes)) next reason (Refused s (b ∷ bytes) reason) (λ x. item_at s (b ∷ bytes) ≡ Ok x)
      (λ x. next x ≡ Err reason)
      ((refused s (b ∷ bytes) reason).0) (λ x e. e) (λ x e. e) h) [
        | inl first ↦ ([], (first, λ e. (let clash = e in cc)))
        | inr later ↦ (let x = later.0 in
            let spelled = found s (b ∷ bytes) x later.1 in
            let shorter = (only s (b ∷ bytes) x spelled).1 in
            let more = up_to_refused most x.1 x.2 (omega arith)
            (((last_same (items_up_to item_at most x.1 x.2) _ reason _ (λ e. e, λ e. e)).0) later.2) in
            (x.0 ∷ more.0, (x.1, x.2, spelled, more.1)))
      ]

  up_to_again : (xs : List X) (most : ℕ) (s : Segment) (bytes : List ℕ) → length bytes ≤ most →
      RefusedAfterItems AtFront Refused reason xs s bytes → items_up_to item_at most s bytes ≡ Err reason
  unfolding items_up_to
  up_to_again [] most s [] room h = absurd (h.1 refl)
  up_to_again [] zero s (b ∷ bytes) room h = absurd (omega arith)
  up_to_again [] (suc most) s (b ∷ bytes) room h = ap
      (λ r. and_then r (λ x. and_then (items_up_to item_at most x.1 x.2) (λ more. Ok (x.0 ∷ more.0, more.1))))
      ((refused s (b ∷ bytes) reason).1 h.0)
  up_to_again (x ∷ xs) most s [] room h = absurd (let one = only s [] (x, h.0, h.1) h.2 in let short = one.1 in omega arith)
  up_to_again (x ∷ xs) zero s (b ∷ bytes) room h = absurd (omega arith)
  up_to_again (x ∷ xs) (suc most) s (b ∷ bytes) room h =
      let one = only s (b ∷ bytes) (x, h.0, h.1) h.2 in
      let short = one.1 in
      read_next (item_at s (b ∷ bytes)) _ _ one.0 ∙ ap (λ r. and_then r (λ more. Ok (x ∷ more.0, more.1)))
      (up_to_again xs most h.0 h.1 (omega arith) h.3)

  items_refused : (s : Segment) (bytes : List ℕ) →
      Same (items_at item_at s bytes ≡ Err reason) (ItemsRefused AtFront Refused s bytes reason)
  unfolding items_at
  items_refused s bytes = (
    up_to_refused (length bytes) s bytes (omega arith),
    λ h. up_to_again h.0 (length bytes) s bytes (omega arith) h.1,
  )

tags_refused : (s : Segment) (bytes : List ℕ) (reason : O5Reason) → Same (items_at tag_at s bytes ≡ Err reason) (TagsRefused s bytes reason)
tags_refused s bytes reason = items_refused tag_at TagAtFront TagRefused tag_found tag_only tag_refused reason s bytes

-- ---- bodies
abbrev cut_by : Bool → ℕ × List ℕ → Result (List ℕ × List ℕ) O5Reason
cut_by t x = if t then Ok (take x.0 x.1, drop x.0 x.1) else Err BadSection

cut_refused : (x : ℕ × List ℕ) (reason : O5Reason) → Same (cut_at x ≡ Err reason) ((length x.1 < x.0) × (reason ≡ BadSection))
cut_refused x reason =
    elim (leb x.0 (length x.1)) as (λ t. leb x.0 (length x.1) ≡ t →
    Same (cut_by t x ≡ Err reason) ((length x.1 < x.0) × (reason ≡ BadSection))) [
      | true ↦ λ t. (λ h. cc, λ h. (let inside : x.0 ≤ length x.1 = grind (arith, nat_tests) in let past = h.0 in absurd (omega arith)))
      | false ↦ λ t. (λ h. (grind (arith, nat_tests), sym (same_reason BadSection reason h)), λ h. ap (λ e. Err e) (sym h.1))
    ] refl

section_refused : (bytes : List ℕ) (reason : O5Reason) → Same (section_at bytes ≡ Err reason) (SectionRefused bytes reason)
unfolding section_at
section_refused bytes reason =
    then_same (number_at bytes) cut_at reason (NumberRefused bytes reason) (NumberAtFront bytes)
    (λ x. (length x.1 < x.0) × (reason ≡ BadSection))
    (number_refused bytes reason) (number_same bytes) (λ x. cut_refused x reason)

section_same : (bytes : List ℕ) (x : List ℕ × List ℕ) → Same (section_at bytes ≡ Ok x) (SectionAtFront bytes x)
section_same bytes x = (section_found bytes x, section_only bytes x)

node_refused : (s : Segment) (bytes : List ℕ) (reason : O5Reason) → Same (node_at s bytes ≡ Err reason) (NodeRefused s bytes reason)
unfolding node_at longitude_at latitude_at
node_refused s bytes reason =
    let after : ℤ → Segment = λ v. with_bases s (record s.bases { lon = v }) in
    then_same (longitude_at s bytes) _ reason _ (LongitudeAtFront s bytes) _
    (moved_refused (moved_coordinate s.bases.lon) after bytes reason)
    (λ x. (moved_found (moved_coordinate s.bases.lon) after bytes x, moved_only (moved_coordinate s.bases.lon) after bytes x)) (λ lon.
    let remaining : ℤ → Segment = λ v. with_bases lon.1 (record lon.1.bases { lat = v }) in
    then_same (latitude_at lon.1 lon.2) _ reason _ (LatitudeAtFront lon.1 lon.2) _
    (moved_refused (moved_coordinate lon.1.bases.lat) remaining lon.2 reason)
    (λ x. (
      moved_found (moved_coordinate lon.1.bases.lat) remaining lon.2 x,
      moved_only (moved_coordinate lon.1.bases.lat) remaining lon.2 x,
    ))
    (λ lat.
    last_same (items_at tag_at lat.1 lat.2) _ reason _ (tags_refused lat.1 lat.2 reason)))

way_refused : (s : Segment) (bytes : List ℕ) (reason : O5Reason) → Same (way_at s bytes ≡ Err reason) (WayRefused s bytes reason)
unfolding way_at
way_refused s bytes reason =
    then_same (section_at bytes) _ reason (SectionRefused bytes reason) (SectionAtFront bytes) _ (section_refused bytes reason)
    (section_same bytes) (λ section.
    then_same (with_section s.seen section.0) _ reason _ _ _ (λ h. h, λ h. h) (λ seen. (λ h. h, λ h. h)) (λ seen.
    then_same (items_at reference_at (with_seen s seen) section.0) _ reason _ _ _
    (items_refused reference_at ReferenceAtFront ReferenceRefused reference_found reference_only reference_refused reason
    (with_seen s seen) section.0)
    (λ ids. (
      items_found reference_at ReferenceAtFront reference_found (with_seen s seen) section.0 ids,
      items_only reference_at ReferenceAtFront reference_only (with_seen s seen) section.0 ids.0 ids.1,
    )) (λ ids.
    last_same (items_at tag_at ids.1 section.1) _ reason _ (tags_refused ids.1 section.1 reason))))

relation_refused : (s : Segment) (bytes : List ℕ) (reason : O5Reason) →
    Same (relation_at s bytes ≡ Err reason) (RelationRefused s bytes reason)
unfolding relation_at
relation_refused s bytes reason =
    then_same (section_at bytes) _ reason (SectionRefused bytes reason) (SectionAtFront bytes) _ (section_refused bytes reason)
    (section_same bytes) (λ section.
    then_same (items_at member_at s section.0) _ reason _ _ _
    (items_refused member_at MemberAtFront MemberRefused member_found member_only member_refused reason s section.0)
    (λ members. (
      items_found member_at MemberAtFront member_found s section.0 members,
      items_only member_at MemberAtFront member_only s section.0 members.0 members.1,
    )) (λ members.
    last_same (items_at tag_at members.1 section.1) _ reason _ (tags_refused members.1 section.1 reason)))

body_refused : (k : Kind) (s : Segment) (bytes : List ℕ) (reason : O5Reason) →
    Same (body_at k s bytes ≡ Err reason) (BodyRefused k s bytes reason)
unfolding body_at
body_refused k s [] reason = (λ h. cc, λ h. absurd h)
body_refused kind.Node s (b ∷ bytes) reason = node_refused s (b ∷ bytes) reason
body_refused kind.Way s (b ∷ bytes) reason = way_refused s (b ∷ bytes) reason
body_refused kind.Relation s (b ∷ bytes) reason = relation_refused s (b ∷ bytes) reason

-- ---- whole data sets
-- a data set is refused for a reason exactly if that is the reason of its first step that can't be done
pub set_refused : (k : Kind) (s : Segment) (content : List ℕ) (reason : O5Reason) →
    Same (set_at k s content ≡ Err reason) (SetReason k s content reason)
unfolding set_at id_at
set_refused k s content reason =
    let after : ℤ → Segment = λ v. with_bases s (record s.bases { id = v }) in
    then_same (id_at s content) _ reason _ (IdAtFront s content) _ (moved_refused (moved_id s.bases.id) after content reason)
    (λ x. (moved_found (moved_id s.bases.id) after content x, moved_only (moved_id s.bases.id) after content x)) (λ id.
    then_same (meta_at id.1 id.2) _ reason (MetaRefused id.1 id.2 reason) (MetaAtFront id.1 id.2) _ (meta_refused id.1 id.2 reason)
    (λ m. (meta_found id.1 id.2 m, meta_only id.1 id.2 m)) (λ m.
    last_same (body_at k m.1 m.2) _ reason _ (body_refused k m.1 m.2 reason)))
