-- Laws of the definitions: a value is read exactly if its bytes spell it.
use Rattle.std.specs.Prelude.{◌≡◌, ◌⊎◌, ◌<◌, ◌^◌, ℕ, ℤ, true, false, ◌&&◌, List, [], ◌∷◌, ◌++◌, All, Ok, Err}
use Rattle.std.specs.List.{list_any}
use Rattle.osm_model.specs.declared.kind.Kind.{Kind}
use Rattle.osm_model.specs.Data.{VersionData}
use Rattle.osm_model.specs.Valid.{IsVersion}
use Rattle.o5_codec.specs.declared.read.segment.Segment.{Segment}
use Rattle.o5_codec.specs.declared.strings.Form.{Form}
use Rattle.o5_codec.specs.Entry.{EntryStrings}
use Rattle.o5_codec.specs.Table.{table_with, table_of}
use Rattle.o5_codec.specs.Number.{SpellsNumber, number_at, signed_at}
use Rattle.o5_codec.specs.StringPair.{strings_at}
use Rattle.o5_codec.specs.Text.{text_of, user_of}
use Rattle.o5_codec.specs.Body.{set_at}
use Rattle.o5_codec.specs.declared.reason.O5Reason.{O5Reason}
use Rattle.o5_codec.specs.Reason.{is_step_reason}
use Rattle.o5_codec.specs.Refusal.{SetReason}
use Rattle.o5_codec.specs.Sound.{is_sound}
use Rattle.o5_codec.specs.Decoder.{new_segment}
use Rattle.o5_codec.specs.Earlier.{has_references, has_node_members, segment_of, inline_entries, SpellSets, sets_at}
use Rattle.o5_codec.specs.Spelling.{NumberAtFront, SignedAtFront, StringsAtFront, SpellsSet}

-- an unsigned number is read exactly if it is spelled
abbrev pub NumbersAreRead : Type 0
NumbersAreRead =
    (bytes : List ℕ) (x : ℕ × List ℕ) → (number_at bytes ≡ Ok x → NumberAtFront bytes x) ×
    (NumberAtFront bytes x → number_at bytes ≡ Ok x)

-- a signed number is read exactly if it is spelled
abbrev pub SignedNumbersAreRead : Type 0
SignedNumbersAreRead =
    (bytes : List ℕ) (x : ℤ × List ℕ) → (signed_at bytes ≡ Ok x → SignedAtFront bytes x) ×
    (SignedAtFront bytes x → signed_at bytes ≡ Ok x)

-- strings are read exactly if they are spelled, inline or by a reference
abbrev pub StringsAreRead : Type 0
StringsAreRead = (form : Form) (table : List EntryStrings) (bytes : List ℕ)
    (x : EntryStrings × List EntryStrings × List ℕ) →
    (strings_at form table bytes ≡ Ok x → StringsAtFront form table bytes x) ×
    (StringsAtFront form table bytes x → strings_at form table bytes ≡ Ok x)

-- a user id: an empty string for 0, else one number below 2^32 with nothing after it
abbrev pub SpellsUid : List ℕ → ℕ → Type 0
SpellsUid [] n = n ≡ 0
SpellsUid (b ∷ bytes) n = SpellsNumber (b ∷ bytes) n × (n < 2 ^ 32)

-- a user is read exactly if the first string of a pair spells its id and the second its name
abbrev pub UsersAreRead : Type 0
UsersAreRead = (e : EntryStrings) (x : ℕ × List ℕ) →
    (user_of e ≡ Ok x → SpellsUid e.first x.0 × (text_of e.second ≡ Ok x.1)) ×
    (SpellsUid e.first x.0 × (text_of e.second ≡ Ok x.1) → user_of e ≡ Ok x)

-- the table of some inline entries and one more is the table of these entries, after the one more is stored
abbrev pub TableOfEntries : Type 0
TableOfEntries = (entries : List EntryStrings) (e : EntryStrings) →
    table_of (entries ++ e ∷ []) ≡ table_with e (table_of entries)

-- a version is read exactly if the content spells it, so a content that is refused spells none
abbrev pub SetsAreRead : Type 0
SetsAreRead = (k : Kind) (s : Segment) (content : List ℕ) (x : VersionData × Segment) →
    (set_at k s content ≡ Ok x → SpellsSet k s content x) × (SpellsSet k s content x → set_at k s content ≡ Ok x)

-- a content spells at most one version
abbrev pub OneVersion : Type 0
OneVersion =
    (k : Kind) (s : Segment) (content : List ℕ) (x y : VersionData × Segment) → SpellsSet k s content x →
    SpellsSet k s content y → x ≡ y

-- a content is refused exactly for the reason of its first step that can't be done
abbrev pub SetsAreRefused : Type 0
SetsAreRefused = (k : Kind) (s : Segment) (content : List ℕ) (reason : O5Reason) →
    (set_at k s content ≡ Err reason → SetReason k s content reason) ×
    (SetReason k s content reason → set_at k s content ≡ Err reason)

-- a content spells a version, or there is a reason why it spells none
abbrev pub SpelledOrRefused : Type 0
SpelledOrRefused =
    (k : Kind) (s : Segment) (content : List ℕ) → ((x : VersionData × Segment) × SpellsSet k s content x) ⊎
    ((reason : O5Reason) × SetReason k s content reason)

-- a content that has a reason spells no version and has no other reason, and the reason is that of a step
pub record IsTheOnlyReason (k : Kind) (s : Segment) (content : List ℕ) (reason : O5Reason) : Type 0 where
  pub spells_none : (x : VersionData × Segment) → SpellsSet k s content x → ⊥
  pub only : (other : O5Reason) → SetReason k s content other → other ≡ reason
  pub of_a_step : is_step_reason reason ≡ true

abbrev pub OneReason : Type 0
OneReason =
    (k : Kind) (s : Segment) (content : List ℕ) (reason : O5Reason) → SetReason k s content reason →
    IsTheOnlyReason k s content reason

-- Data sets in sequence are read exactly if they spell versions in sequence.
abbrev pub ListsAreRead : Type 0
ListsAreRead = (s : Segment) (sets : List (Kind × List ℕ)) (x : List VersionData × Segment) →
    (sets_at s sets ≡ Ok x → (inline : List EntryStrings) × SpellSets s sets x.0 inline x.1) ×
    ((inline : List EntryStrings) → SpellSets s sets x.0 inline x.1 → sets_at s sets ≡ Ok x)

-- one more data set after others spells one more version, and its inline entries come after those of the others
abbrev pub SetsGoOn : Type 0
SetsGoOn =
    (s : Segment) (sets : List (Kind × List ℕ)) (versions : List VersionData) (inline : List EntryStrings)
    (end : Segment)
    (k : Kind) (content : List ℕ) (x : VersionData × Segment) →
    SpellSets s sets versions inline end → (spells : SpellsSet k end content x) →
    SpellSets s (sets ++ (k, content) ∷ []) (versions ++ x.0 ∷ []) (inline ++ inline_entries k end content x spells) x.1

-- The lists of a segment's objects and entries determine it: each base is the value last spelled for its field, the
-- table is that of all inline entries, and the objects determine which lists it had.
abbrev pub ListsDetermineSegments : Type 0
ListsDetermineSegments =
    (sets : List (Kind × List ℕ)) (versions : List VersionData) (inline : List EntryStrings) (end : Segment) →
    SpellSets new_segment sets versions inline end → end ≡ segment_of versions inline

-- No segment has both a way with references and a relation with a node member.
abbrev pub ListsAreNotMixed : Type 0
ListsAreNotMixed = (sets : List (Kind × List ℕ)) (versions : List VersionData) (inline : List EntryStrings)
    (end : Segment) →
    SpellSets new_segment sets versions inline end →
    list_any has_references versions && list_any has_node_members versions ≡ false

-- Each version that is read from the start of a segment on is within the ranges of versions.
abbrev pub SetsMakeVersions : Type 0
SetsMakeVersions =
    (sets : List (Kind × List ℕ)) (versions : List VersionData) (end : Segment) →
    sets_at new_segment sets ≡ Ok (versions, end) → All IsVersion versions

-- A version that one data set spells, in a segment whose table has no zero bytes, is within the ranges of versions. The
-- table after it has no zero bytes either.
abbrev pub SoundSetsMakeVersions : Type 0
SoundSetsMakeVersions =
    (k : Kind) (s : Segment) (content : List ℕ) (x : VersionData × Segment) → is_sound s ≡ true →
    set_at k s content ≡ Ok x → IsVersion x.0 × (is_sound x.1 ≡ true)
