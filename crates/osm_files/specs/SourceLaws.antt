-- The meaning of the source of a file, in terms of sets and verdicts.
use Rattle.std.specs.Prelude.{true, ◌≡◌, ◌⊎◌, ◌↔◌, ℕ, ◌<◌, ◌≤◌, ◌^◌, nat_lt, List, ◌++◌, length, filter, Option, Some}
use Rattle.std.specs.Prelude.{None}
use Rattle.std.specs.Prelude.{option_map}
use Rattle.osm_model.specs.Data.{VersionData}
use Rattle.osm_model.specs.Order.{version_cmp}
use Rattle.osm_model.specs.Sets.{to_list, from_list}
use Rattle.osm_model.specs.VersionSet.{VersionSet}
use Rattle.osm_files.specs.declared.fault.Fault.{Fault}
use Rattle.osm_files.specs.declared.reason.Reason.{Reason}
use Rattle.osm_files.specs.declared.end_rule.EndRule.{EndRule}
use Rattle.osm_files.specs.EndRule.{ends_well, by_rule}
use Rattle.osm_files.specs.Stream.{SourceRest}
use Rattle.osm_files.specs.Groups.{ended_source, FileCanGive, to_ascending, new_source, sorted_source}
use Rattle.osm_files.specs.Held.{HoldsSorted}
use Rattle.osm_files.specs.LoadLaws.{IsFaultyWhole}
use Rattle.osm_files.specs.Input.{InputRest, GivesOne, whole_input as all_of, failed_after}
use Rattle.osm_files.specs.Position.{fault_of, units_from}
use Rattle.osm_files.specs.Source.{Ascends}
use Rattle.osm_files.specs.Stream.{Verdict, verdict_at}
use Rattle.osm_files.specs.Units.{units, start_of}
use Rattle.osm_files.specs.Verdict.{is_below_last, sorted_verdict, verdict, verdict_sorted, versions_of}

-- the versions that a source gives ascend strictly, whatever the bytes are and whatever follows them
abbrev pub SourcesAscend : Type 0
SourcesAscend = (input : ℕ) (c : InputRest) → Ascends (sorted_source input c)

-- the refusal of the source of a file is the file's verdict on order, if there is one
abbrev pub SourceEndsAsVerdict : Type 0
SourceEndsAsVerdict = (input : ℕ) (bytes : List ℕ) →
    (sorted_source input (all_of bytes)).refusal ≡ option_map (fault_of input) (verdict_sorted bytes)

-- the source of a sorted file gives the set that the file holds, whole
abbrev pub SourceGivesHeld : Type 0
SourceGivesHeld = (input : ℕ) (bytes : List ℕ) (held : VersionSet) → HoldsSorted bytes held →
    sorted_source input (all_of bytes) ≡ record { list = to_list held; refusal = None }

-- if the source of some bytes ends without a refusal, they are a sorted file, and hold the versions that the source
-- gives
abbrev pub WholeSourceIsHeld : Type 0
WholeSourceIsHeld = (input : ℕ) (bytes : List ℕ) → (sorted_source input (all_of bytes)).refusal ≡ None →
    HoldsSorted bytes (from_list {R = version_cmp} (sorted_source input (all_of bytes)).list)

-- The verdict on order of the whole units in these bytes, if the verdict `close` closes the file instead of its end. It
-- is `close`, if none of these units is faulty.
abbrev pub verdict_within : Verdict → List ℕ → Option Verdict
verdict_within close bytes = let us = units (Some close) (start_of bytes) 0 bytes in
    sorted_verdict us.refusal None us.list

-- a whole unit in these bytes is faulty: the verdict is `fault`, whatever closes them
abbrev pub IsFaultyWithin : List ℕ → Verdict → Type 0
IsFaultyWithin bytes fault = (close : Verdict) → verdict_within close bytes ≡ Some fault

-- if the bytes are refused at their end, for an error or a missing end, their source ends with the verdict of the whole
-- units in them, or with the refusal of the end if none of these units is faulty
abbrev pub FailedSourceEnds : Type 0
FailedSourceEnds =
    (reason : Reason) (input : ℕ) (bytes : List ℕ) → length bytes < 2 ^ 62 →
    (sorted_source input (failed_after reason bytes)).refusal
    ≡ option_map (fault_of input) (verdict_within (verdict_at (length bytes) reason) bytes)

-- the source of 2^62 bytes or more gives the same, whether they are refused at their end or not
abbrev pub LongSourceEnds : Type 0
LongSourceEnds = (reason : Reason) (input : ℕ) (bytes : List ℕ) → 2 ^ 62 ≤ length bytes →
    sorted_source input (failed_after reason bytes) ≡ sorted_source input (all_of bytes)

-- either some bytes have a whole faulty unit, and their verdict on order is the same whatever closes them; or their
-- verdict on order is the one that closes them
abbrev pub FaultyOrClosed : Type 0
FaultyOrClosed = (bytes : List ℕ) → ((fault : Verdict) × IsFaultyWithin bytes fault)
    ⊎ ((close : Verdict) → verdict_within close bytes ≡ Some close)

-- bytes after a whole faulty unit don't change the verdict on the order
abbrev pub FaultyStays : Type 0
FaultyStays = (bytes more : List ℕ) (fault : Verdict) → length bytes < 2 ^ 62 → IsFaultyWithin bytes fault →
    verdict_sorted (bytes ++ more) ≡ Some fault

-- bytes after a whole unit that can't be read don't change the verdict
abbrev pub MalformedStays : Type 0
MalformedStays = (bytes more : List ℕ) (fault : Verdict) → length bytes < 2 ^ 62 → IsFaultyWhole bytes fault →
    verdict (bytes ++ more) ≡ Some fault

-- The verdict on order of an input: its first faulty unit, or whatever comes instead of its end.
abbrev pub input_verdict : InputRest → Option Verdict
input_verdict c = let us = units_from None 0 c in sorted_verdict us.refusal None us.list

-- the versions whose units begin before this offset
abbrev pub versions_before : ℕ → InputRest → List VersionData
versions_before offset c = versions_of (filter (λ unit. nat_lt unit.offset offset) (units_from None 0 c).list)

-- the key groups before the last one: the versions whose key is below that of the last version
abbrev pub groups_before_last : List VersionData → List VersionData
groups_before_last versions = filter (λ v. is_below_last v versions) versions

-- the key groups before the last one that began before this offset, ascending, each version once
abbrev pub groups_before : ℕ → InputRest → List VersionData
groups_before offset c = to_ascending (groups_before_last (versions_before offset c))

-- Each list that the source of a file with a rule for its end can give is that of an input that has to end so.
abbrev pub EndedSourceGives : {R : Type 0} → (R → InputRest → Type 0) → Type 0
EndedSourceGives {R = R} can = (end : EndRule) (input : ℕ) (reader : R) (still : SourceRest VersionData Fault) →
    FileCanGive can (ended_source end input reader) still
    → GivesOne (can reader) (λ c. still ≡ sorted_source input (by_rule end c))

-- It can give a whole list only if the file ends as the rule says.
abbrev pub EndedSourceEndsWell : {R : Type 0} → (R → InputRest → Type 0) → Type 0
EndedSourceEndsWell {R = R} can = (end : EndRule) (input : ℕ) (reader : R) (still : SourceRest VersionData Fault) →
    FileCanGive can (ended_source end input reader) still → still.refusal ≡ None
    → GivesOne (can reader) (λ c. (ends_well end c.bytes ≡ true) × (still ≡ sorted_source input c))

-- the source of a faulty input gives the key groups before the last one that began before the fault, and then the fault
abbrev pub FaultyInputGivesTheGroupsBefore : Type 0
FaultyInputGivesTheGroupsBefore =
    (input : ℕ) (c : InputRest) (fault : Verdict) → input_verdict c ≡ Some fault
    → sorted_source input c ≡ record { list = groups_before fault.place c; refusal = Some (fault_of input fault) }

-- An opened source can give these versions and then this fault exactly if its reader can give an input whose verdict is
-- the fault, and the versions are the key groups before the last one that began before the fault.
abbrev pub RefusedSourceGivesTheGroupsBefore : {R : Type 0} → (R → InputRest → Type 0) → Type 0
RefusedSourceGivesTheGroupsBefore {R = R} can =
    (input : ℕ) (reader : R) (versions : List VersionData) (fault : Fault) →
    FileCanGive can (new_source input reader) (record { list = versions; refusal = Some fault })
    ↔ GivesOne (can reader) (λ c.
    (option_map (fault_of input) (input_verdict c) ≡ Some fault) × (versions ≡ groups_before fault.place c))
