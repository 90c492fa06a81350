-- The histories of mirrors stay within the ranges of versions, and their files are accepted.
use Rattle.std.proofs.Common.{◌≡◌, ℕ, ◌<◌, ◌^◌, List, [], length, Result, Ok, Err}
use Rattle.std.proofs.Common.{MatchResult, sym, ap, ◌∙◌, subst, arith, inl, inr}
use Rattle.std.specs.List.Sorted.{IsStrictlySortedBy}
use Rattle.osm_model.specs.Order.{version_cmp, version_cmp_total}
use Rattle.osm_model.specs.VersionSet.{VersionSet}
use Rattle.osm_model.specs.Sets.{union, empty, from_list, to_list, size}
use Rattle.osm_model.proofs.SetLaws.{contains-from_list}
use Rattle.osm_model.proofs.VersionLaws.{to_list-view}
use Rattle.osm_files.specs.declared.fault.Fault.{Fault}
use Rattle.osm_files.specs.declared.format.Format.{Format}
use Rattle.osm_files.specs.declared.load.Loaded.{Loaded}
use Rattle.osm_files.specs.Held.{Holds, HoldsSorted}
use Rattle.osm_files.specs.Input.{InputRest, GivesOne, whole_input}
use Rattle.osm_files.specs.Load.{Loads, StopsLoading}
use Rattle.osm_files.specs.Output.{IsAppended}
use Rattle.osm_files.specs.Spell.{spell}
use Rattle.osm_files.specs.SpellLaws.{AreVersions}
use Rattle.osm_files.specs.Verdict.{verdict, held_by}
use Rattle.osm_files.proofs.LoadFaults.{inputs_are_files}
use Rattle.osm_files.proofs.SpellLaws.{held_are_versions, held_without_verdict, spell_holds, unions_are_versions, are_fewer}
use Rattle.osm_merge.specs.Selected.{snapshot}
use Rattle.osm_merge.specs.Union.{capped_count}
use Rattle.osm_mirror.specs.declared.fleet.keep.Keep.{Keep}
use Rattle.osm_mirror.specs.declared.fleet.keep.Keep.TheVariants.{Full, Latest}
use Rattle.osm_mirror.specs.fleet.Mirror.{MirrorData, kept_part, after_taking, new_mirror, IsMirror, TakesFile, WhyNotTaken, WhyNotSpelled}
use Rattle.std.specs.Prelude.{slice_set}
use Rattle.std.proofs.lemmas.Option.{none-some}
use Rattle.osm_mirror.specs.fleet.Fleet.{mirror_at, IsShort}
use Rattle.osm_mirror.proofs.fleet_laws.FleetLaws.{snapshot_part, took_kept, fresh_kept}
use Rattle.osm_files.proofs.SpellLaws.{equal_sets, in_none}
use Rattle.osm_files.proofs.RunOrderLaws.{mapped_fault as some_fault}

within_limit : (count n : ℕ) → count ≡ n → count < 2 ^ 64 → count ≡ capped_count n
within_limit count n is below = omega (arith, is, below)

-- ---- within the ranges of versions
none_listed : length (to_list (from_list {R = version_cmp} [])) ≡ 0
unfolding IsStrictlySortedBy
none_listed = ap length (to_list-view [] tt)

none_valid : AreVersions empty
none_valid =
    let same : from_list {R = version_cmp} [] ≡ empty = equal_sets _ _ (λ v. contains-from_list version_cmp_total [] v ∙ sym (in_none v)) in
    subst AreVersions same (λ k d within. absurd (omega (arith, within, none_listed)))

kept_valid : (keep : Keep) (set : VersionSet) → AreVersions set → AreVersions (kept_part keep set)
kept_valid Full set h = h
kept_valid Latest set h = are_fewer set (snapshot set) h (snapshot_part set)

pub took_sound : (m : MirrorData) (set : VersionSet) → IsMirror m → AreVersions set → IsMirror (after_taking m set)
took_sound m set h valid =
    record {
      own_snapshot = took_kept m set;
      versions =
          kept_valid m.keep (union m.held set) (unions_are_versions m.held set h.versions valid);
    }

-- A new mirror is sound.
pub fresh_sound : (keep : Keep) → IsMirror (new_mirror keep)
fresh_sound keep = record { own_snapshot = fresh_kept keep; versions = none_valid }

-- a mirror that took a set, or ran out of memory
pub absorbed : {E : Type 0} (m : MirrorData) (set all now : VersionSet) (result : Result (Unit {0}) E) → IsMirror m → AreVersions set
    → all ≡ kept_part m.keep (union m.held set) →
    MatchResult result (λ _. now ≡ all) (λ _. now ≡ m.held) → IsMirror (record { keep = m.keep; held = now })
absorbed m set all now (Ok u) h valid both is =
    subst (λ (held : VersionSet). IsMirror (record { keep = m.keep; held = held })) (sym (is ∙ both)) (took_sound m set h valid)
absorbed m set all now (Err e) h valid both is = subst (λ (held : VersionSet). IsMirror (record { keep = m.keep; held = held })) (sym is) h

-- ---- the files that a mirror takes
-- a property of something that a slice can give is one of its bytes
pub of_slice : (bytes : List ℕ) (P : InputRest → Type 0) → GivesOne (λ c. c ≡ whole_input bytes) P → P (whole_input bytes)
of_slice bytes P h = subst P h.1 h.2

-- a file that is loaded is accepted, and the history loaded is the file's set
pub loaded_holds : (bytes : List ℕ) (loaded : Loaded) → Loads (whole_input bytes) loaded
    → Holds bytes (held_by bytes) × (loaded.history ≡ held_by bytes)
loaded_holds bytes loaded h =
    let same = ((held_without_verdict bytes loaded.history).0 h.holds).1 in
    (subst (Holds bytes) same h.holds, same)

-- A history that was loaded is a set of versions.
pub loaded_valid : (bytes : List ℕ) (loaded : Loaded) → Loads (whole_input bytes) loaded → AreVersions loaded.history
loaded_valid bytes loaded h = held_are_versions bytes loaded.history h.holds

-- A mirror that took the history loaded of a file took the file.
pub takes_file : (bytes given : List ℕ) (old new : MirrorData) (loaded : Loaded) (count : ℕ) → given ≡ bytes →
    Loads (whole_input given) loaded
    → new ≡ after_taking old loaded.history → count ≡ size loaded.history → count < 2 ^ 64
    → TakesFile bytes old new (record { versions = count })
takes_file bytes given old new loaded count same h is counted below =
    let held = loaded_holds bytes loaded (subst (λ (b : List ℕ). Loads (whole_input b) loaded) same h) in
    let whole_count : count ≡ size (held_by bytes) = counted ∙ ap size held.1 in
    record {
      accepted = held.0;
      holds = is ∙ ap (after_taking old) held.1;
      count =
          within_limit count (size (held_by bytes)) whole_count below;
    }

-- A file that isn't loaded is refused with its verdict or Memory.
pub not_loaded : (bytes : List ℕ) (fault : Fault) → StopsLoading 0 (whole_input bytes) fault → WhyNotTaken bytes fault
not_loaded bytes fault (inl memory) = inl memory
not_loaded bytes fault (inr stops) = inr (some_fault 0 (verdict bytes) fault (sym (inputs_are_files 0 bytes).1 ∙ stops))

-- the file of a mirror is taken, unless memory runs out
pub written_is_held : (bytes : List ℕ) (set : VersionSet) → HoldsSorted bytes set → held_by bytes ≡ set
written_is_held bytes set h =
    sym ((held_without_verdict bytes set).0 (record { short = h.short; versions = h.versions; file = h.file; members = h.members })).1

pub written_not_taken : (bytes : List ℕ) (format : Format) (set : VersionSet) (fault : Fault) → HoldsSorted bytes set
    → WhyNotTaken bytes fault → WhyNotSpelled format set fault
written_not_taken bytes format set fault h (inl memory) = inl memory
written_not_taken bytes format set fault h (inr refused) =
    let none =
    ((held_without_verdict bytes set).0 (record { short = h.short; versions = h.versions; file = h.file; members = h.members })).0 in
    absurd (none-some _ (sym none ∙ refused.1))

-- a mirror that is given the file refuses it only for memory, or takes exactly the writer's history
pub written_reply : {A : Type 0} (bytes given : List ℕ) (format : Format) (set : VersionSet) (r : Result A Fault) → given ≡ bytes
    → HoldsSorted bytes set → bytes ≡ spell format set
    → MatchResult r (λ _. Holds given (held_by given)) (WhyNotTaken given)
    → MatchResult r (λ _. IsShort format set) (WhyNotSpelled format set)
written_reply bytes given format set (Ok done) same h spelled outcome = subst (λ (b : List ℕ). length b < 2 ^ 62) spelled h.short
written_reply bytes given format set (Err fault) same h spelled outcome =
    written_not_taken bytes format set fault h (subst (λ (b : List ℕ). WhyNotTaken b fault) same outcome)

pub given_set : (bytes given : List ℕ) (set : VersionSet) → given ≡ bytes → HoldsSorted bytes set → held_by given ≡ set
given_set bytes given set same h = ap held_by same ∙ written_is_held bytes set h

-- The file that a mirror writes holds the mirror's set, so another mirror takes this set.
pub written_after : {A : Type 0} (bytes given : List ℕ) (set : VersionSet) (r : Result A Fault) (old new : List MirrorData) (to : ℕ)
    → given ≡ bytes → HoldsSorted bytes set
    → MatchResult r (λ _. new ≡ slice_set old to (after_taking (mirror_at old to) (held_by given))) (λ _. new ≡ old)
    → MatchResult r (λ _. new ≡ slice_set old to (after_taking (mirror_at old to) set)) (λ _. new ≡ old)
written_after bytes given set (Ok done) old new to same h is =
    is ∙ ap (λ (s : VersionSet). slice_set old to (after_taking (mirror_at old to) s)) (given_set bytes given set same h)
written_after bytes given set (Err fault) old new to same h is = is

-- The file that a mirror writes is refused only for Memory or its length.
pub given_not_taken : (bytes given : List ℕ) (format : Format) (set : VersionSet) (fault : Fault) → given ≡ bytes → HoldsSorted bytes set
    → WhyNotTaken given fault → WhyNotSpelled format set fault
given_not_taken bytes given format set fault same h why =
    written_not_taken bytes format set fault h (subst (λ (b : List ℕ). WhyNotTaken b fault) same why)

-- A new mirror that takes the file of the old one takes the old one's set.
pub restarted : (bytes given : List ℕ) (x blank new : MirrorData) → given ≡ bytes → HoldsSorted bytes x.held → blank ≡ new_mirror x.keep
    → new ≡ after_taking blank (held_by given) → new ≡ after_taking (new_mirror x.keep) x.held
restarted bytes given x blank new same h is took_it = took_it ∙ (λ i. after_taking (is i) (given_set bytes given x.held same h i))

-- ---- the files that a mirror writes
pub spelling_holds : (format : Format) (set : VersionSet) (bytes : List ℕ) → AreVersions set → bytes ≡ spell format set
    → length (spell format set) < 2 ^ 62 → HoldsSorted bytes set
spelling_holds format set bytes valid is short = subst (λ (b : List ℕ). HoldsSorted b set) (sym is) (spell_holds format set valid short)

-- the bytes appended to an empty output
pub appended_to_empty : (old new bytes file : List ℕ) → IsAppended (λ held. old ≡ held) (λ held. new ≡ held) bytes → old ≡ [] → file ≡ new
    → file ≡ bytes
appended_to_empty old new bytes file h none is = is ∙ h [] none
