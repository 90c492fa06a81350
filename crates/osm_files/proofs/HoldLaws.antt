-- The versions of a source of a whole file: its refusal is the file's verdict, and without one the list is that of the
-- set held.
use Rattle.std.proofs.Common.{◌≡◌, ℕ, ◌+◌, ◌-◌, ◌≤◌, ◌^◌, false, ◌||◌, cond, List, [], ◌∷◌, ◌++◌, length, take, refl, ap}
use Rattle.std.proofs.Common.{sym, ◌∙◌, subst, arith, Option, Some, None, option_map, append_assoc, nat_lt}
use Rattle.std.proofs.lemmas.Bool.Decides.{nat_tests}
use Rattle.std.proofs.lemmas.List.{append-nil}
use Rattle.std.proofs.lemmas.List.Folds.{list_any-append}
use Rattle.std.specs.declared.cmp.Ordering.TheVariants.{Less, Equal, Greater}
use Rattle.std.specs.Cmp.{tied_itself}
use Rattle.std.specs.Ordering.{eq_by_cmp, is_lt, ordering_reverse}
use Rattle.std.specs.List.Sorted.{IsSorted, IsStrictlySortedBy}
use Rattle.osm_model.specs.Data.{VersionData}
use Rattle.osm_model.specs.Order.{key_cmp, key_cmp_total, version_cmp, version_cmp_total}
use Rattle.osm_model.specs.Sets.{to_list, from_list}
use Rattle.osm_model.specs.VersionSet.{VersionSet}
use Rattle.osm_model.proofs.SetLaws.{to_list-from_list, same_set, contains-from_list, contains-listed}
use Rattle.osm_model.proofs.VersionLaws.{version_cmp-IsAntisymmetric}
use Rattle.osm_files.specs.declared.fault.Fault.{Fault}
use Rattle.osm_files.specs.declared.reason.Reason.{Reason}
use Rattle.osm_files.specs.declared.reason.Reason.TheVariants.{Unsorted}
use Rattle.osm_files.specs.Groups.{to_ascending, last_group, groups, sorted_source}
use Rattle.osm_files.specs.Held.{IsFile, HoldsSorted}
use Rattle.osm_files.specs.Input.{InputRest, whole_input as all_of, failed_after}
use Rattle.osm_files.specs.Position.{units_from, fault_of}
use Rattle.osm_files.specs.Stream.{Verdict, verdict_at, Placed, SourceRest, end_whole}
use Rattle.osm_files.specs.Units.{units, start_of}
use Rattle.osm_files.specs.Verdict.{length_limit, too_long_verdict, file_units, versions_of, is_below, sorted_verdict, verdict_sorted}
use Rattle.osm_files.specs.SourceLaws.{SourceGivesHeld, WholeSourceIsHeld, FailedSourceEnds, LongSourceEnds}
use Rattle.osm_files.proofs.FileLaws.{files_are_read, sorted_files_are_read, accepted_without_verdict, sorted_without_verdict}
use Rattle.osm_files.proofs.GroupLaws.{has, has_ascending}
use Rattle.osm_files.proofs.LoadLaws.{whole_units, unnamed}
use Rattle.osm_files.proofs.RiseLaws.{groups_rise, source_is}
use Rattle.osm_files.proofs.LoadFaults.{failed_units}

-- ---- the refusal
-- a key against that of the version before it, which has the key of its group
pub below_first : (first before v : VersionData) → key_cmp first before ≡ Equal →
    is_below v (Some before) ≡ is_lt (ordering_reverse (key_cmp first v))
below_first first before v same = let o = key_cmp_total in
    ap is_lt (o.antisymm v before ∙ ap ordering_reverse (sym (o.congr first before v same)))

module _ (input : ℕ) where
  abbrev as_fault : Option Verdict → Option Fault
  as_fault = option_map (fault_of input)

  last_refusal : (close : Option Verdict) (group : List VersionData) → (last_group (as_fault close) group).refusal ≡ as_fault close
  last_refusal None group = refl
  last_refusal (Some v) group = refl

  group_refusal : (close : Option Verdict) (us : List Placed) (first : VersionData) (others : List VersionData) (before : VersionData) →
      key_cmp first before ≡ Equal
      → (groups input (as_fault close) us (first ∷ others)).refusal ≡ as_fault (sorted_verdict close (Some before) us)
  group_refusal close [] first others before same = last_refusal close (first ∷ others)
  group_refusal close (u ∷ us) first others before same =
      elim (key_cmp first u.version) as (λ o. key_cmp first u.version ≡ o →
      (groups input (as_fault close) (u ∷ us) (first ∷ others)).refusal ≡ as_fault (sorted_verdict close (Some before) (u ∷ us))) [
        | Less ↦ λ e. rw (below_first first before u.version same, e)
            (group_refusal close us u.version [] u.version (tied_itself key_cmp_total u.version))
        | Equal ↦ λ e. rw (below_first first before u.version same, e) (group_refusal close us first (others ++ u.version ∷ []) u.version e)
        | Greater ↦ λ e. rw (below_first first before u.version same, e) refl
      ] refl

  pub groups_refusal : (close : Option Verdict) (us : List Placed) →
      (groups input (as_fault close) us []).refusal ≡ as_fault (sorted_verdict close None us)
  groups_refusal close [] = last_refusal close []
  groups_refusal close (u ∷ us) = group_refusal close us u.version [] u.version (tied_itself key_cmp_total u.version)

  -- the verdict of the units that a reading of these bytes gives
  pub source_refusal : (c : InputRest) → (sorted_source input c).refusal
      ≡ as_fault (let us = units_from None 0 c in sorted_verdict us.refusal None us.list)
  source_refusal c = ap (λ s. s.refusal) (source_is input c) ∙ (let us = units_from None 0 c in groups_refusal us.refusal us.list)

-- The refusal of a whole file's source is the file's verdict on order.
pub whole_refusal : (input : ℕ) (bytes : List ℕ) →
    (sorted_source input (all_of bytes)).refusal ≡ option_map (fault_of input) (verdict_sorted bytes)
whole_refusal input bytes =
    source_refusal input (all_of bytes) ∙ ap (λ (s : SourceRest Placed Verdict).
    option_map (fault_of input) (sorted_verdict s.refusal None s.list)) (whole_units bytes)

-- ---- the list
-- a list that ascends, and has the members of another
pub members_are : (versions others : List VersionData) → IsStrictlySortedBy version_cmp versions →
    ((v : VersionData) → has v versions ≡ has v others) → versions ≡ to_list (from_list {R = version_cmp} others)
members_are versions others up same =
    sym (to_list-from_list version_cmp_total version_cmp-IsAntisymmetric versions up)
    ∙ ap to_list (same_set version_cmp_total version_cmp-IsAntisymmetric (from_list versions) (from_list others)
    (λ v. contains-from_list version_cmp_total versions v ∙ same v ∙ sym (contains-from_list version_cmp_total others v)))

module _ (input : ℕ) (v : VersionData) where
  group_members : (us : List Placed) (first : VersionData) (others : List VersionData) →
      (groups input None us (first ∷ others)).refusal ≡ None →
      has v (groups input None us (first ∷ others)).list ≡ has v ((first ∷ others) ++ versions_of us)
  group_members [] first others none = has_ascending v (first ∷ others) ∙ ap (has v) (sym (append-nil (first ∷ others)))
  group_members (u ∷ us) first others none =
      elim (key_cmp first u.version) as (λ o. key_cmp first u.version ≡ o → (groups input None (u ∷ us) (first ∷ others)).refusal ≡ None →
      has v (groups input None (u ∷ us) (first ∷ others)).list ≡ has v ((first ∷ others) ++ versions_of (u ∷ us))) [
        | Less ↦ λ e. rw e (λ n.
            list_any-append (eq_by_cmp version_cmp v) (to_ascending (first ∷ others)) (groups input None us (u.version ∷ [])).list
            ∙ (λ i. has_ascending v (first ∷ others) i || group_members us u.version [] n i)
            ∙ sym (list_any-append (eq_by_cmp version_cmp v) (first ∷ others) (u.version ∷ versions_of us)))
        | Equal ↦ λ e. rw e (λ n. group_members us first (others ++ u.version ∷ []) n
            ∙ ap (λ vs. has v (first ∷ vs)) (append_assoc others (u.version ∷ []) (versions_of us)))
        | Greater ↦ λ e. rw e (λ n. absurd (let f : Some (fault_of input (verdict_at u.offset Unsorted)) ≡ None = n in cc))
      ] refl none

  groups_members : (us : List Placed) → (groups input None us []).refusal ≡ None →
      has v (groups input None us []).list ≡ has v (versions_of us)
  groups_members [] none = has_ascending v []
  groups_members (u ∷ us) none = group_members us u.version [] none

groups_listed : (input : ℕ) (close : Option Fault) (us : List Placed) → close ≡ None → (groups input close us []).refusal ≡ None →
    (groups input close us []).list ≡ to_list (from_list {R = version_cmp} (versions_of us))
groups_listed input (Some fault) us closed none = absurd (let f : Some fault ≡ None = closed in cc)
groups_listed input None us closed none = members_are (groups input None us []).list (versions_of us) (groups_rise input None us)
    (λ v. groups_members input v us none)

-- the set of the list of a set is the set
pub set_listed : (s : VersionSet) → from_list {R = version_cmp} (to_list s) ≡ s
set_listed s = same_set version_cmp_total version_cmp-IsAntisymmetric (from_list (to_list s)) s
    (λ v. contains-from_list version_cmp_total (to_list s) v ∙ sym (contains-listed {R = version_cmp} s v))

-- the source of a file by its units
pub source_whole : (input : ℕ) (bytes : List ℕ) → sorted_source input (all_of bytes)
    ≡ (let us = file_units bytes in groups input (option_map (fault_of input) us.refusal) us.list [])
source_whole input bytes =
    source_is input (all_of bytes) ∙ ap (λ (s : SourceRest Placed Verdict). groups input (option_map (fault_of input) s.refusal) s.list [])
    (whole_units bytes)

source_listed : (input : ℕ) (bytes : List ℕ) → verdict_sorted bytes ≡ None →
    (sorted_source input (all_of bytes)).list ≡ to_list (from_list {R = version_cmp} (versions_of (file_units bytes).list))
source_listed input bytes none =
    let us = file_units bytes in
    let accepted = sorted_without_verdict bytes none in
    let end_whole : (groups input (option_map (fault_of input) us.refusal) us.list []).refusal ≡ None =
    groups_refusal input us.refusal us.list
    ∙ ap (option_map (fault_of input)) none in
    ap (λ s. s.list) (source_whole input bytes) ∙ groups_listed input (option_map (fault_of input) us.refusal) us.list
    (ap (option_map (fault_of input)) accepted.0) end_whole

-- The source of a sorted file gives the set that the file holds.
pub source_gives_held : SourceGivesHeld
source_gives_held input bytes held h =
    let none = sorted_files_are_read bytes h.versions h.short h.file h.sorted in
    let read = files_are_read bytes h.versions h.short h.file in
    let list : (sorted_source input (all_of bytes)).list ≡ to_list held = source_listed input bytes none
    ∙ ap (λ vs. to_list (from_list {R = version_cmp} vs)) read.1 ∙ ap to_list (sym h.members) in
    let refusal : (sorted_source input (all_of bytes)).refusal ≡ None = whole_refusal input bytes ∙ ap (option_map (fault_of input)) none in
    (λ i. record { list = list i; refusal = refusal i })

-- the versions read are those that a sorted file holds
sorted_file : (bytes : List ℕ) (versions : List VersionData) → verdict_sorted bytes ≡ None →
    versions ≡ versions_of (file_units bytes).list → HoldsSorted bytes (from_list {R = version_cmp} versions)
sorted_file bytes versions none is =
    let sorted = sorted_without_verdict bytes none in
    let accepted = accepted_without_verdict bytes sorted.0 in
    record {
      short = accepted.0;
      versions = versions;
      file = subst (IsFile bytes) (sym is) accepted.1;
      sorted = subst (IsSorted key_cmp) (sym is) sorted.1;
      members = refl;
    }

-- If the source of some bytes ends without a refusal, they are a sorted file that holds the versions that the source gives.
pub whole_source_is_held : WholeSourceIsHeld
whole_source_is_held input bytes end_whole =
    let none = unnamed input (verdict_sorted bytes) (sym (whole_refusal input bytes) ∙ end_whole) in
    let us = file_units bytes in
    let same : from_list {R = version_cmp} (versions_of us.list) ≡ from_list (sorted_source input (all_of bytes)).list =
    sym (set_listed (from_list (versions_of us.list)))
    ∙ ap (λ vs. from_list {R = version_cmp} vs) (sym (source_listed input bytes none)) in
    subst (HoldsSorted bytes) same (sorted_file bytes (versions_of us.list) none refl)

-- ---- bytes that are refused at their end
-- Their source ends with the verdict of its whole units, or with the refusal of the end.
pub failed_source_ends : FailedSourceEnds
failed_source_ends reason input bytes short =
    source_refusal input (failed_after reason bytes) ∙ ap (λ (s : SourceRest Placed Verdict).
    option_map (fault_of input) (sorted_verdict s.refusal None s.list)) (failed_units reason bytes short)

long_units : (bytes : List ℕ) (failure : Option Reason) → 2 ^ 62 ≤ length bytes →
    units_from None 0 (record { bytes = bytes; failure = failure }) ≡ units (Some too_long_verdict) (start_of bytes) 0
    (take (2 ^ 62 - 1 - 0) bytes)
unfolding units_from length_limit
long_units bytes failure many =
    let above : nat_lt (0 + length bytes) (2 ^ 62) ≡ false = grind (arith, nat_tests) in
    ap (λ t. units (cond t (option_map (verdict_at (0 + length bytes)) failure) (Some too_long_verdict)) (start_of bytes) 0
    (cond t bytes (take (2 ^ 62 - 1 - 0) bytes))) above

-- A source of 2^62 bytes or more gives the same, whatever follows them.
pub long_source_ends : LongSourceEnds
long_source_ends reason input bytes many =
    source_is input (failed_after reason bytes)
    ∙ ap (λ (s : SourceRest Placed Verdict). groups input (option_map (fault_of input) s.refusal) s.list [])
    (long_units bytes (Some reason) many ∙ sym (long_units bytes None many))
    ∙ sym (source_is input (all_of bytes))
