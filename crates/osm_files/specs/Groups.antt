-- The ascending list that the units of a sorted file give, key group by key group: an own rule of this project.
use Rattle.std.proofs.Common.{subst, sym}
use Rattle.std.specs.Prelude.{◌≡◌, refl, ◌⊎◌, ℕ, ◌+◌, Bool, length, true, false, List, [], ◌∷◌, ◌++◌, Option, Some}
use Rattle.std.specs.Prelude.{None, option_map, option_to_list, IfSome, Result, Ok, Err, if◌then◌else◌}
use Rattle.std.specs.Ordering.{is_eq, is_lt}
use Rattle.std.specs.List.{AllByRecursion}
use Rattle.std.specs.declared.cmp.Ordering.TheVariants.{Equal}
use Rattle.osm_model.specs.Data.{VersionData}
use Rattle.osm_model.specs.Order.{key_cmp, version_cmp}
use Rattle.osm_model.specs.Sets.{to_list, from_list}
use Rattle.osm_model.specs.VersionSet.{VersionSet}
use Rattle.osm_model.proofs.SetLaws.{strict-listed}
use Rattle.osm_files.specs.declared.fault.Fault.{Fault}
use Rattle.osm_files.specs.declared.group.Group.{Group}
use Rattle.osm_files.specs.declared.reason.Reason.TheVariants.{Unsorted}
use Rattle.osm_files.specs.Fault.{memory_fault, failed_fault}
use Rattle.osm_files.specs.Input.{InputRest, whole_input as all_of, with_front, Explained}
use Rattle.osm_files.specs.Position.{Position, with_rest, Between, rest_of_units, units_or_failed, units_from}
use Rattle.osm_files.specs.Position.{units_left, with_input}
use Rattle.osm_files.specs.declared.end_rule.EndRule.TheVariants as rule
use Rattle.osm_files.specs.declared.end_rule.EndRule.{EndRule}
use Rattle.osm_files.specs.EndRule.{new_test, cut_if, by_test, lacks_end}
use Rattle.osm_files.specs.Position.{at_start_with}
use Rattle.osm_files.specs.Position.{fault_of, Keeps}
use Rattle.osm_files.specs.Source.{Ascends, SourceStep}
use Rattle.osm_files.specs.Stream.{verdict_at, Placed, SourceRest, end_whole, end_refused}

-- the members of a list, ascending, each once
unfoldable pub to_ascending : List VersionData → List VersionData
to_ascending versions = to_list (from_list {R = version_cmp} versions)

-- does the version have the key of the current group?
abbrev pub is_in_group : List VersionData → VersionData → Bool
is_in_group [] v = true
is_in_group (first ∷ others) v = is_eq (key_cmp first v)

-- does the version have a greater key than the current group, so that it begins the next group?
abbrev pub is_after_group : List VersionData → VersionData → Bool
is_after_group [] v = true
is_after_group (first ∷ others) v = is_lt (key_cmp first v)

-- the versions, and then the rest `still`
abbrev pub versions_then : List VersionData → SourceRest VersionData Fault → SourceRest VersionData Fault
versions_then versions still = record { list = versions ++ still.list; refusal = still.refusal }

-- the rest after the last unit: the current group, or only the refusal if there is one
abbrev pub last_group : Option Fault → List VersionData → SourceRest VersionData Fault
last_group None group = record { list = to_ascending group; refusal = None }
last_group (Some fault) group = end_refused fault

-- The versions that units give after the current group. A version joins the group; or its key is greater, and the group
-- is given, ascending and each version once; or its unit is refused. A refusal drops the current group.
abbrev pub groups : ℕ → Option Fault → List Placed → List VersionData → SourceRest VersionData Fault
groups input close [] group = last_group close group
groups input close (unit ∷ units) group =
    if is_in_group group unit.version then groups input close units (group ++ unit.version ∷ [])
    else
    (if is_after_group group unit.version then versions_then (to_ascending group)
    (groups input close units (unit.version ∷ []))
    else end_refused (fault_of input (verdict_at unit.offset Unsorted)))

-- the versions that a source of these bytes gives, as the input `input`
unfoldable pub sorted_source : ℕ → InputRest → SourceRest VersionData Fault
sorted_source input c = let units = with_input input (units_from None 0 c) in groups input units.refusal units.list []

-- the rest of a source, if the units are known: the versions that are ready, and then those that the units give after
-- the current group
abbrev pub still_with_ready : ℕ → Option (SourceRest Placed Fault) → List VersionData → List VersionData →
    Option (SourceRest VersionData Fault)
still_with_ready input units group ready =
    option_map (λ s. versions_then ready (groups input s.refusal s.list group)) units

-- A source of a sorted file between two calls: the position of its reading, the versions that were read of the next
-- group, and the rest of the group that is given.
pub record FileSourceData (R : Type 0) : Type 0 where
  pub units : Position R
  pub group : List VersionData
  pub ready : List VersionData

abbrev pub source_data : {R : Type 0} → Position R → List VersionData → List VersionData → FileSourceData R
source_data units group ready = record { units = units; group = group; ready = ready }

-- a source of a file that has to end by this rule, before its first byte
abbrev pub ended_source : {R : Type 0} → EndRule → ℕ → R → FileSourceData R
ended_source end input reader = source_data (at_start_with (new_test end) input reader) [] []

-- without a rule for the end
abbrev pub new_source : {R : Type 0} → ℕ → R → FileSourceData R
new_source = ended_source rule.Any

-- the source after these versions of the next group were read, with nothing left of the group before
abbrev pub with_group : {R : Type 0} → FileSourceData R → List VersionData → FileSourceData R
with_group s group = source_data s.units group []

-- the versions that the source of this input still gives, if its reader gives these bytes
abbrev pub still_at : {R : Type 0} → ℕ → FileSourceData R → InputRest → Option (SourceRest VersionData Fault)
still_at input s c = still_with_ready input (units_or_failed (with_rest s.units c)) s.group s.ready

-- one call, over all that its reader can give: a step from the rest before to the rest after
abbrev pub FileSteps : {R : Type 0} → (R → InputRest → Type 0) → FileSourceData R → Result (Option VersionData) Fault →
    FileSourceData R → Type 0
FileSteps can s result t =
    Explained (can s.units.rest) (can t.units.rest)
    (λ earlier later. SourceStep (still_at s.units.input s earlier) result (still_at s.units.input t later))

-- for all that its reader can give, the versions that the source still gives ascend
abbrev pub FileAscends : {R : Type 0} → (R → InputRest → Type 0) → FileSourceData R → Type 0
FileAscends can s = (c : InputRest) → can s.units.rest c → IfSome (still_at s.units.input s c) Ascends

-- the versions that the source still gives ascend, and after a refusal none is ready
abbrev pub IsOpenSource : {R : Type 0} → (R → InputRest → Type 0) → FileSourceData R → Type 0
IsOpenSource can s = FileAscends can s × (s.units.failed ≡ true → s.ready ≡ [])

-- a bound on the number of versions still to come: each unit has at least one byte
abbrev pub versions_left : {R : Type 0} → FileSourceData R → ℕ
versions_left s = units_left s.units + (length s.group + length s.ready)

-- The versions that a source of a sorted file still gives: a set of versions, and its end.
abbrev pub StillSet : Type 0
StillSet = VersionSet × Option Fault

-- the rest of a source with its list as a set
abbrev pub as_set : SourceRest VersionData Fault → StillSet
as_set still = (from_list {R = version_cmp} still.list, still.refusal)

-- the members of the set one by one, ascending
abbrev pub as_list : StillSet → SourceRest VersionData Fault
as_list (versions, refusal) = record { list = to_list versions; refusal = refusal }

-- the rest of a source as a list, if it is known
abbrev pub still_given : Option StillSet → Option (SourceRest VersionData Fault)
still_given = option_map as_list

pub given_ascends : (known : Option StillSet) → IfSome (still_given known) Ascends
given_ascends None = tt
given_ascends (Some (versions, refusal)) = strict-listed versions

-- the versions that the source still gives, as the list of a set
abbrev pub given_at : {R : Type 0} → FileSourceData R → InputRest → Option (SourceRest VersionData Fault)
given_at s c = still_given (option_map as_set (still_at s.units.input s c))

-- a source can give the versions that its reader makes possible
abbrev pub FileCanGive : {R : Type 0} → (R → InputRest → Type 0) → FileSourceData R → SourceRest VersionData Fault →
    Type 0
FileCanGive can s still = (c : InputRest) × can s.units.rest c × (given_at s c ≡ Some still)

known_ascends : (known : Option StillSet) (still : SourceRest VersionData Fault) → still_given known ≡ Some still →
    Ascends still
known_ascends known still e = let P : Option (SourceRest VersionData Fault) → Type 0 = λ o. IfSome o Ascends in
    subst P e (given_ascends known)

pub file_ascends : {R : Type 0} (can : R → InputRest → Type 0) (s : FileSourceData R)
    (still : SourceRest VersionData Fault) →
    FileCanGive can s still → Ascends still
file_ascends can s still h = known_ascends (option_map as_set (still_at s.units.input s h.0)) still h.2

-- the option has a value: the rest is known, once it is known what the reader gives
abbrev pub IsKnown : {A : Type 0} → Option A → Type 0
IsKnown None = ⊥
IsKnown (Some x) = Unit {0}

still_known : {R : Type 0} (p : Position R) (c : InputRest) → IsKnown (units_or_failed (with_rest p c))
still_known p c =
    elim p.failed as (λ t. IsKnown (if t then Some (end_refused (failed_fault p.input))
    else rest_of_units (with_rest p c))) [
      | true ↦ tt
      | false ↦ (elim p.ended as (λ t. IsKnown
          (option_map (λ x. with_input p.input (units_from p.stage p.offset x))
          (if t then Some (cut_if (lacks_end p.end) (all_of p.held))
          else Some (with_front p.held (by_test p.end c))))) [
            | true ↦ tt
            | false ↦ tt
          ])
    ]

given_known : (input : ℕ) (units : Option (SourceRest Placed Fault)) (group ready : List VersionData) → IsKnown units →
    IsKnown (still_given (option_map as_set (still_with_ready input units group ready)))
given_known input None group ready h = h
given_known input (Some s) group ready h = tt

-- the rest, if it is known, else the end
abbrev pub known_or_whole : Option (SourceRest VersionData Fault) → SourceRest VersionData Fault
known_or_whole None = end_whole
known_or_whole (Some still) = still

known_is : (o : Option (SourceRest VersionData Fault)) → IsKnown o → o ≡ Some (known_or_whole o)
known_is None h = absurd h
known_is (Some still) h = refl

pub one_given : {R : Type 0} (s : FileSourceData R) (c : InputRest) →
    given_at s c ≡ Some (known_or_whole (given_at s c))
one_given s c = known_is (given_at s c) (given_known s.units.input
    (units_or_failed (with_rest s.units c)) s.group s.ready
    (still_known s.units c))

-- a set is given whole, its members one by one, ascending
abbrev pub set_given : VersionSet → SourceRest VersionData Fault
set_given versions = record { list = to_list versions; refusal = None }

pub set_ascends : (versions : VersionSet) → Ascends (set_given versions)
set_ascends versions = strict-listed versions

pub given_set_ascends : (versions : VersionSet) (still : SourceRest VersionData Fault) → still ≡ set_given versions →
    Ascends still
given_set_ascends versions still is = subst Ascends (sym is) (set_ascends versions)

-- each version has the key of the first
abbrev pub IsGroup : VersionData → List VersionData → Type 0
IsGroup first others = AllByRecursion (λ v. key_cmp first v ≡ Equal) others

-- the versions of a group, as far as they were read
abbrev pub list_of : Group → List VersionData
list_of group = group.first ∷ group.others.items

-- The rest of a group was read, after the versions that had begun it, and the version after it, which has a greater
-- key, or there is none.
pub record Gathers (input : ℕ) (before : Option (SourceRest Placed Fault)) (has_begun : List VersionData)
    (after : Option (SourceRest Placed Fault)) (first : VersionData) (others : List VersionData)
    (next : Option VersionData) : Type 0 where
  pub keeps : Keeps (still_with_ready input before (first ∷ has_begun) [])
      (still_with_ready input after (option_to_list next) (to_ascending (first ∷ others)))
  pub group : IsGroup first others
  pub above : IfSome next (λ v. is_after_group (first ∷ others) v ≡ true)
  pub end : (next ≡ None) → after ≡ Some end_whole

-- the fault of a refused group: out of memory, or the refusal of the rest; after it every call is refused
abbrev pub RefusesGroup : Option (SourceRest VersionData Fault) → Fault → Option (SourceRest Placed Fault) → Type 0
RefusesGroup before fault after =
    ((fault ≡ memory_fault) ⊎ IfSome before (λ s. s ≡ end_refused fault))
    × ((input : ℕ) × (after ≡ Some (end_refused (failed_fault input))))

-- the version that a group begins with: the one that was pending, or the next one; none at the end; or a refusal
abbrev pub BeginsGroup : ℕ → Option (SourceRest Placed Fault) → List VersionData → Result (Option VersionData) Fault →
    Option (SourceRest Placed Fault) → Type 0
BeginsGroup input before pending (Ok (Some first)) after =
    Keeps (still_with_ready input before pending []) (still_with_ready input after (first ∷ []) [])
BeginsGroup input before pending (Ok None) after =
    SourceStep (still_with_ready input before pending []) (let r : Result (Option VersionData) Fault = Ok None in r)
    (still_with_ready input after [] [])
BeginsGroup input before pending (Err fault) after = RefusesGroup (still_with_ready input before pending []) fault after

-- the three relations above, over all that the reader can give
module _ {R : Type 0} (can : R → InputRest → Type 0) (p : Position R) where
  abbrev pub BeginsOn : List VersionData → Result (Option VersionData) Fault → Position R → Type 0
  BeginsOn pending result q = Between can p q
      (λ a b. BeginsGroup p.input (units_or_failed a) pending result (units_or_failed b))

  abbrev pub GathersOn : Group → Position R → Group → Option VersionData → Type 0
  GathersOn has_begun q group next = Between can p q
      (λ a b. Gathers p.input (units_or_failed a) has_begun.others.items
      (units_or_failed b) has_begun.first group.others.items next)

  abbrev pub RefusesOn : List VersionData → Fault → Position R → Type 0
  RefusesOn group fault q = Between can p q (λ a b.
      RefusesGroup (still_with_ready p.input (units_or_failed a) group []) fault (units_or_failed b))
