-- The pass over an ascending list: each version is decided once the one after it is known.
use Rattle.std.specs.Prelude.{ℕ, Bool, true, false, ◌&&◌, List, [], ◌∷◌, ◌++◌, if◌then◌else◌, nat_lt, Option, Some}
use Rattle.std.specs.Prelude.{None, is_none, option_map, option_to_list}
use Rattle.std.specs.Ordering.{is_eq, is_lt}
use Rattle.std.specs.List.{filter}
use Rattle.osm_model.specs.Data.{VersionData}
use Rattle.osm_model.specs.Order.{object_cmp, version_cmp}
use Rattle.osm_merge.specs.declared.selection.Selection.{Selection}
use Rattle.osm_merge.specs.declared.selection.Selection.TheVariants.{All, Visible, Newest, NewestVisible, State}
use Rattle.osm_merge.specs.declared.selection.Selection.TheVariants.{StateVisible, Between}
use Rattle.osm_merge.specs.Members.{first}
use Rattle.osm_merge.specs.Selected.{moment, is_visible, is_by, lasts}

-- whether a version passes; a version that doesn't pass is treated as if the history didn't have it
abbrev pub passes : Selection → VersionData → Bool
passes All v = true
passes Visible v = is_visible v
passes Newest v = true
passes NewestVisible v = true
passes (State t) v = is_by t v
passes (StateVisible t) v = is_by t v
passes (Between from to) v = true

-- whether all versions pass
abbrev pub passes_all : Selection → Bool
passes_all All = true
passes_all Visible = false
passes_all Newest = true
passes_all NewestVisible = true
passes_all (State t) = false
passes_all (StateVisible t) = false
passes_all (Between from to) = true

-- the versions of a list that pass
abbrev pub passing_versions : Selection → List VersionData → List VersionData
passing_versions All vs = vs
passing_versions Visible vs = filter is_visible vs
passing_versions Newest vs = vs
passing_versions NewestVisible vs = vs
passing_versions (State t) vs = filter (is_by t) vs
passing_versions (StateVisible t) vs = filter (is_by t) vs
passing_versions (Between from to) vs = vs

-- whether a version stays, if the next version of its object has the time `end`; `None` if there is no next one
abbrev pub stays : Selection → VersionData → Option ℕ → Bool
stays All v end = true
stays Visible v end = true
stays Newest v end = is_none end
stays NewestVisible v end = is_none end && is_visible v
stays (State t) v end = is_none end
stays (StateVisible t) v end = is_none end && is_visible v
stays (Between from to) v end = nat_lt (moment v) to && lasts from (moment v) end

-- the version after `v` in the list, if it is of the same object
abbrev pub of_object : {K : Type 0} → (K → K → Bool) → K → Option K → Option K
of_object near v None = None
of_object near v (Some w) = if near v w then Some w else None

-- whether two versions are of one object
abbrev pub same_object : VersionData → VersionData → Bool
same_object v w = is_eq (object_cmp v w)

-- whether a version stays, if `later` comes after it in the list; `None` if it is the last one
abbrev pub keeps : Selection → VersionData → Option VersionData → Bool
keeps selection v later = stays selection v (option_map moment (of_object same_object v later))

-- a version, if it stays
abbrev pub singleton_if : {K : Type 0} → Bool → K → List K
singleton_if stays v = if stays then v ∷ [] else []

module _ {K : Type 0} (keeps : K → Option K → Bool) where
  -- the versions of a whole list that stay
  abbrev pub versions_that_stay : List K → List K
  versions_that_stay [] = []
  versions_that_stay (v ∷ vs) = singleton_if (keeps v (first vs)) v ++ versions_that_stay vs

  -- a version is decided once another one comes after it
  abbrev pub decided_versions : K → Option K → List K
  decided_versions v None = []
  decided_versions v (Some w) = singleton_if (keeps v (Some w)) v

  -- the versions that are known to stay of a list that may continue
  abbrev pub settled_versions : List K → List K
  settled_versions [] = []
  settled_versions (v ∷ vs) = decided_versions v (first vs) ++ settled_versions vs

-- if all versions are selected, each is put at once; else once it is decided
abbrev pub puts_at_once : Selection → Bool
puts_at_once All = true
puts_at_once Visible = false
puts_at_once Newest = false
puts_at_once NewestVisible = false
puts_at_once (State t) = false
puts_at_once (StateVisible t) = false
puts_at_once (Between from to) = false

-- the versions that are put once the versions `met` were met
abbrev pub put_of : Selection → List VersionData → List VersionData
put_of selection met = if puts_at_once selection then met else settled_versions (keeps selection) met

-- the pending version, if it stays when `later` comes after it
abbrev pub pending_if_kept : Selection → Option VersionData → Option VersionData → List VersionData
pending_if_kept selection None later = []
pending_if_kept selection (Some pending) later = singleton_if (keeps selection pending later) pending

-- the versions put when `v` is met after the pending version
abbrev pub put_at : Selection → Option VersionData → VersionData → List VersionData
put_at selection pending v = if puts_at_once selection then (v ∷ []) else pending_if_kept selection pending (Some v)

-- the versions put at the end of all versions
abbrev pub put_at_end : Selection → Option VersionData → List VersionData
put_at_end selection pending = if puts_at_once selection then [] else pending_if_kept selection pending None

-- the versions put once `next` is known to come after the pending version; `None` is the end of all versions
abbrev pub put_with : Selection → Option VersionData → Option VersionData → List VersionData
put_with selection pending next = if puts_at_once selection then option_to_list next
    else pending_if_kept selection pending next

-- a version is new if it is greater than the pending one
abbrev pub is_new : Option VersionData → VersionData → Bool
is_new None v = true
is_new (Some pending) v = is_lt (version_cmp pending v)

-- a version is met if it is new and passes
abbrev pub is_met : Selection → Option VersionData → VersionData → Bool
is_met selection pending v = is_new pending v && passes selection v

-- the pending version after `v` was taken
abbrev pub pending_next : Selection → Option VersionData → VersionData → Option VersionData
pending_next selection pending v = if is_met selection pending v then Some v else pending

-- the versions met after `v` was taken
abbrev pub met_next : Selection → Option VersionData → VersionData → List VersionData → List VersionData
met_next selection pending v met = if is_met selection pending v then (met ++ v ∷ []) else met

-- the versions put when `v` was taken
abbrev pub versions_put : Selection → Option VersionData → VersionData → List VersionData
versions_put selection pending v = if is_met selection pending v then put_at selection pending v else []
