-- The finished and the remaining work of a merge.
use Rattle.std.proofs.Common.{◌≡◌, ℕ, ◌+◌, true, false, ◌||◌, ◌&&◌, IfSome, List, [], ◌∷◌, ◌++◌, length, Option, Some, None}
use Rattle.std.specs.List.{AllByRecursion}
use Rattle.std.specs.List.Sorted.{IsStrictlySortedBy}
use Rattle.std.specs.Ordering.{is_gt}
use Rattle.osm_model.specs.Data.{VersionData}
use Rattle.osm_model.specs.Order.{version_cmp}
use Rattle.osm_merge.specs.declared.selection.Selection.{Selection}
use Rattle.osm_merge.specs.Pass.{passes}
use Rattle.osm_merge.specs.ToCome.{VersionsToCome, rest_at}
use Rattle.osm_merge.specs.Union.{versions_of}
use Rattle.osm_merge.proofs.AscendingLaws.{among}

-- the versions met end with the pending one, if there is one
abbrev pub Ends : Option VersionData → List VersionData → Type 0
Ends None met = met ≡ []
Ends (Some pending) met = (front : List VersionData) × (met ≡ front ++ pending ∷ [])

-- a version, if there is one, is not greater than any of some versions
abbrev pub Floor : Option VersionData → List VersionData → Type 0
Floor None versions = Unit {0}
Floor (Some low) versions = AllByRecursion (λ v. is_gt (version_cmp low v) ≡ false) versions

-- the pending version is not greater than the one taken last
abbrev pub IsUnder : Option VersionData → Option VersionData → Type 0
IsUnder None top = Unit {0}
IsUnder (Some pending) None = ⊥
IsUnder (Some pending) (Some top) = is_gt (version_cmp pending top) ≡ false

-- `taken` versions of the sources were taken, the greatest one last. Those that pass were met, each once, and the last
-- of them is pending. `states` are the rests that are still to come, including the heads.
pub record IsMerging (selection : Selection) (all states : List VersionsToCome) (met : List VersionData) (pending top : Option VersionData)
    (taken : ℕ) : Type 0 where
  pub size : length states ≡ length all
  pub ascends : IsStrictlySortedBy version_cmp met
  pub queues : (i : ℕ) → IsStrictlySortedBy version_cmp (rest_at states i).list
  pub came : (i : ℕ) → (gone : List VersionData) × ((rest_at all i).list ≡ gone ++ (rest_at states i).list)
  pub refusals : (i : ℕ) → (rest_at all i).refusal ≡ (rest_at states i).refusal
  pub same : (q : VersionData) → (among q (versions_of all) && passes selection q)
      ≡ (among q met || (among q (versions_of states) && passes selection q))
  pub ends : Ends pending met
  pub floor : (i : ℕ) → Floor top (rest_at states i).list
  pub under : IsUnder pending top
  pub reached : IfSome top (λ t. passes selection t ≡ true → pending ≡ Some t)
  pub count : taken + length (versions_of states) ≡ length (versions_of all)
