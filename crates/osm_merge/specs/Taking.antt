-- Two lists that ascend by an order, merged.
use Rattle.std.specs.Prelude.{◌≡◌, ℕ, ◌≤◌, Bool, false, List, [], ◌∷◌, length, if◌then◌else◌}
use Rattle.std.specs.List.Sorted.{IsPartitionPoint}
use Rattle.std.specs.Ordering.{is_eq, is_lt}
use Rattle.std.specs.declared.cmp.Ordering.{Ordering}
use Rattle.std.specs.declared.cmp.Ordering.TheVariants.{Less, Equal, Greater}
use Rattle.osm_model.specs.Data.{VersionData}
use Rattle.osm_model.specs.Order.{object_cmp, version_cmp}
use Rattle.osm_model.specs.Sets.{union}
use Rattle.osm_model.specs.VersionSet.{VersionSet}
use Rattle.osm_merge.specs.Selected.{snapshot}
use Rattle.osm_merge.specs.declared.taking.OrderBy.{OrderBy}
use Rattle.osm_merge.specs.declared.taking.OrderBy.TheVariants.{Versions, Objects}

-- the order of versions
abbrev pub order_of : OrderBy → VersionData → VersionData → Ordering
order_of Versions = version_cmp
order_of Objects = object_cmp

-- a history after it took another one in: the union or, by objects, the newest version of each object
abbrev pub union_by : OrderBy → VersionSet → VersionSet → VersionSet
union_by Versions s t = union s t
union_by Objects s t = snapshot (union s t)

-- the greater of two versions
abbrev pub greater_of : VersionData → VersionData → VersionData
greater_of v w = if is_lt (version_cmp v w) then w else v

module _ (R : VersionData → VersionData → Ordering) where
  -- the first `count` versions of a list are below `v`, and none of the others is
  abbrev pub IsCountBelow : VersionData → List VersionData → ℕ → Type 0
  IsCountBelow v xs count = (count ≤ length xs)
      × IsPartitionPoint (λ x. R x v ≡ Less) (λ x. is_lt (R x v) ≡ false) xs count

  -- the first version of a list ties with `v`
  abbrev pub is_tied : VersionData → List VersionData → Bool
  is_tied v [] = false
  is_tied v (x ∷ xs) = is_eq (R x v)

  -- the list, without its first version if that ties with `v`
  abbrev pub rest_after_tie : VersionData → List VersionData → List VersionData
  rest_after_tie v [] = []
  rest_after_tie v (x ∷ xs) = if is_eq (R x v) then xs else (x ∷ xs)

  -- `v`, or the greater of `v` and the first version of the list if the two tie
  abbrev pub greater_tied : VersionData → List VersionData → VersionData
  greater_tied v [] = v
  greater_tied v (x ∷ xs) = if is_eq (R x v) then greater_of x v else v

  -- the merge of a left list with a right list: `x` is the first member of the left list, and `rest` merges the other
  -- members of the left list with a list
  abbrev pub merge_by_from : VersionData → (List VersionData → List VersionData) → List VersionData → List VersionData
  merge_by_from x rest [] = x ∷ rest []
  merge_by_from x rest (y ∷ ys) =
      elim (R x y) as (λ _. List VersionData) [
        | Less ↦ x ∷ rest (y ∷ ys)
        | Equal ↦ greater_of x y ∷ rest ys
        | Greater ↦ y
            ∷ merge_by_from x rest ys
      ]

  -- the merge of two ascending lists: it takes the lesser of the two first members, and the greater version of two that
  -- tie
  abbrev pub merge_by : List VersionData → List VersionData → List VersionData
  merge_by [] = λ ys. ys
  merge_by (x ∷ xs) = merge_by_from x (merge_by xs)
