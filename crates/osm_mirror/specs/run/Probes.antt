-- The search for the objects that bound shards, in files whose bytes are known: an own rule of this project.
use Rattle.std.specs.Prelude.{◌≡◌, ℕ, Bool, true, List, ◌++◌, length, Option, Some, None, IfSome}
use Rattle.std.specs.Prelude.{sum_by}
use Rattle.std.specs.Ordering.{is_lt}
use Rattle.std.specs.List.Sorted.{IsSortedBy}
use Rattle.osm_model.specs.declared.object.Object.{Object}
use Rattle.osm_model.specs.Pairwise.{Pairwise}
use Rattle.osm_model.specs.Order.{object_order}
use Rattle.osm_mirror.specs.declared.run.bounds.Found.{Found}
use Rattle.osm_mirror.specs.run.Bounds.{opl_size, probe_count, found_by, found_in, found_in_all}

-- the files have these bytes, one for one
abbrev pub HaveBytes : {F : Type 0} → (F → Option (List ℕ)) → List F → List (List ℕ) → Type 0
HaveBytes known files all = Pairwise (λ file bytes. known file ≡ Some bytes) files all

-- the objects ascend
abbrev pub Ascend : List Found → Type 0
Ascend found = IsSortedBy (λ x y. is_lt (object_order x.object y.object)) found

-- the size of the OPL files among these files
abbrev pub IsTotal : {F : Type 0} → (F → Option (List ℕ)) → List F → ℕ → Type 0
IsTotal known files total = (all : List (List ℕ)) → HaveBytes known files all → total ≡ sum_by opl_size all

-- the objects that are found in the lines of a file of this size were appended
abbrev pub FindsBy : Option (List ℕ) → ℕ → ℕ → List Found → List Found → Type 0
FindsBy known size step before after = IfSome known (λ all. size ≡ length all
    → after ≡ before ++ found_by step all (probe_count step size))

-- the objects that are found in a file were appended
abbrev pub FindsIn : Option (List ℕ) → ℕ → List Found → List Found → Type 0
FindsIn known step before after = IfSome known (λ all. after ≡ before ++ found_in step all)

-- these are the objects that are found in files
abbrev pub FindsInAll : {F : Type 0} → (F → Option (List ℕ)) → ℕ → List F → List Found → Type 0
FindsInAll known step files found = (all : List (List ℕ)) → HaveBytes known files all → found ≡ found_in_all step all

-- is the object above the last one, or is there no last one?
abbrev pub is_above : Object → Option Object → Bool
is_above object None = true
is_above object (Some last) = is_lt (object_order last object)
