-- Laws of slices: shards of a merge, written in sequence, are the output of the whole merge.
use Rattle.std.specs.Prelude.{◌≡◌, true, List, map, Option}
use Rattle.std.specs.List as list
use Rattle.std.specs.List.{concat}
use Rattle.std.specs.List.Sorted.{IsSorted}
use Rattle.osm_model.specs.declared.object.Object.{Object}
use Rattle.osm_model.specs.Pairwise.{Pairwise}
use Rattle.osm_model.specs.VersionSet.{VersionSet}
use Rattle.osm_model.specs.Order.{object_order}
use Rattle.osm_files.specs.declared.format.Format.TheVariants.{Opl}
use Rattle.osm_files.specs.Spell.{spell}
use Rattle.osm_merge.specs.declared.selection.Selection.{Selection}
use Rattle.osm_merge.specs.Members.{union_all}
use Rattle.osm_merge.specs.Selected.{selection_of}
use Rattle.osm_merge.specs.Slice.{slice_of, spans, slices, IsWithin, is_ascending}

-- the lines of a set are those of its slices, in sequence
abbrev pub LinesOfSlices : Type 0
LinesOfSlices = (bounds : List Object) (s : VersionSet) → IsSorted object_order bounds →
    spell Opl s ≡ concat (map (spell Opl) (slices bounds s))

-- the selection of a slice is the slice of the selection
abbrev pub SelectedOfSlice : Type 0
SelectedOfSlice = (selection : Selection) (from to : Option Object) (s : VersionSet) →
    selection_of selection (slice_of from to s) ≡ slice_of from to (selection_of selection s)

-- the slice of a union is the union of the slices
abbrev pub SliceOfUnions : Type 0
SliceOfUnions = (from to : Option Object) (sets : List VersionSet) →
    slice_of from to (union_all sets) ≡ union_all (map (slice_of from to) sets)

-- sets that are within the spans of bounds, one for one, are the slices of their union
abbrev pub SetsWithinAreSlices : Type 0
SetsWithinAreSlices = (bounds : List Object) (sets : List VersionSet) → IsSorted object_order bounds →
    Pairwise IsWithin (spans bounds) sets → slices bounds (union_all sets) ≡ sets

-- the selection of the union of sets is written span by span, from the slice of each set
abbrev pub SlicesWriteTheWhole : Type 0
SlicesWriteTheWhole =
    (selection : Selection) (bounds : List Object) (sets : List VersionSet) → IsSorted object_order bounds
    → spell Opl (selection_of selection (union_all sets))
    ≡ concat (map (λ span. spell Opl (selection_of selection (union_all (map (slice_of span.from span.to) sets))))
    (spans bounds))

-- bounds are sorted if each of their spans ascends
abbrev pub AscendingSpansAreSorted : Type 0
AscendingSpansAreSorted = (bounds : List Object) → list.All (λ span. is_ascending span ≡ true) (spans bounds) →
    IsSorted object_order bounds
