-- Shards of a job: several jobs, each for a slice of the same files, together write what one job writes.
use Rattle.std.specs.Prelude.{◌≡◌, ℕ, ◌<◌, ◌≤◌, ◌-◌, ◌^◌, List, [], ◌∷◌, length, map, take, drop}
use Rattle.std.specs.List.{concat}
use Rattle.std.specs.List.Sorted.{IsSorted}
use Rattle.osm_model.specs.declared.object.Object.{Object}
use Rattle.osm_model.specs.VersionSet.{VersionSet}
use Rattle.osm_model.specs.Pairwise.{Pairwise}
use Rattle.osm_model.specs.Sets.{empty}
use Rattle.osm_model.specs.Order.{object_order}
use Rattle.osm_files.specs.declared.format.Format.TheVariants.{Opl}
use Rattle.osm_files.specs.Held.{HoldsSorted}
use Rattle.osm_files.specs.Spell.{spell}
use Rattle.osm_files.specs.Units.{InOpl, start_of}
use Rattle.osm_merge.specs.declared.span.Span.{Span}
use Rattle.osm_merge.specs.declared.selection.Selection.{Selection}
use Rattle.osm_merge.specs.Selected.{selection_of}
use Rattle.osm_merge.specs.Slice.{slices, spans, IsWithin}
use Rattle.osm_mirror.specs.run.Cut.{BeginsLines}
use Rattle.osm_mirror.specs.run.Job.{union_of}

-- the extents of some bytes between offsets, in sequence, from the offset `start` on
abbrev pub parts_from : ℕ → List ℕ → List ℕ → List (List ℕ)
parts_from start [] bytes = drop start bytes ∷ []
parts_from start (offset ∷ offsets) bytes = take (offset - start) (drop start bytes) ∷ parts_from offset offsets bytes

-- the extents of a file that is cut at some offsets
abbrev pub parts_at : List ℕ → List ℕ → List (List ℕ)
parts_at offsets bytes = parts_from 0 offsets bytes

-- the offsets ascend, from `start` on, and lines of OPL begin at each of them
abbrev pub AreCutsFrom : List ℕ → ℕ → List ℕ → Type 0
AreCutsFrom bytes start [] = Unit {0}
AreCutsFrom bytes start (offset ∷ offsets) =
    (start ≤ offset) × BeginsLines bytes offset × AreCutsFrom bytes offset offsets

-- a file may be cut at these offsets
abbrev pub AreCuts : List ℕ → List ℕ → Type 0
AreCuts bytes offsets = AreCutsFrom bytes 0 offsets

-- An OPL file is cut, at offsets at which lines begin, into sorted files that are within the spans of bounds, one for
-- one. Then the OPL file is sorted, and its extents hold the slices of its set.
abbrev pub ExtentsHoldTheFile : Type 0
ExtentsHoldTheFile =
    (bounds : List Object) (bytes offsets : List ℕ) (held : List VersionSet) → length bytes < 2 ^ 62
    → start_of bytes ≡ InOpl → IsSorted object_order bounds → AreCuts bytes offsets
    → Pairwise HoldsSorted (parts_at offsets bytes) held → Pairwise IsWithin (spans bounds) held
    → HoldsSorted bytes (union_of held) × (slices bounds (union_of held) ≡ held)

-- the first of some sets; the empty set if there is none
abbrev pub first_set : List VersionSet → VersionSet
first_set [] = empty
first_set (s ∷ sets) = s

-- all of some sets but the first
abbrev pub other_sets : List VersionSet → List VersionSet
other_sets [] = []
other_sets (s ∷ sets) = sets

-- for each span, the sets of all files' extents within it; `extents` has the extents of each file
abbrev pub by_span : List Span → List (List VersionSet) → List (List VersionSet)
by_span [] extents = []
by_span (span ∷ spans) extents = map first_set extents ∷ by_span spans (map other_sets extents)

-- the slices of the set `held` are `extents`
abbrev pub HasSlices : List Object → VersionSet → List VersionSet → Type 0
HasSlices bounds held extents = slices bounds held ≡ extents

-- For sets with these slices, one job for each span writes what one job over the sets writes: the OPL files of the
-- jobs, in sequence, are the OPL file of the one job.
abbrev pub ShardsWriteTheJob : Type 0
ShardsWriteTheJob =
    (selection : Selection) (bounds : List Object) (sets : List VersionSet) (extents : List (List VersionSet))
    → IsSorted object_order bounds → Pairwise (HasSlices bounds) sets extents
    → spell Opl (selection_of selection (union_of sets))
    ≡ concat (map (λ sliced. spell Opl (selection_of selection (union_of sliced))) (by_span (spans bounds) extents))
