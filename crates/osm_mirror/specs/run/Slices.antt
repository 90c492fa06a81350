-- Files that are cut at objects into slices, and jobs over the slices.
use Rattle.std.specs.Prelude.{◌≡◌, ℕ, ◌<◌, ◌^◌, List, length, map}
use Rattle.std.specs.List.{concat}
use Rattle.std.specs.List.Sorted.{IsSorted}
use Rattle.osm_model.specs.declared.object.Object.{Object}
use Rattle.osm_model.specs.VersionSet.{VersionSet}
use Rattle.osm_model.specs.Pairwise.{Pairwise}
use Rattle.osm_model.specs.Order.{object_order}
use Rattle.osm_files.specs.declared.format.Format.TheVariants.{Opl}
use Rattle.osm_files.specs.Held.{HoldsSorted}
use Rattle.osm_files.specs.SortedRun.{IsSplitInto}
use Rattle.osm_files.specs.Spell.{spell}
use Rattle.osm_merge.specs.declared.span.Span.{Span}
use Rattle.osm_merge.specs.declared.selection.Selection.{Selection}
use Rattle.osm_merge.specs.Selected.{selection_of}
use Rattle.osm_merge.specs.Slice.{slice_of, spans, slices, IsWithin}
use Rattle.osm_mirror.specs.run.Job.{union_of}

-- A file that is split into sorted files, each within its span, is sorted. It holds the union of their sets, and each
-- of them holds its slice of the union.
abbrev pub SlicesHoldTheFile : Type 0
SlicesHoldTheFile =
    (bounds : List Object) (bytes : List ℕ) (pieces : List (List ℕ)) (held : List VersionSet) → length bytes < 2 ^ 62
    → IsSorted object_order bounds → IsSplitInto bytes pieces → Pairwise HoldsSorted pieces held
    → Pairwise IsWithin (spans bounds) held → HoldsSorted bytes (union_of held) × (slices bounds (union_of held) ≡ held)

-- the sets `sliced` are the slices of the sets `sets` within a span
abbrev pub AreSlicesWithin : List VersionSet → Span → List VersionSet → Type 0
AreSlicesWithin sets span sliced = sliced ≡ map (slice_of span.from span.to) sets

-- One job for each span, over the slices of some sets, writes the same as one job over the sets: the OPL files of the
-- jobs, in sequence, are the OPL file of the one job.
abbrev pub SlicesWriteTheJob : Type 0
SlicesWriteTheJob =
    (selection : Selection) (bounds : List Object) (sets : List VersionSet) (runs : List (List VersionSet))
    → IsSorted object_order bounds → Pairwise (AreSlicesWithin sets) (spans bounds) runs
    → spell Opl (selection_of selection (union_of sets))
    ≡ concat (map (λ sliced. spell Opl (selection_of selection (union_of sliced))) runs)
