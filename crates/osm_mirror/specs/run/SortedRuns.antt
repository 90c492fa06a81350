-- A file that is split into files in sequence holds the union of their sets.
use Rattle.std.specs.Prelude.{◌≡◌, ℕ, ◌<◌, ◌^◌, List, length}
use Rattle.osm_model.specs.VersionSet.{VersionSet}
use Rattle.osm_model.specs.Pairwise.{Pairwise}
use Rattle.osm_files.specs.declared.format.Format.{Format}
use Rattle.osm_files.specs.Held.{Holds}
use Rattle.osm_files.specs.SortedRun.{IsSplitInto}
use Rattle.osm_files.specs.Spell.{spell}
use Rattle.osm_merge.specs.declared.selection.Selection.{Selection}
use Rattle.osm_merge.specs.Selected.{selection_of}
use Rattle.osm_mirror.specs.run.Job.{union_of}

-- a file that is split into files holds the union of their sets
abbrev pub SortedRunsHoldTheFile : Type 0
SortedRunsHoldTheFile =
    (bytes : List ℕ) (files : List (List ℕ)) (held : List VersionSet) → length bytes < 2 ^ 62
    → IsSplitInto bytes files → Pairwise Holds files held → Holds bytes (union_of held)

-- the output for a file is the output for the files that it is split into, for every selection
abbrev pub SortedRunsWriteTheFile : Type 0
SortedRunsWriteTheFile =
    (bytes : List ℕ) (set : VersionSet) (files : List (List ℕ)) (held : List VersionSet) → Holds bytes set
    → IsSplitInto bytes files → Pairwise Holds files held
    → (selection : Selection) (format : Format)
    → spell format (selection_of selection set) ≡ spell format (selection_of selection (union_of held))
