-- The job for one shard of an output, and the jobs for all shards: an own rule of this project.
use Rattle.std.specs.Prelude.{◌≡◌, ℕ, zero, suc, ◌+◌, ◌<◌, List, [], ◌∷◌, map, Option, Some, None}
use Rattle.std.specs.List.{concat}
use Rattle.osm_model.specs.VersionSet.{VersionSet}
use Rattle.osm_model.specs.Sets.{size}
use Rattle.osm_files.specs.declared.format.Format.{Format}
use Rattle.osm_files.specs.declared.format.Format.TheVariants.{Opl}
use Rattle.osm_files.specs.Output.{Change, Appends}
use Rattle.osm_files.specs.Spell.{spell}
use Rattle.osm_merge.specs.declared.merge.Counts.{Counts}
use Rattle.osm_merge.specs.declared.span.Span.{Span}
use Rattle.osm_merge.specs.declared.selection.Selection.{Selection}
use Rattle.osm_merge.specs.Clashes.{clash_count}
use Rattle.osm_merge.specs.Selected.{selection_of}
use Rattle.osm_merge.specs.Slice.{slice_of}
use Rattle.osm_merge.specs.Union.{capped_count}
use Rattle.osm_mirror.specs.declared.run.shard_job.ShardJob.{ShardJob}
use Rattle.osm_mirror.specs.run.Bounds.{shard_span}
use Rattle.osm_mirror.specs.run.Job.{union_of}

-- the slices of sets within a shard's span; no sets if there is no such span
abbrev pub shard_slices : Option Span → List VersionSet → List VersionSet
shard_slices None held = []
shard_slices (Some span) held = map (slice_of span.from span.to) held

-- what a shard has of files with these bytes that hold these sets: the selection of the union of the slices within the
-- span of the shard `number` of `count`
abbrev pub shard_set : Selection → ℕ → ℕ → List (List ℕ) → List VersionSet → VersionSet
shard_set selection number count all held =
    selection_of selection (union_of (shard_slices (shard_span number count all) held))

-- A job for a shard over files with these bytes that hold these sets, with this change of the output: the one spelling
-- of what the shard has was appended. The clashes are those of the union of the slices, whatever is selected.
pub record IsShardJob (job : ShardJob) (all : List (List ℕ)) (held : List VersionSet) (change : Change)
    (counts : Counts) : Type 0 where
  pub written : Appends change
      (spell job.format (shard_set job.selection job.shard.number job.shard.count all held))
  pub written_count : counts.written ≡ capped_count
      (size (shard_set job.selection job.shard.number job.shard.count all held))
  pub clashes_count : counts.clashes ≡ capped_count
      (clash_count (union_of (shard_slices (shard_span job.shard.number job.shard.count all) held)))

-- A job for a span of objects over files that hold these sets: the one spelling of the selection of the union of the
-- sets' slices was appended. The clashes are those of the union of the slices. Without a span there are no slices.
pub record IsSpanJob (selection : Selection) (span : Option Span) (held : List VersionSet) (format : Format)
    (change : Change) (counts : Counts) : Type 0 where
  pub written : Appends change
      (spell format (selection_of selection (union_of (shard_slices span held))))
  pub written_count : counts.written ≡ capped_count
      (size (selection_of selection (union_of (shard_slices span held))))
  pub clashes_count : counts.clashes ≡ capped_count (clash_count (union_of (shard_slices span held)))

-- what the first `most` shards from the shard `number` on append as OPL, one for one
abbrev pub shard_outputs : Selection → ℕ → List (List ℕ) → List VersionSet → ℕ → ℕ → List (List ℕ)
shard_outputs selection count all held zero number = []
shard_outputs selection count all held (suc most) number =
    spell Opl (shard_set selection number count all held)
    ∷ shard_outputs selection count all held most (number + 1)

-- The jobs for all shards write, in sequence, what one job over the files writes: the OPL outputs of the shards from 1
-- to `count` are, in sequence, the OPL file of the selection of the union of the sets that the files hold.
abbrev pub ShardJobsWriteTheJob : Type 0
ShardJobsWriteTheJob =
    (selection : Selection) (count : ℕ) (all : List (List ℕ)) (held : List VersionSet) → 0 < count
    → spell Opl (selection_of selection (union_of held)) ≡ concat (shard_outputs selection count all held count 1)
