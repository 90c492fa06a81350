-- Why a job for a shard is refused: an own rule of this project.
use Rattle.std.specs.Prelude.{◌≡◌, ◌⊎◌, ℕ, ◌<◌, ◌≤◌, ◌^◌, List, length, sum_by, Option, Some}
use Rattle.std.specs.Prelude.{IfSome, slice_get, false}
use Rattle.std.specs.List as list
use Rattle.osm_model.specs.Pairwise.{Pairwise}
use Rattle.osm_model.specs.VersionSet.{VersionSet}
use Rattle.osm_files.specs.declared.fault.Fault.{Fault}
use Rattle.osm_files.specs.declared.format.Format.{Format}
use Rattle.osm_files.specs.declared.output.Output.{Ghosts}
use Rattle.osm_files.specs.declared.reason.Reason.TheVariants.{ReadFault, TooLong}
use Rattle.osm_files.specs.declared.end_rule.EndRule.{EndRule}
use Rattle.osm_files.specs.Change.{change_of}
use Rattle.osm_files.specs.EndRule.{lacks_its_end, rule_of_file}
use Rattle.osm_files.specs.Fault.{memory_fault}
use Rattle.osm_files.specs.FileRuns.{IsReadFailure}
use Rattle.osm_files.specs.Held.{HoldsSorted}
use Rattle.osm_files.specs.Output.{Change}
use Rattle.osm_files.specs.Sink.{CutShort}
use Rattle.osm_files.specs.Spell.{spell}
use Rattle.osm_merge.specs.declared.span.Span.{Span}
use Rattle.osm_merge.specs.declared.selection.Selection.{Selection}
use Rattle.osm_merge.specs.Selected.{selection_of}
use Rattle.osm_mirror.specs.declared.run.files_job.Order.TheVariants.{Sorted}
use Rattle.osm_mirror.specs.declared.run.shard_job.ShardJob.{ShardJob}
use Rattle.osm_mirror.specs.run.Bounds.{opl_size, shard_span}
use Rattle.osm_mirror.specs.run.FilesRefusal.{IsFaultOfFile, IsOutputFault}
use Rattle.osm_mirror.specs.run.Probes.{HaveBytes}
use Rattle.osm_mirror.specs.run.Job.{union_of}
use Rattle.osm_mirror.specs.run.ShardJob.{shard_slices}

-- A file is refused because memory ran out or it can't be read; or its bytes, if they are known, aren't a sorted file.
-- `Fails` holds if reads of the file may fail.
abbrev pub IsFileRefusal : Type 0 → Option (List ℕ) → Fault → Type 0
IsFileRefusal Fails known fault = IsReadFailure Fails fault
    ⊎ IfSome known (λ all. (held : VersionSet) → HoldsSorted all held → ⊥)

-- the first fault of a sorted file that has to end as the rule says
abbrev pub IsFaultByRule : EndRule → Type 0 → Option (List ℕ) → Fault → Type 0
IsFaultByRule end Fails known fault = IsFaultOfFile Fails known Sorted end fault

module _ {F : Type 0} (known : F → Option (List ℕ)) (fails : F → Type 0) where
  -- the fault has the number of one of these files, and `IsOf` is true for it and this file
  abbrev pub IsFaultAmong : (Type 0 → Option (List ℕ) → Fault → Type 0) → List F → Fault → Type 0
  IsFaultAmong IsOf files fault =
      (file : F) × (slice_get files fault.input ≡ Some file) × IsOf (fails file) (known file) fault

  -- the OPL files among these files together have 2^62 bytes or more, if the bytes of all files are known
  abbrev pub AreTooLong : List F → Fault → Type 0
  AreTooLong files fault = (fault.reason ≡ TooLong)
      × ((all : List (List ℕ)) → HaveBytes known files all → 2 ^ 62 ≤ sum_by opl_size all)

  -- memory ran out, the fault is one of these files, or these files are too long
  abbrev pub AreRefused : (Type 0 → Option (List ℕ) → Fault → Type 0) → List F → Fault → Type 0
  AreRefused IsOf files fault = (fault ≡ memory_fault) ⊎ IsFaultAmong IsOf files fault ⊎ AreTooLong files fault

  -- a file that no job refuses has these bytes, and no read of it fails
  abbrev pub IsGood : F → List ℕ → Type 0
  IsGood file bytes = (known file ≡ Some bytes) × (fails file → ⊥)

  -- If no file is refused, all of them together aren't too long, and they are sorted, a front of the one spelling of
  -- what the span has of them was appended. Without a span that is the one spelling of nothing.
  abbrev pub IsCutIfGood : Selection → Format → (List (List ℕ) → Option Span) → List F → Change → Fault → Type 0
  IsCutIfGood selection format span files change fault = (all : List (List ℕ)) (held : List VersionSet)
      → Pairwise IsGood files all → Pairwise HoldsSorted all held → sum_by opl_size all < 2 ^ 62
      → CutShort (length files) change
      (spell format (selection_of selection (union_of (shard_slices (span all) held)))) fault

  -- if no file is refused, as above, the one spelling of what the span has of the files has 2^62 bytes or more
  abbrev pub IsLong : Selection → Format → (List (List ℕ) → Option Span) → List F → Type 0
  IsLong selection format span files = (all : List (List ℕ)) (held : List VersionSet)
      → Pairwise IsGood files all → Pairwise HoldsSorted all held → sum_by opl_size all < 2 ^ 62
      → 2 ^ 62 ≤ length (spell format (selection_of selection (union_of (shard_slices (span all) held))))

  -- Why a job for a span of these files was refused: memory ran out, one of the files is at fault, the output has
  -- failed, or what was to be written is too long.
  pub record RefusesSpan (IsOf : Type 0 → Option (List ℕ) → Fault → Type 0) (selection : Selection) (format : Format)
      (span : List (List ℕ) → Option Span) (files : List F) (change : Change) (fault : Fault) : Type 0 where
    pub why : AreRefused IsOf files fault
        ⊎ IsOutputFault (length files) change (IsLong selection format span files) fault
    pub cut : IsCutIfGood selection format span files change fault

  -- each of these files ends as the rule says, as far as its bytes are known
  abbrev pub EndByRule : EndRule → List F → Type 0
  EndByRule end files =
      list.All (λ file. IfSome (known file) (λ all. lacks_its_end (rule_of_file end) all ≡ false)) files

  -- Why a job for a shard of these files was refused: memory ran out, one of the files is at fault, the output has
  -- failed, or what was to be written is too long. If all files are good and end as the rule says, a front of the file
  -- that was to be written was appended.
  pub record RefusesShardJob {O : Type 0} (output : Ghosts O) (job : ShardJob) (files : List F) (before after : O)
      (fault : Fault) : Type 0 where
    pub why : AreRefused (IsFaultByRule job.end) files fault
        ⊎ IsOutputFault (length files) (change_of output before after)
        (IsLong job.selection job.format (shard_span job.shard.number job.shard.count) files) fault
    pub cut : EndByRule job.end files → IsCutIfGood job.selection job.format
        (shard_span job.shard.number job.shard.count) files (change_of output before after) fault
