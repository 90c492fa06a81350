-- A job over open inputs, for `run_inputs`: an own rule of this project.
use Rattle.std.specs.Prelude.{◌≡◌, ◌⊎◌, ℕ, Bool, List, Option}
use Rattle.std.specs.Borrow.{Bor}
use Rattle.std.specs.List as list
use Rattle.osm_model.specs.Pairwise.{Pairwise}
use Rattle.osm_model.specs.VersionSet.{VersionSet}
use Rattle.osm_files.specs.declared.fault.Fault.{Fault}
use Rattle.osm_files.specs.declared.output.Output.{Ghosts}
use Rattle.osm_files.specs.Held.{HoldsSorted}
use Rattle.osm_files.specs.Input.{InputRest}
use Rattle.osm_files.specs.Output.{Change}
use Rattle.osm_merge.specs.declared.merge.Counts.{Counts}
use Rattle.osm_mirror.specs.declared.run.files_job.JobFile.{JobFile}
use Rattle.osm_mirror.specs.declared.run.files_job.Order.TheVariants.{Sorted}
use Rattle.osm_mirror.specs.declared.run.inputs_job.InputsJob.{InputsJob}
use Rattle.osm_mirror.specs.declared.run.inputs_job.InputsJob.TheVariants.{Whole, Part}
use Rattle.osm_mirror.specs.declared.run.job_input.JobInput.{JobInput}
use Rattle.osm_mirror.specs.run.FilesJob.{IsFilesJob, EndsByRule}
use Rattle.osm_mirror.specs.run.FilesRefusal.{RefusesFilesJob}
use Rattle.osm_mirror.specs.run.JobInput.{AreFilesOf, AreRegularFilesOf, IsUnmatched, HasStream}
use Rattle.osm_mirror.specs.run.Probes.{HaveBytes}
use Rattle.osm_mirror.specs.run.ShardJob.{IsShardJob}
use Rattle.osm_mirror.specs.run.ShardRefusal.{RefusesShardJob, EndByRule}

-- the job keeps what its output held before, also if it is refused and the output can be cut back
abbrev pub KeepsOutput : InputsJob → Type 0
KeepsOutput (Whole job) = job.order ≡ Sorted
KeepsOutput (Part job) = Unit {0}

module _ {N F R : Type 0} (fails : F → Type 0) (bytes : F → Option (List ℕ)) (can : R → InputRest → Type 0) where
  -- A job over open inputs and their streams, with this change of the output: the job over the files of the inputs,
  -- each of which ends as its rule says. In a job for a shard each input is a regular file.
  abbrev pub IsInputsJob : InputsJob → List (JobInput N F) → List R → Change → Counts → Type 0
  IsInputsJob (Whole job) inputs streams change counts = (files : List (JobFile F R))
      × AreFilesOf inputs streams files × IsFilesJob bytes can job files change counts
      × list.All (EndsByRule bytes) files
  IsInputsJob (Part job) inputs streams change counts = (files : List (Bor F))
      × AreRegularFilesOf inputs files
      × ((all : List (List ℕ)) (held : List VersionSet) → HaveBytes (λ file. bytes file.now) files all
      → Pairwise HoldsSorted all held → IsShardJob job all held change counts)
      × EndByRule (λ file. bytes file.now) (λ file. fails file.now) job.end files

  -- Why a job over open inputs and their streams was refused: before it began, since memory ran out or the streams
  -- aren't those of the inputs; or as the job over the files of the inputs.
  abbrev pub RefusesInputsJob : {O : Type 0} → Ghosts O → (can_cut : Bool) → InputsJob → List (JobInput N F) → List R
      → O → O → Fault → Type 0
  RefusesInputsJob output can_cut (Whole job) inputs streams before after fault =
      ((after ≡ before) × IsUnmatched inputs streams fault)
      ⊎ ((files : List (JobFile F R)) × AreFilesOf inputs streams files
      × RefusesFilesJob fails bytes can output can_cut job files before after fault)
  RefusesInputsJob output can_cut (Part job) inputs streams before after fault =
      ((after ≡ before) × HasStream inputs fault)
      ⊎ ((files : List (Bor F)) × AreRegularFilesOf inputs files
      × RefusesShardJob (λ file. bytes file.now) (λ file. fails file.now) output job files before after fault)
