-- A job over open files, each read in its way: what it wrote, and why it is refused. An own rule of this project.
use Rattle.std.specs.Prelude.{◌≡◌, ◌⊎◌, ℕ, ◌<◌, ◌^◌, List, Option}
use Rattle.osm_files.specs.declared.fault.Fault.{Fault}
use Rattle.osm_files.specs.declared.output.Output.{Ghosts}
use Rattle.osm_files.specs.Fault.{memory_fault}
use Rattle.osm_files.specs.Input.{InputRest}
use Rattle.osm_files.specs.Output.{Change}
use Rattle.osm_merge.specs.declared.merge.Counts.{Counts}
use Rattle.osm_merge.specs.Giving.{SomeInputsGive}
use Rattle.osm_mirror.specs.declared.run.file_way.FileWay.{FileWay}
use Rattle.osm_mirror.specs.declared.run.files_job.FilesJob.{FilesJob}
use Rattle.osm_mirror.specs.declared.run.files_job.JobFile.{JobFile}
use Rattle.osm_mirror.specs.declared.run.input.InputFile.{InputFile}
use Rattle.osm_mirror.specs.run.FilesJob.{OpensFiles, fault_in_files}
use Rattle.osm_mirror.specs.run.Given.{InputFileCanGive}
use Rattle.osm_mirror.specs.run.SelectedJob.{IsJob, RefusesJob}

module _ {F R I : Type 0} (fails : F → Type 0) (bytes : F → Option (List ℕ)) (can : R → InputRest → Type 0)
    (gives : I → InputRest → Type 0) (files : List (JobFile F R)) (ways : List FileWay) (job : FilesJob) where
  -- a job over the inputs of these files, each read in its way
  pub record IsJobInWays (change : Change) (counts : Counts) : Type 0 where
    pub inputs : List (InputFile I)
    pub opens : OpensFiles fails bytes can gives files ways inputs
    pub done : SomeInputsGive (InputFileCanGive gives) inputs (λ all.
        IsJob job.selection all job.format change counts)

  -- the job over the inputs was refused with a fault of an input or of the output, and this is the fault for the files
  pub record RefusesInputs {O : Type 0} (output : Ghosts O) (before after : O) (fault : Fault) : Type 0 where
    pub inputs : List (InputFile I)
    pub opens : OpensFiles fails bytes can gives files ways inputs
    pub found : Fault
    pub small : found.place < 2 ^ 64
    pub fault_is : fault ≡ fault_in_files 0 ways found.input found
    pub refused : SomeInputsGive (InputFileCanGive gives) inputs (λ all.
        RefusesJob output job.selection all job.format before after found)

  -- why the job was refused: memory ran out before it read anything, or as the job over the inputs
  abbrev pub RefusesInWays : {O : Type 0} → Ghosts O → O → O → Fault → Type 0
  RefusesInWays output before after fault =
      ((fault ≡ memory_fault) × (after ≡ before)) ⊎ RefusesInputs output before after fault
