use Rattle.std.proofs.Common.{◌≡◌, ◌∙◌, ◌++◌, ℕ, List, [], ◌∷◌, Option, Some, None, IfSome, subst, sym}
use Rattle.osm_model.specs.VersionSet.{VersionSet}
use Rattle.osm_model.specs.Pairwise.{Pairwise}
use Rattle.osm_files.specs.Held.{Holds}
use Rattle.osm_files.specs.Input.{InputRest}
use Rattle.osm_files.specs.Recorded.{RecordedData, all_bytes}
use Rattle.osm_mirror.specs.declared.run.files_job.JobFile.{JobFile}
use Rattle.osm_mirror.specs.declared.run.files_job.JobFile.TheVariants.{File, Stream}
use Rattle.osm_mirror.specs.declared.run.files_job.Order.TheVariants.{Any}
use Rattle.osm_mirror.specs.declared.run.job_input.JobInput.{JobInput}
use Rattle.osm_mirror.specs.run.FilesJob.{FileHolds}
use Rattle.osm_mirror.specs.run.JobInput.{AreFilesOf}
use Rattle.examples.proofs.jobs.map_of_reads.Goals as goal

-- the bytes of all results of reads
abbrev bytes : RecordedData → Option (List ℕ)
bytes reads = Some (reads.front ++ all_bytes reads.results)

-- the bytes of an input's reads hold this set
abbrev InputHolds : {N : Type 0} → JobInput N RecordedData → VersionSet → Type 0
InputHolds input set = IfSome input.regular (λ reads. Holds (reads.front ++ all_bytes reads.results) set)

-- without streams, the files of a job are the reads of its inputs
inputs_hold : {N R : Type 0} (can : R → InputRest → Type 0) (inputs : List (JobInput N RecordedData))
    (files : List (JobFile RecordedData R)) (held : List VersionSet) → AreFilesOf inputs [] files →
    Pairwise (FileHolds bytes can Any) files held → Pairwise InputHolds inputs held
inputs_hold can [] [] [] are hold = tt
inputs_hold can [] [] (set ∷ held) are hold = absurd hold
inputs_hold can [] (file ∷ files) held are hold = let none = are.1 in cc
inputs_hold can (input ∷ inputs) [] held are hold = absurd are
inputs_hold can (input ∷ inputs) (file ∷ files) [] are hold = absurd hold
inputs_hold can (input ∷ inputs) (File f end ∷ files) (set ∷ held) (others, is, rest) (holds, hold) = (
  subst (λ (reads : Option RecordedData). IfSome reads (λ r. Holds (r.front ++ all_bytes r.results) set)) (sym is.0) holds,
  inputs_hold can inputs files held (subst (λ streams. AreFilesOf inputs streams files) (sym is.2) rest) hold,
)
inputs_hold can (input ∷ inputs) (Stream r end ∷ files) (set ∷ held) (others, is, rest) hold = let none = is.2 in cc

pub returns : goal.returns
returns c =
    let done = c.in_ok-run_inputs.ensures.written in
    let are = subst (λ streams. AreFilesOf c.args.inputs.now streams done.0) c.new-streams.ensures.items done.1 in
    let is = done.2 in
    (is.held, inputs_hold _ c.args.inputs.now done.0 is.held are is.accepted, c.into_vec.ensures ∙ is.written [] c.new-output.ensures.bytes)
