use Rattle.std.proofs.Common.{◌≡◌, ℕ, Bool, List, Option, Bor, Result, Ok, Err, IfOk, IfErr, OnOk, sym, subst, inr}
use Rattle.osm_model.specs.Pairwise.{Pairwise}
use Rattle.osm_model.specs.VersionSet.{VersionSet}
use Rattle.osm_files.specs.declared.fault.Fault.{Fault}
use Rattle.osm_files.specs.declared.output.Output.{Ghosts}
use Rattle.osm_files.specs.Change.{change_of}
use Rattle.osm_files.specs.Held.{HoldsSorted}
use Rattle.osm_files.specs.Input.{InputRest}
use Rattle.osm_files.specs.Output.{Change}
use Rattle.osm_merge.specs.declared.merge.Counts.{Counts}
use Rattle.osm_mirror.specs.declared.run.inputs_job.InputsJob.{InputsJob}
use Rattle.osm_mirror.specs.declared.run.inputs_job.InputsJob.TheVariants.{Part}
use Rattle.osm_mirror.specs.declared.run.job_input.JobInput.{JobInput}
use Rattle.osm_mirror.specs.declared.run.shard_job.ShardJob.{ShardJob}
use Rattle.osm_mirror.specs.run.InputsJob.{IsInputsJob, RefusesInputsJob}
use Rattle.osm_mirror.specs.run.JobInput.{AreRegularFilesOf}
use Rattle.osm_mirror.specs.run.Probes.{HaveBytes}
use Rattle.osm_mirror.specs.run.ShardJob.{IsShardJob}
use Rattle.osm_mirror.specs.run.ShardRefusal.{RefusesShardJob, EndByRule}
use Rattle.osm_mirror.proofs.run.inputs_job.run_inputs.Goals as goal

-- the job for a shard over the regular files of the inputs
module _ {N F R : Type 0} (fails : F → Type 0) (bytes : F → Option (List ℕ)) (can : R → InputRest → Type 0) (job : InputsJob)
    (inputs : List (JobInput N F)) (streams : List R) (part : ShardJob) (files : List (Bor F)) (is : job ≡ Part part)
    (are : AreRegularFilesOf inputs files) where
  part_written : (change : Change) (result : Result Counts Fault)
      → IfOk result (λ counts. (all : List (List ℕ)) (held : List VersionSet) → HaveBytes (λ file. bytes file.now) files all
      → Pairwise HoldsSorted all held → IsShardJob part all held change counts)
      → OnOk result (EndByRule (λ file. bytes file.now) (λ file. fails file.now) part.end files)
      → IfOk result (IsInputsJob fails bytes can job inputs streams change)
  part_written change (Ok counts) written ended = rw is (files, are, written, ended)
  part_written change (Err fault) written ended = tt

  part_refused : {O : Type 0} (output : Ghosts O) (can_cut : Bool) (before after : O) (result : Result Counts Fault)
      → IfErr result (RefusesShardJob (λ file. bytes file.now) (λ file. fails file.now) output part files before after)
      → IfErr result (RefusesInputsJob fails bytes can output can_cut job inputs streams before after)
  part_refused output can_cut before after (Ok counts) refused = tt
  part_refused output can_cut before after (Err fault) refused = rw is (inr (files, are, refused))

pub returns-in_ok-files-in-Part-clause-written : goal.returns-in_ok-files-in-Part-clause-written
returns-in_ok-files-in-Part-clause-written g c =
    part_written g.F.ReadAt.fails g.F.ReadAt.bytes g.R.Input.can_give c.args.job c.args.inputs.now c.args.streams.items c.in-Part.job
    c.as_slice.result.now c.in-Part.is
    (subst (λ fs. AreRegularFilesOf c.args.inputs.now fs) (sym c.as_slice.ensures.value) c.in_ok-files-in-Part.ensures.files)
    (change_of g.W.Output c.args.out.now c.run_shard.new.out) c.run_shard.result c.run_shard.ensures.written c.run_shard.ensures.ended

pub returns-in_ok-files-in-Part-clause-refused : goal.returns-in_ok-files-in-Part-clause-refused
returns-in_ok-files-in-Part-clause-refused g c =
    part_refused g.F.ReadAt.fails g.F.ReadAt.bytes g.R.Input.can_give c.args.job c.args.inputs.now c.args.streams.items c.in-Part.job
    c.as_slice.result.now c.in-Part.is
    (subst (λ fs. AreRegularFilesOf c.args.inputs.now fs) (sym c.as_slice.ensures.value) c.in_ok-files-in-Part.ensures.files)
    g.W.Output (g.W.CutBackOutput.can_cut c.args.out.now) c.args.out.now c.run_shard.new.out c.run_shard.result
    c.run_shard.ensures.refused
