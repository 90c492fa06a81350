use Rattle.std.proofs.Common.{sym, subst, OnOk}
use Rattle.std.proofs.lemmas.Result.{on_ok_weaker}
use Rattle.osm_files.specs.FileInput.{FileInputCanGive}
use Rattle.osm_mirror.specs.declared.run.files_job.JobFile.{JobFile}
use Rattle.osm_mirror.specs.run.FilesJob.{AddsFile}
use Rattle.osm_mirror.proofs.run.files_turn.push_inputs.Goals as goal

pub returns-in-File-clause-added : goal.returns-in-File-clause-added
returns-in-File-clause-added g c =
    let gives = FileInputCanGive g.F.ReadAt.fails g.F.ReadAt.bytes g.R.Input.can_give in
    subst (λ (f : JobFile _ _). OnOk c.push_runs.result
    (AddsFile g.F.ReadAt.fails g.F.ReadAt.bytes g.R.Input.can_give gives f c.args.way.now c.args.inputs.now.items
    c.push_runs.new.inputs.items))
    (sym c.in-File.is) (on_ok_weaker c.push_runs.result (λ added. added c.in-File.field-1) c.push_runs.ensures.added)

pub returns-in-Stream-clause-added : goal.returns-in-Stream-clause-added
returns-in-Stream-clause-added g c =
    let gives = FileInputCanGive g.F.ReadAt.fails g.F.ReadAt.bytes g.R.Input.can_give in
    subst (λ (f : JobFile _ _). OnOk c.push_stream.result
    (AddsFile g.F.ReadAt.fails g.F.ReadAt.bytes g.R.Input.can_give gives f c.args.way.now c.args.inputs.now.items
    c.push_stream.new.inputs.items))
    (sym c.in-Stream.is) c.push_stream.ensures.added
