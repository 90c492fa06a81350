use Rattle.std.proofs.Common.{sym, subst}
use Rattle.std.proofs.lemmas.Result.{IfOk-weaker}
use Rattle.osm_mirror.specs.declared.run.files_job.JobFile.{JobFile}
use Rattle.osm_mirror.specs.run.FilesJob.{FileFits}
use Rattle.osm_mirror.proofs.run_laws.WayLaws.{first_fits}
use Rattle.osm_mirror.proofs.run.file_way.first_way.Goals as goal

pub returns-in_ok-size-in-File-clause-fits : goal.returns-in_ok-size-in-File-clause-fits
returns-in_ok-size-in-File-clause-fits g c =
    let bytes = g.F.ReadAt.bytes in
    IfOk-weaker c.whole.result _ _
    (λ way read. subst (λ (x : JobFile _ _). FileFits bytes c.args.order x way) (sym c.in-File.is)
    (first_fits c.args.order (bytes c.in-File.file.now) c.in_ok-size-in-File.size c.is_any.result way
    c.in_ok-size-in-File.ensures.short c.in_ok-size-in-File.ensures.size c.is_any.ensures read))
    c.whole.ensures.whole
