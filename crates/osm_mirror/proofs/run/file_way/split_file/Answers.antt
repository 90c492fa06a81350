use Rattle.std.proofs.Common.{false, inr, refl, sym, subst}
use Rattle.std.proofs.lemmas.Result.{IfOk-weaker}
use Rattle.osm_mirror.specs.declared.run.file_way.FileWay.{FileWay}
use Rattle.osm_mirror.specs.declared.run.files_job.Order.TheVariants.{Any, Sorted}
use Rattle.osm_mirror.specs.declared.run.input.ReadAs.TheVariants.{InOrder}
use Rattle.osm_mirror.specs.declared.run.files_job.JobFile.{JobFile}
use Rattle.osm_mirror.specs.run.FilesJob.{FileFits}
use Rattle.osm_mirror.proofs.run_laws.WayLaws.{runs_sorted, runs_fit, held_fits}
use Rattle.osm_mirror.proofs.run.file_way.split_file.Goals as goal

pub returns-in-Some-clause-fits : goal.returns-in-Some-clause-fits
returns-in-Some-clause-fits g c =
    let bytes = g.F.ReadAt.bytes in
    let known = bytes c.in-File.file.now in
    let size = c.in_ok-size.size in
    let long = c.in_ok-size.ensures.size in
    let way : FileWay = record { read_as = InOrder Sorted; runs = c.in-Some.runs; size = size; may_be_split = false } in
    subst (λ (x : JobFile _ _). FileFits bytes Any x way) (sym c.in-File.is) (
      inr (inr (
        refl,
        (
          refl,
          refl,
          runs_sorted known size c.in-Some.runs.items long
              (rw c.in-Some.is at c.in_ok-runs.ensures.sorted) (rw c.in-Some.is at c.in_ok-runs.ensures.accepted),
        ),
      )),
      runs_fit known way c.in_ok-size.ensures.short long (rw c.in-Some.is at c.in_ok-runs.ensures.runs),
    )

pub returns-in-None-clause-fits : goal.returns-in-None-clause-fits
returns-in-None-clause-fits g c =
    let bytes = g.F.ReadAt.bytes in
    let known = bytes c.in-File.file.now in
    IfOk-weaker c.whole-in-None.result _ _
    (λ way read. subst (λ (x : JobFile _ _). FileFits bytes Any x way) (sym c.in-File.is)
    (held_fits known c.in_ok-size.size way c.in_ok-size.ensures.short c.in_ok-size.ensures.size read))
    c.whole-in-None.ensures.whole
