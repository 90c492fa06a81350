use Rattle.std.proofs.lemmas.Result.{err_from_is_err_and, IfOk-weaker, IfErr-weaker}
use Rattle.osm_mirror.proofs.run_laws.JobLaws.{merge_done, merge_stops, merge_at_once}
use Rattle.osm_mirror.proofs.run.merge.run_merge.Goals as goal

pub returns-in_err-files-clause-refused : goal.returns-in_err-files-clause-refused
returns-in_err-files-clause-refused g c =
    let p = err_from_is_err_and c.from_residual.result c.from_residual.ensures.1 in
    rw (p.1, p.2) (merge_at_once g.R.Input.can_give g.R.Input.one g.R.Input.possible g.W.Output c.args.format c.args.out.now _
    c.in_err-files.ensures.memory c.args.inputs.items)

pub returns-clause-merged : goal.returns-clause-merged
returns-clause-merged g c =
    IfOk-weaker c.run_selected.result _ _ (merge_done g.W.Output c.args.format c.args.out.now c.run_selected.new.out g.R.Input.can_give
    c.args.inputs.items c.in_ok-files.files.items c.in_ok-files.ensures.files) c.run_selected.ensures.written

pub returns-clause-refused : goal.returns-clause-refused
returns-clause-refused g c =
    IfErr-weaker c.run_selected.result _ _ (merge_stops g.W.Output c.args.format c.args.out.now c.run_selected.new.out g.R.Input.can_give
    c.args.inputs.items c.in_ok-files.files.items c.in_ok-files.ensures.files) c.run_selected.ensures.refused
