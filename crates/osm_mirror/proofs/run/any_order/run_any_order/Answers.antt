use Rattle.std.proofs.lemmas.Result.{err_from_is_err_and}
use Rattle.osm_merge.specs.Selected.{selection_of}
use Rattle.osm_mirror.proofs.run_laws.JobLaws.{command_done, command_stops, command_at_once}
use Rattle.osm_mirror.proofs.run.any_order.run_any_order.Goals as goal

pub returns-clause-written : goal.returns-clause-written
returns-clause-written g c =
    command_done g.W.Output c.args.format c.args.out.now c.run_selected.new.out g.R.Input.can_give c.args.inputs.items
    c.in_ok-files.files.items c.args.selection c.in_ok-files.ensures.files c.in_ok-counts.counts c.in_ok-counts.ensures.written

pub returns-in_err-counts-clause-refused : goal.returns-in_err-counts-clause-refused
returns-in_err-counts-clause-refused g c =
    let p = err_from_is_err_and c.from_residual-in_err-counts.result c.from_residual-in_err-counts.ensures.1 in
    rw (p.1, p.2)
    (command_stops g.W.Output c.args.format c.args.out.now c.run_selected.new.out g.R.Input.can_give c.args.inputs.items
    c.in_ok-files.files.items c.args.selection c.in_ok-files.ensures.files c.in_err-counts.field-0.0 c.in_err-counts.ensures.refused)

pub returns-in_err-files-clause-refused : goal.returns-in_err-files-clause-refused
returns-in_err-files-clause-refused g c =
    let p = err_from_is_err_and c.from_residual.result c.from_residual.ensures.1 in
    rw (p.1, p.2)
    (command_at_once g.R.Input.can_give g.R.Input.one g.R.Input.possible g.W.Output c.args.format c.args.out.now _
    c.in_err-files.ensures.memory (selection_of c.args.selection) c.args.inputs.items)
