use Rattle.std.proofs.Common.{rules, ◌≡◌, ◌∙◌, ap, length}
use Rattle.std.proofs.lemmas.Result.{err_from_is_err_and}
use Rattle.osm_mirror.proofs.run_laws.SourceLaws.{no_memory}
use Rattle.osm_mirror.proofs.run_laws.JobLaws.{unopened, ran_written, ran_refused}
use Rattle.osm_mirror.proofs.run.run_selected.Goals as goal

pub returns-in_err-sources-clause-refused : goal.returns-in_err-sources-clause-refused
returns-in_err-sources-clause-refused g c =
    let p = err_from_is_err_and c.from_residual.result c.from_residual.ensures.1 in
    rw (p.1, p.2) (unopened g.R.Input.can_give g.W.Output c.args.selection c.args.format c.args.inputs.items c.args.out.now
    c.in_err-sources.field-0.0 c.in_err-sources.ensures.refused)

pub returns-in_err-sink-clause-refused : goal.returns-in_err-sink-clause-refused
returns-in_err-sink-clause-refused g c =
    let p = err_from_is_err_and c.from_residual-in_err-sink.result c.from_residual-in_err-sink.ensures.1 in
    rw (p.1, p.2) (unopened g.R.Input.can_give g.W.Output c.args.selection c.args.format c.args.inputs.items c.args.out.now _
    (no_memory g.R.Input.can_give g.R.Input.one g.R.Input.possible c.args.inputs.items _ c.in_err-sink.ensures.err))

pub returns-clause-written : goal.returns-clause-written
returns-clause-written g c =
    ran_written g.R.Input.can_give g.W.Output c.args.selection c.args.format c.args.inputs.items c.in_ok-sources.sources.items
    c.in_ok-sources.ensures.opened c.in_ok-sink.sink.format (ap (λ s. s.format) c.in_ok-sink.ensures.ok)
    c.args.out.now c.merge_selected.new.out c.merge_selected.result c.merge_selected.ensures.merged

pub returns-clause-refused : goal.returns-clause-refused
returns-clause-refused g c =
    let count : c.len-output.result ≡ length c.args.inputs.items = search rules in
    ran_refused g.R.Input.can_give g.W.Output c.args.selection c.args.format c.args.inputs.items c.in_ok-sources.sources.items
    c.in_ok-sources.ensures.opened c.in_ok-sink.sink.format (ap (λ s. s.format) c.in_ok-sink.ensures.ok)
    c.args.out.now c.merge_selected.new.out c.in_ok-sink.sink.number (ap (λ s. s.number) c.in_ok-sink.ensures.ok ∙ count)
    c.merge_selected.result c.merge_selected.ensures.refused
