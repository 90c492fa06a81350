use Rattle.std.proofs.Common.{◌∙◌, sym, subst, ap, length}
use Rattle.std.proofs.lemmas.Result.{err_from_is_err_and}
use Rattle.osm_files.specs.Fault.{write_fault}
use Rattle.osm_mirror.specs.declared.run.files_job.Order.{Order}
use Rattle.osm_mirror.specs.run.FilesJob.{FilesFit}
use Rattle.osm_mirror.proofs.run_laws.TurnLaws.{uncut_refused, decided_why, turn_undone, cut_since, job_since, length_since}
use Rattle.osm_mirror.proofs.run.files_job.run_or_undo.Goals as goal

pub returns-in_err-start-clause-refused : goal.returns-in_err-start-clause-refused
returns-in_err-start-clause-refused g c =
    let p = err_from_is_err_and c.from_residual.result c.from_residual.ensures.1 in
    rw (p.1, p.2)
    (uncut_refused g.F.ReadAt.fails g.F.ReadAt.bytes g.R.Input.can_give g.W.Output c.args.job c.args.files.items c.args.out.now
    c.requires.any c.length_of.new.out c.in_err-start.field-0.0
    (c.in_err-start.ensures.fault ∙ ap (λ n. write_fault n 0) (ap length c.as_slice-number.ensures.value)) c.in_err-start.ensures.failed)

pub run_turn-requires : goal.run_turn-requires
run_turn-requires g c = record {
  fit = subst (λ (o : Order). FilesFit g.F.ReadAt.bytes o c.args.files.items c.args.ways.now) (sym c.requires.any) c.requires.fit;
}

pub returns-in-Ok-clause-written : goal.returns-in-Ok-clause-written
returns-in-Ok-clause-written g c =
    job_since g.F.ReadAt.bytes g.R.Input.can_give g.W.Output c.args.job c.args.files.items c.args.out.now c.length_of.new.out
    c.run_turn.new.out c.in_ok-start.ensures.same c.in-Ok.counts c.in-Ok.ensures.written

pub returns-in_err-cut_back-in-Err-clause-refused : goal.returns-in_err-cut_back-in-Err-clause-refused
returns-in_err-cut_back-in-Err-clause-refused g c =
    let p = err_from_is_err_and c.from_residual-in_err-cut_back-in-Err.result c.from_residual-in_err-cut_back-in-Err.ensures.1 in
    rw (p.1, p.2)
    (uncut_refused g.F.ReadAt.fails g.F.ReadAt.bytes g.R.Input.can_give g.W.Output c.args.job c.args.files.items c.args.out.now
    c.requires.any c.cut_back.new.out c.in_err-cut_back-in-Err.field-0.0
    (c.in_err-cut_back-in-Err.ensures.fault ∙ ap (λ n. write_fault n 0) (ap length c.as_slice-number.ensures.value))
    c.in_err-cut_back-in-Err.ensures.failed)

pub returns-in_ok-cut_back-in-Err-clause-undone : goal.returns-in_ok-cut_back-in-Err-clause-undone
returns-in_ok-cut_back-in-Err-clause-undone g c =
    let O = g.W.Output in
    cut_since O c.args.out.now c.length_of.new.out c.in_ok-start.ensures.same c.run_turn.new.out c.cut_back.new.out c.in_ok-start.start
    (length_since O c.args.out.now c.length_of.new.out c.in_ok-start.ensures.same c.in_ok-start.start c.in_ok-start.ensures.length)
    c.run_turn.ensures.kept c.in_ok-cut_back-in-Err.ensures.cut

pub returns-in_ok-cut_back-in-Err-clause-decided : goal.returns-in_ok-cut_back-in-Err-clause-decided
returns-in_ok-cut_back-in-Err-clause-decided g c = λ decides.
    let O = g.W.Output in
    let before = c.args.out.now in
    let now = c.length_of.new.out in
    let starts = c.in_ok-start.ensures.same in
    let fits = subst (λ (o : Order). FilesFit g.F.ReadAt.bytes o c.args.files.items c.args.ways.now) (sym c.requires.any) c.requires.fit in
    turn_undone g.F.ReadAt.fails g.F.ReadAt.bytes g.R.Input.can_give O c.args.job c.args.files.items before c.requires.any now
    c.run_turn.new.out c.cut_back.new.out c.in_ok-start.start starts
    (length_since O before now starts c.in_ok-start.start c.in_ok-start.ensures.length)
    c.run_turn.ensures.kept c.in_ok-cut_back-in-Err.ensures.cut c.in_ok-cut_back-in-Err.ensures.lasts c.args.ways.now c.in-Err.fault
    (decided_why g.F.ReadAt.fails g.F.ReadAt.bytes g.R.Input.can_give O c.args.job c.args.files.items c.args.ways.now now
    c.run_turn.new.out c.in-Err.fault c.in-Err.ensures.refused fits decides)
