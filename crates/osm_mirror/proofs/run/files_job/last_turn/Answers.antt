use Rattle.std.proofs.Common.{inl, sym, subst, refl}
use Rattle.std.proofs.lemmas.Result.{err_from_is_err_and, IfErr-weaker}
use Rattle.osm_mirror.specs.declared.run.files_job.Order.TheVariants.{Any}
use Rattle.osm_mirror.specs.run.FilesJob.{FilesFit}
use Rattle.osm_mirror.specs.run.FilesRefusal.{AreRefused, AreSettled}
use Rattle.osm_mirror.proofs.run_laws.TurnLaws.{stands_itself, file_refused}
use Rattle.osm_mirror.proofs.run.files_job.last_turn.Goals as goal

pub returns-in_err-settled-clause-refused : goal.returns-in_err-settled-clause-refused
returns-in_err-settled-clause-refused g c =
    let p = err_from_is_err_and c.from_residual.result c.from_residual.ensures.1 in
    rw (p.1, p.2)
    (file_refused g.F.ReadAt.fails g.F.ReadAt.bytes g.R.Input.can_give g.W.Output c.args.job c.args.files.items c.args.out.now
    c.requires.any c.args.out.now c.in_err-settled.field-0.0 (stands_itself g.W.Output c.args.out.now)
    (subst (λ fs. AreRefused g.F.ReadAt.fails g.F.ReadAt.bytes g.R.Input.can_give Any fs c.in_err-settled.field-0.0)
    c.as_slice.ensures.value c.in_err-settled.ensures.refused))

pub run_or_undo-requires : goal.run_or_undo-requires
run_or_undo-requires g c = record {
  any = c.requires.any;
  fit = subst (FilesFit g.F.ReadAt.bytes Any c.args.files.items) (sym c.as_slice-2.ensures.value)
      (subst (λ fs. FilesFit g.F.ReadAt.bytes Any fs c.in_ok-settled.settled.items) c.as_slice.ensures.value
      c.in_ok-settled.ensures.fit);
}

pub returns-clause-refused : goal.returns-clause-refused
returns-clause-refused g c =
    let settled = subst AreSettled (sym c.as_slice-2.ensures.value) (c.in_ok-settled.ensures.settled refl) in
    IfErr-weaker c.in_ok-run_or_undo.field-0 _ _ (λ fault decided. decided (inl settled)) c.in_ok-run_or_undo.ensures.decided
