use Rattle.std.proofs.Common.{sym, subst, refl}
use Rattle.std.proofs.lemmas.Result.{err_from_is_err_and, IfErr-weaker}
use Rattle.osm_mirror.specs.declared.run.files_job.Order.{Order}
use Rattle.osm_mirror.specs.declared.run.files_job.Order.TheVariants.{Any}
use Rattle.osm_mirror.specs.run.FilesJob.{FilesFit}
use Rattle.osm_mirror.specs.run.FilesRefusal.{AreRefused, AreSettled}
use Rattle.osm_mirror.proofs.run_laws.TurnLaws.{before_refused, once_refused}
use Rattle.osm_mirror.proofs.run.files_job.run_once.Goals as goal

pub returns-in_err-settled-clause-refused : goal.returns-in_err-settled-clause-refused
returns-in_err-settled-clause-refused g c =
    let p = err_from_is_err_and c.from_residual.result c.from_residual.ensures.1 in
    rw (p.1, p.2)
    (before_refused g.F.ReadAt.fails g.F.ReadAt.bytes g.R.Input.can_give g.W.Output c.args.job c.args.files.items c.args.out.now
    c.requires.any c.in_err-settled.field-0.0
    (subst (λ fs. AreRefused g.F.ReadAt.fails g.F.ReadAt.bytes g.R.Input.can_give Any fs c.in_err-settled.field-0.0)
    c.as_slice.ensures.value c.in_err-settled.ensures.refused))

pub run_turn-requires : goal.run_turn-requires
run_turn-requires g c = record {
  fit = subst (FilesFit g.F.ReadAt.bytes c.args.job.order c.args.files.items) (sym c.as_slice-2.ensures.value)
      (subst (λ (o : Order). FilesFit g.F.ReadAt.bytes o c.args.files.items c.in_ok-settled.settled.items) (sym c.requires.any)
      (subst (λ fs. FilesFit g.F.ReadAt.bytes Any fs c.in_ok-settled.settled.items) c.as_slice.ensures.value
      c.in_ok-settled.ensures.fit));
}

pub returns-clause-refused : goal.returns-clause-refused
returns-clause-refused g c =
    let files = c.args.files.items in
    let ways = c.as_slice-2.result.now in
    let fits = subst (FilesFit g.F.ReadAt.bytes Any files) (sym c.as_slice-2.ensures.value)
    (subst (λ fs. FilesFit g.F.ReadAt.bytes Any fs c.in_ok-settled.settled.items) c.as_slice.ensures.value c.in_ok-settled.ensures.fit) in
    let settled = subst AreSettled (sym c.as_slice-2.ensures.value) (c.in_ok-settled.ensures.settled refl) in
    IfErr-weaker c.run_turn.result _ _
    (λ fault turn. once_refused g.F.ReadAt.fails g.F.ReadAt.bytes g.R.Input.can_give g.W.Output c.args.job files c.args.out.now
    c.requires.any ways c.run_turn.new.out fault fits settled c.requires.sound turn)
    c.run_turn.ensures.refused
