use Rattle.std.proofs.Common.{◌≡◌, ◌∙◌, sym, subst, ap, inl, Ok, None, IfSome}
use Rattle.std.proofs.lemmas.Result.{err_from_is_err_and, IfOk-weaker, IfErr-weaker}
use Rattle.osm_mirror.specs.declared.run.files_job.Order.TheVariants.{Any}
use Rattle.osm_mirror.specs.run.FilesJob.{FilesFit}
use Rattle.osm_mirror.specs.run.FilesRefusal.{AreRefused, NothingStands}
use Rattle.osm_mirror.proofs.run_laws.TurnLaws.{stands_itself, file_refused, refused_since, job_since}
use Rattle.osm_mirror.proofs.run.files_job.run_again.Goals as goal
use Rattle.osm_mirror.proofs.run.files_job.run_again.Goals.{in-Some+in_ok-made+in_default-made, in_default}

pub returns-in_err-ways-clause-refused : goal.returns-in_err-ways-clause-refused
returns-in_err-ways-clause-refused g c =
    let p = err_from_is_err_and c.from_residual.result c.from_residual.ensures.1 in
    rw (p.1, p.2)
    (file_refused g.F.ReadAt.fails g.F.ReadAt.bytes g.R.Input.can_give g.W.Output c.args.job c.args.files.items c.args.out.now
    c.requires.any c.args.out.now c.in_err-ways.field-0.0 (stands_itself g.W.Output c.args.out.now)
    (subst (λ fs. AreRefused g.F.ReadAt.fails g.F.ReadAt.bytes g.R.Input.can_give Any fs c.in_err-ways.field-0.0)
    c.as_slice-3.ensures.value c.in_err-ways.ensures.refused))

pub returns-in_err-again-clause-refused : goal.returns-in_err-again-clause-refused
returns-in_err-again-clause-refused g c =
    let p = err_from_is_err_and c.from_residual-in_err-again.result c.from_residual-in_err-again.ensures.1 in
    rw (p.1, p.2)
    (file_refused g.F.ReadAt.fails g.F.ReadAt.bytes g.R.Input.can_give g.W.Output c.args.job c.args.files.items c.args.out.now
    c.requires.any c.args.out.now c.in_err-again.field-0.0 (stands_itself g.W.Output c.args.out.now)
    (inl c.in_err-again.ensures.memory))

pub try_turn-requires : goal.try_turn-requires
try_turn-requires g c =
    let fits = subst (λ fs. FilesFit g.F.ReadAt.bytes Any fs c.in_ok-ways.ways.items) c.as_slice-3.ensures.value c.in_ok-ways.ensures.fit in
    let same : c.in-Some.again.items ≡ c.args.files.items =
    subst (λ o. IfSome o (λ copies. copies.items ≡ c.as_slice-4.result.now)) c.in-Some.is c.in_ok-again.ensures.same
    ∙ c.as_slice-4.ensures.value in
    record {
      any = c.requires.any;
      fit = subst (FilesFit g.F.ReadAt.bytes Any c.in-Some.again.items) (sym c.as_slice-in-Some.ensures.value)
          (subst (λ fs. FilesFit g.F.ReadAt.bytes Any fs c.in_ok-ways.ways.items) (sym same) fits);
    }

pub last_turn-requires : goal.last_turn-requires
last_turn-requires g c = record {
  any = c.requires.any;
  fit = subst (λ fs. FilesFit g.F.ReadAt.bytes Any fs c.in_ok-ways.ways.items) c.as_slice-3.ensures.value c.in_ok-ways.ensures.fit;
}

pub returns-clause-refused : goal.returns-clause-refused
returns-clause-refused g c =
    let O = g.W.Output in
    let starts : NothingStands O c.args.out.now c.match-branch-3.out = elim c.match-branch-3.branch [
      | in-Some+in_ok-made+in_default-made w ↦ subst (NothingStands O c.args.out.now) (sym w.out-is)
          (w.try_turn.ensures.undone (w.in_ok-made.was ∙ ap Ok w.in_default-made.is))
      | in_default w ↦ subst (NothingStands O c.args.out.now) (sym w.out-is) (stands_itself O c.args.out.now)
    ] in
    IfErr-weaker c.last_turn.result _ _
    (λ fault refused. refused_since g.F.ReadAt.fails g.F.ReadAt.bytes g.R.Input.can_give O c.args.job c.args.files.items
    c.args.out.now c.requires.any c.match-branch-3.out c.last_turn.new.out fault starts refused)
    c.last_turn.ensures.refused

pub returns-clause-written : goal.returns-clause-written
returns-clause-written g c =
    let O = g.W.Output in
    let starts : NothingStands O c.args.out.now c.match-branch-3.out = elim c.match-branch-3.branch [
      | in-Some+in_ok-made+in_default-made w ↦ subst (NothingStands O c.args.out.now) (sym w.out-is)
          (w.try_turn.ensures.undone (w.in_ok-made.was ∙ ap Ok w.in_default-made.is))
      | in_default w ↦ subst (NothingStands O c.args.out.now) (sym w.out-is) (stands_itself O c.args.out.now)
    ] in
    IfOk-weaker c.last_turn.result _ _
    (λ counts is. job_since g.F.ReadAt.bytes g.R.Input.can_give O c.args.job c.args.files.items c.args.out.now c.match-branch-3.out
    c.last_turn.new.out starts counts is)
    c.last_turn.ensures.written
