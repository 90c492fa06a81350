use Rattle.std.proofs.Common.{◌≡◌, ◌∙◌, Bool, false, sym, ap, subst, inl, map, slice_get, IfErr}
use Rattle.std.proofs.lemmas.Bool.{false≢true}
use Rattle.std.proofs.lemmas.Result.{err_from_is_err_and, IfErr-weaker}
use Rattle.std.specs.List.{All}
use Rattle.osm_mirror.specs.declared.run.files_job.Order.{Order}
use Rattle.osm_mirror.specs.declared.run.files_job.Order.TheVariants.{Any}
use Rattle.osm_mirror.specs.run.FilesJob.{FilesFit, opened_of, EndsByRule}
use Rattle.osm_mirror.specs.run.FilesRefusal.{AreRefusedByRule, AreSound, FindsFirst}
use Rattle.osm_mirror.proofs.run_laws.FirstFaultLaws.{first_refuses}
use Rattle.osm_mirror.proofs.run_laws.TurnLaws.{refused_first, sorted_refused}
use Rattle.osm_mirror.proofs.run_laws.WayLaws.{not_any}
use Rattle.osm_mirror.proofs.run.files_job.run_files.Goals as goal
use Rattle.osm_mirror.proofs.run.files_job.run_files.Goals.{then-not-can_be_cut_back+in_ok-refuse_faulty, else-not-can_be_cut_back}

pub returns-in_err-ways-clause-refused : goal.returns-in_err-ways-clause-refused
returns-in_err-ways-clause-refused g c =
    let p = err_from_is_err_and c.from_residual.result c.from_residual.ensures.1 in
    rw (p.1, p.2)
    (refused_first g.F.ReadAt.fails g.F.ReadAt.bytes g.R.Input.can_give g.W.Output c.args.job c.args.files.items c.args.out.now
    (g.W.CutBackOutput.can_cut c.args.out.now) c.in_err-ways.field-0.0
    (subst (λ fs. AreRefusedByRule g.F.ReadAt.fails g.F.ReadAt.bytes g.R.Input.can_give c.args.job.order fs c.in_err-ways.field-0.0)
    c.as_slice.ensures.value c.in_err-ways.ensures.refused))

pub returns-in_err-refuse_cut-clause-refused : goal.returns-in_err-refuse_cut-clause-refused
returns-in_err-refuse_cut-clause-refused g c =
    let p = err_from_is_err_and c.from_residual-in_err-refuse_cut.result c.from_residual-in_err-refuse_cut.ensures.1 in
    rw (p.1, p.2)
    (refused_first g.F.ReadAt.fails g.F.ReadAt.bytes g.R.Input.can_give g.W.Output c.args.job c.args.files.items c.args.out.now
    (g.W.CutBackOutput.can_cut c.args.out.now) c.in_err-refuse_cut.field-0.0
    (subst (λ fs. AreRefusedByRule g.F.ReadAt.fails g.F.ReadAt.bytes g.R.Input.can_give c.args.job.order fs c.in_err-refuse_cut.field-0.0)
    c.as_slice-2.ensures.value c.in_err-refuse_cut.ensures.refused))

pub returns-in_err-refuse_faulty-clause-refused : goal.returns-in_err-refuse_faulty-clause-refused
returns-in_err-refuse_faulty-clause-refused g c =
    let any = c.is_any.ensures.0 c.if-not-is_any.false in
    let p = err_from_is_err_and c.from_residual-in_err-refuse_faulty.result c.from_residual-in_err-refuse_faulty.ensures.1 in
    rw (p.1, p.2)
    (refused_first g.F.ReadAt.fails g.F.ReadAt.bytes g.R.Input.can_give g.W.Output c.args.job c.args.files.items c.args.out.now
    (g.W.CutBackOutput.can_cut c.args.out.now) c.in_err-refuse_faulty.field-0.0
    (subst (λ (o : Order). AreRefusedByRule g.F.ReadAt.fails g.F.ReadAt.bytes g.R.Input.can_give o c.args.files.items
    c.in_err-refuse_faulty.field-0.0) (sym any)
    (subst (λ fs. AreRefusedByRule g.F.ReadAt.fails g.F.ReadAt.bytes g.R.Input.can_give Any fs c.in_err-refuse_faulty.field-0.0)
    c.as_slice-then-not-can_be_cut_back.ensures.value c.in_err-refuse_faulty.ensures.refused)))

pub returns-in_err-opened-clause-refused : goal.returns-in_err-opened-clause-refused
returns-in_err-opened-clause-refused g c =
    let p = err_from_is_err_and c.from_residual-in_err-opened.result c.from_residual-in_err-opened.ensures.1 in
    rw (p.1, p.2)
    (refused_first g.F.ReadAt.fails g.F.ReadAt.bytes g.R.Input.can_give g.W.Output c.args.job c.args.files.items c.args.out.now
    (g.W.CutBackOutput.can_cut c.args.out.now) c.in_err-opened.field-0.0 (inl c.in_err-opened.ensures.memory))

pub run_any_order-requires : goal.run_any_order-requires
run_any_order-requires g c =
    let any = c.is_any.ensures.0 c.if-not-is_any.false in
    record {
      any = any;
      fit = subst (λ (o : Order). FilesFit g.F.ReadAt.bytes o c.args.files.items c.in_ok-ways.ways.items) any
          (subst (λ fs. FilesFit g.F.ReadAt.bytes c.args.job.order fs c.in_ok-ways.ways.items) c.as_slice.ensures.value
          c.in_ok-ways.ensures.fit);
      sound = λ cannot. elim c.if-not-can_be_cut_back.branch [
        | then-not-can_be_cut_back+in_ok-refuse_faulty w ↦ subst (All (AreSound g.F.ReadAt.bytes))
            w.as_slice-then-not-can_be_cut_back.ensures.value w.in_ok-refuse_faulty.ensures.sound
        | else-not-can_be_cut_back w ↦
            absurd (false≢true (sym cannot ∙ sym c.can_be_cut_back.ensures ∙ w.if-not-can_be_cut_back.false))
      ];
    }

pub returns-clause-refused : goal.returns-clause-refused
returns-clause-refused g c =
    let any = c.is_any.ensures.0 c.if-not-is_any.false in
    let opened = c.as_slice-in-Err.ensures.value ∙ c.in_ok-opened.ensures.opened ∙ ap (map opened_of) c.as_slice-3.ensures.value in
    first_refuses g.F.ReadAt.fails g.F.ReadAt.bytes g.R.Input.can_give g.W.Output (g.W.CutBackOutput.can_cut c.args.out.now) c.args.job
    c.args.files.items c.args.out.now c.run_any_order.new.out any
    (λ cannot. elim c.if-not-can_be_cut_back.branch [
      | then-not-can_be_cut_back+in_ok-refuse_faulty w ↦ subst (All (AreSound g.F.ReadAt.bytes))
          w.as_slice-then-not-can_be_cut_back.ensures.value w.in_ok-refuse_faulty.ensures.sound
      | else-not-can_be_cut_back w ↦
          absurd (false≢true (sym cannot ∙ sym c.can_be_cut_back.ensures ∙ w.if-not-can_be_cut_back.false))
    ])
    c.in-Err.fault c.first_fault.result (λ memory. c.first_fault.ensures.memory memory)
    (subst (λ xs. FindsFirst g.F.ReadAt.fails g.F.ReadAt.bytes (slice_get xs c.in-Err.fault.input) c.in-Err.fault c.first_fault.result)
    opened c.first_fault.ensures.first)
    c.in-Err.ensures.refused

pub run_turn-requires : goal.run_turn-requires
run_turn-requires g c = record {
  fit = subst (FilesFit g.F.ReadAt.bytes c.args.job.order c.args.files.items) (sym c.as_slice-then-not-is_any.ensures.value)
      (subst (λ fs. FilesFit g.F.ReadAt.bytes c.args.job.order fs c.in_ok-ways.ways.items) c.as_slice.ensures.value
      c.in_ok-ways.ensures.fit);
}

pub returns-then-not-is_any-clause-refused : goal.returns-then-not-is_any-clause-refused
returns-then-not-is_any-clause-refused g c =
    let sorted = not_any c.args.job.order (λ any. false≢true (sym c.if-not-is_any.true ∙ c.is_any.ensures.1 any)) in
    let fits = subst (FilesFit g.F.ReadAt.bytes c.args.job.order c.args.files.items) (sym c.as_slice-then-not-is_any.ensures.value)
    (subst (λ fs. FilesFit g.F.ReadAt.bytes c.args.job.order fs c.in_ok-ways.ways.items) c.as_slice.ensures.value
    c.in_ok-ways.ensures.fit) in
    let ended = subst (All (EndsByRule g.F.ReadAt.bytes)) c.as_slice-2.ensures.value c.in_ok-refuse_cut.ensures.ended in
    IfErr-weaker c.run_turn.result _ _
    (λ fault refused. sorted_refused g.F.ReadAt.fails g.F.ReadAt.bytes g.R.Input.can_give g.W.Output c.args.job c.args.files.items
    c.args.out.now (g.W.CutBackOutput.can_cut c.args.out.now) c.as_slice-then-not-is_any.result.now c.run_turn.new.out fault sorted
    fits ended refused)
    c.run_turn.ensures.refused
