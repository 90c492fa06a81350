use Rattle.std.proofs.Common.{◌∙◌, Bool, sym, subst}
use Rattle.std.proofs.lemmas.Bool.{false≢true}
use Rattle.std.proofs.lemmas.Result.{IfErr-weaker}
use Rattle.osm_mirror.specs.run.FilesRefusal.{RefusesAnyOrder}
use Rattle.osm_mirror.proofs.run.files_job.run_any_order.Goals as goal

pub returns-then-can_be_cut_back-clause-refused : goal.returns-then-can_be_cut_back-clause-refused
returns-then-can_be_cut_back-clause-refused g c =
    let can = sym c.can_be_cut_back.ensures ∙ c.if-can_be_cut_back.true in
    IfErr-weaker c.run_again.result _ _
    (λ fault refused. subst (λ (t : Bool). RefusesAnyOrder g.F.ReadAt.fails g.F.ReadAt.bytes g.R.Input.can_give g.W.Output t c.args.job
    c.args.files.items c.args.out.now c.run_again.new.out fault) (sym can) refused)
    c.run_again.ensures.refused

pub returns-then-can_be_cut_back-clause-kept : goal.returns-then-can_be_cut_back-clause-kept
returns-then-can_be_cut_back-clause-kept g c = λ cannot.
    absurd (false≢true (sym cannot ∙ sym c.can_be_cut_back.ensures ∙ c.if-can_be_cut_back.true))

pub run_once-requires : goal.run_once-requires
run_once-requires g c = record {
  any = c.requires.any;
  fit = c.requires.fit;
  sound = c.requires.sound (sym c.can_be_cut_back.ensures ∙ c.if-can_be_cut_back.false);
}

pub returns-else-can_be_cut_back-clause-refused : goal.returns-else-can_be_cut_back-clause-refused
returns-else-can_be_cut_back-clause-refused g c =
    let cannot = sym c.can_be_cut_back.ensures ∙ c.if-can_be_cut_back.false in
    IfErr-weaker c.run_once.result _ _
    (λ fault refused. subst (λ (t : Bool). RefusesAnyOrder g.F.ReadAt.fails g.F.ReadAt.bytes g.R.Input.can_give g.W.Output t c.args.job
    c.args.files.items c.args.out.now c.run_once.new.out fault) (sym cannot) refused)
    c.run_once.ensures.refused
