use Rattle.std.proofs.Common.{rules, ◌≡◌, [], ◌∷◌, inl, refl}
use Rattle.std.proofs.lemmas.Result.{err_from_is_err_and}
use Rattle.osm_files.specs.Change.{change_of}
use Rattle.osm_merge.specs.Selected.{selection_of}
use Rattle.osm_mirror.specs.run.Command.{IsWritten, IsNotWritten}
use Rattle.osm_mirror.proofs.run_laws.JobLaws.{one_written, one_refused}
use Rattle.osm_mirror.proofs.run.any_order.run_one.Goals as goal

pub returns-clause-written : goal.returns-clause-written
returns-clause-written g c =
    let one : c.push.new.self.items ≡ c.args.input ∷ [] = search rules in
    one_written g.R.Input.can_give c.push.new.self.items c.args.input one
    (λ all counts. IsWritten (selection_of c.args.selection) all c.args.format (change_of g.W.Output c.args.out.now c.run_any_order.new.out)
    counts)
    c.run_any_order.result c.run_any_order.ensures.written

pub returns-clause-refused : goal.returns-clause-refused
returns-clause-refused g c =
    let one : c.push.new.self.items ≡ c.args.input ∷ [] = search rules in
    one_refused g.R.Input.can_give c.push.new.self.items c.args.input one
    (λ all fault. IsNotWritten g.W.Output (selection_of c.args.selection) all c.args.format c.args.out.now c.run_any_order.new.out fault)
    c.run_any_order.result c.run_any_order.ensures.refused

pub returns-in_err-push-clause-refused : goal.returns-in_err-push-clause-refused
returns-in_err-push-clause-refused g c =
    let p = err_from_is_err_and c.from_residual.result c.from_residual.ensures.1 in
    rw (p.1) (g.R.Input.one c.args.input, g.R.Input.possible c.args.input, inl (p.2, refl))
