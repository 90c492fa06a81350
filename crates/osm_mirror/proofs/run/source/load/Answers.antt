use Rattle.std.proofs.lemmas.Result.{err_from_is_err_and}
use Rattle.osm_mirror.proofs.run_laws.SourceLaws.{load_opens, load_stops}
use Rattle.osm_mirror.proofs.run.source.load.Goals as goal

pub returns-clause-opened : goal.returns-clause-opened
returns-clause-opened g c = load_opens g.R.Input.can_give c.args.file.end c.args.input c.args.file.reader c.in_ok-loaded.loaded
    c.new.result c.new.ensures
    c.in_ok-loaded.ensures.loaded

pub returns-in_err-loaded-clause-refused : goal.returns-in_err-loaded-clause-refused
returns-in_err-loaded-clause-refused g c =
    let p = err_from_is_err_and c.from_residual.result c.from_residual.ensures.1 in
    rw (p.1, p.2) (load_stops g.R.Input.can_give c.args.file.end c.args.input c.args.file.reader c.in_err-loaded.field-0.0
    c.in_err-loaded.ensures.refused)
