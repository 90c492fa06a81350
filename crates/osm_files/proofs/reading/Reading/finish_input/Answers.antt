use Rattle.std.proofs.Common.{ap}
use Rattle.std.proofs.lemmas.Result.{err_from_is_err_and}
use Rattle.osm_files.proofs.ReaderLaws.{cut_refused}
use Rattle.osm_files.proofs.reading.Reading.finish_input.Goals as goal

pub returns-in_err-check_end-clause-step : goal.returns-in_err-check_end-clause-step
returns-in_err-check_end-clause-step g c =
    let p = c.args.self.now in
    let e = err_from_is_err_and c.from_residual.result c.from_residual.ensures.1 in
    rw (e.1, e.2) (cut_refused g.R.Input.can_give p c.check_end.new.self c.in_err-check_end.field-0.0 c.requires.good
    (ap (λ v. v.failed) c.in_err-check_end.ensures.failed) c.requires.nothing c.requires.bound c.requires.ended
    c.in_err-check_end.ensures.lacks c.in_err-check_end.ensures.fault (g.R.Input.one p.rest) (g.R.Input.possible p.rest))
