use Rattle.std.proofs.Common.{inl, subst}
use Rattle.std.proofs.lemmas.Result.{on_ok_weaker, IfErr-weaker, err_from_is_err_and}
use Rattle.osm_files.specs.FileRuns.{EndsWhole, StopsSource}
use Rattle.osm_files.specs.Groups.{FileCanGive}
use Rattle.osm_files.proofs.FileRunLaws.{source_sorted, source_stops}
use Rattle.osm_files.proofs.file_runs.read_sorted.Goals as goal

pub returns-in_err-source-clause-refused : goal.returns-in_err-source-clause-refused
returns-in_err-source-clause-refused g c =
    let p = err_from_is_err_and c.from_residual.result c.from_residual.ensures.1 in
    rw (p.1, p.2) (g.R.Input.one c.args.reader, g.R.Input.possible c.args.reader, inl c.in_err-source.ensures.memory)

pub returns-clause-sorted : goal.returns-clause-sorted
returns-clause-sorted g c =
    let can = g.R.Input.can_give in
    on_ok_weaker c.read_to_end-outcome.result
    (λ ends. source_sorted can 0 c.args.reader (subst (EndsWhole (FileCanGive can)) c.in_ok-source.ensures.opened ends))
    c.read_to_end-outcome.ensures.whole

pub returns-clause-refused : goal.returns-clause-refused
returns-clause-refused g c =
    let can = g.R.Input.can_give in
    IfErr-weaker c.read_to_end-outcome.result _ _
    (λ fault stops. source_stops can g.R.Input.one g.R.Input.possible 0 c.args.reader fault
    (subst (λ s. StopsSource (FileCanGive can) s fault) c.in_ok-source.ensures.opened stops))
    c.read_to_end-outcome.ensures.refused
