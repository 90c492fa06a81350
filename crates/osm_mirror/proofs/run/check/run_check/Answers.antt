use Rattle.osm_mirror.proofs.run.check.run_check.Goals as goal

pub returns-clause-report : goal.returns-clause-report
returns-clause-report g c =
    let given = c.in_ok-run_tally.ensures.checked in
    (given.0, given.1, given.2.report)
