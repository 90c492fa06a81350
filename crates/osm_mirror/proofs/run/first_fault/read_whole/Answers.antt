use Rattle.std.proofs.lemmas.Result.{on_ok_weaker}
use Rattle.osm_files.specs.EndRule.{by_rule}
use Rattle.osm_files.specs.Input.{GivesOne}
use Rattle.osm_files.specs.Load.{IsAcceptedWhole}
use Rattle.osm_files.proofs.LoadLaws.{accepted_given}
use Rattle.osm_mirror.proofs.run.first_fault.read_whole.Goals as goal

pub returns-in-Ok-clause-whole : goal.returns-in-Ok-clause-whole
returns-in-Ok-clause-whole g c =
    let given = c.in-Ok.ensures.checked in
    let report = given.2.report in
    rw c.in-Sorted.is (given.0, given.1, (report.file.unbroken, (report.held, report.sorted.0 c.in-Ok.ensures.sorted)))

pub returns-in-Any-clause-whole : goal.returns-in-Any-clause-whole
returns-in-Any-clause-whole g c =
    rw c.in-Any.is (on_ok_weaker c.find_fault.result
    (λ (given : GivesOne (g.R.Input.can_give c.args.reader) (λ d. IsAcceptedWhole 0 (by_rule c.args.end d))).
    (given.0, given.1, accepted_given 0 (by_rule c.args.end given.0) given.2)) c.find_fault.ensures.whole)
