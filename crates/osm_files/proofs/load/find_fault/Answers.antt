use Rattle.std.proofs.Common.{OnOk, IfErr, subst}
use Rattle.osm_files.specs.EndRule.{by_test}
use Rattle.osm_files.specs.Input.{InputRest, GivesOne}
use Rattle.osm_files.specs.Load.{IsAcceptedWhole, StopsLoading}
use Rattle.osm_files.specs.Position.{Position}
use Rattle.osm_files.proofs.EndedLaws.{rest_by_rule}
use Rattle.osm_files.proofs.load.find_fault.Goals as goal

pub returns-clause-whole : goal.returns-clause-whole
returns-clause-whole g c =
    let can = g.R.Input.can_give c.args.reader in
    let read = c.read_units-read.result in
    subst (λ (f : InputRest → InputRest). OnOk read (GivesOne can (λ d. IsAcceptedWhole c.args.input (f d))))
    (λ i d. rest_by_rule c.args.end d i)
    (subst (λ (p : Position _). OnOk read (GivesOne (g.R.Input.can_give p.rest) (λ d. IsAcceptedWhole p.input (by_test p.end d))))
    c.new-reading.ensures c.read_units-read.ensures.whole)

pub returns-clause-refused : goal.returns-clause-refused
returns-clause-refused g c =
    let can = g.R.Input.can_give c.args.reader in
    let read = c.read_units-read.result in
    subst (λ (f : InputRest → InputRest). IfErr read (λ fault. GivesOne can (λ d. StopsLoading c.args.input (f d) fault)))
    (λ i d. rest_by_rule c.args.end d i)
    (subst (λ (p : Position _). IfErr read (λ fault. GivesOne (g.R.Input.can_give p.rest)
    (λ d. StopsLoading p.input (by_test p.end d) fault)))
    c.new-reading.ensures c.read_units-read.ensures.refused)
