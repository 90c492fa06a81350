use Rattle.std.proofs.Common.{refl, arith, rules}
use Rattle.osm_model.specs.Coordinate.{fraction_text}
use Rattle.osm_model.proofs.CoordinateLaws.{fraction_is}
use Rattle.osm_model.proofs.put.put_fraction.Goals as goal

pub returns-then-units-ne0-clause-written : goal.returns-then-units-ne0-clause-written
returns-then-units-ne0-clause-written c =
    let is = fraction_is 7 c.args.units c.args.units (omega arith) (omega arith) c.if-units-ne0.true refl in
    rw is (search rules)

pub returns-then-units-eq0-clause-written : goal.returns-then-units-eq0-clause-written
unfolding fraction_text
returns-then-units-eq0-clause-written c = rw c.if-units-eq0.true (search rules)
