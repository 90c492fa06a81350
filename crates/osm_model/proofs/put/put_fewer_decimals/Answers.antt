use Rattle.std.proofs.Common.{sym, ◌∙◌, rules, append_assoc}
use Rattle.osm_model.proofs.CoordinateLaws.{fraction_next, fraction_is}
use Rattle.osm_model.proofs.put.put_fewer_decimals.Goals as goal

pub loop-digits-preserved : goal.loop-digits-preserved
loop-digits-preserved c =
    let next = fraction_next c.loop-digits.places c.loop-digits.digits c.loop-digits.invariant.some c.loop-digits.invariant.fits
    c.loop-digits-test.true in
    record {
      some = next.0;
      fits = next.1;
      narrow = search rules;
      same = sym next.2 ∙ c.loop-digits.invariant.same;
    }

pub returns-clause-written : goal.returns-clause-written
returns-clause-written c =
    let is = fraction_is c.loop-digits.places c.loop-digits.digits c.args.units
    (search rules) c.loop-digits.invariant.fits c.loop-digits-test.false c.loop-digits.invariant.same in
    rw is (search (rules, append_assoc))
