use Rattle.std.proofs.Common.{◌/◌, ◌%◌, arith, rules}
use Rattle.osm_model.proofs.DecimalLaws.{padded_pair, padded_seven}
use Rattle.osm_model.proofs.put.put_seven_decimals.Goals as goal

pub returns-clause-written : goal.returns-clause-written
returns-clause-written c =
    let units = c.args.units in
    rw (
      padded_seven units,
      padded_pair (units / 100_000) (omega arith),
      padded_pair (units / 1000 % 100) (omega arith),
      padded_pair (units / 10 % 100) (omega arith),
    ) (search rules)
