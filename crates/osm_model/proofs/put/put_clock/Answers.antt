use Rattle.std.proofs.Common.{◌/◌, ◌%◌, arith, rules}
use Rattle.osm_model.specs.Time.{clock_text}
use Rattle.osm_model.proofs.DecimalLaws.{padded_pair}
use Rattle.osm_model.proofs.put.put_clock.Goals as goal

pub returns-clause-written : goal.returns-clause-written
unfolding clock_text
returns-clause-written c =
    let second = c.args.second in
    rw (padded_pair (second / 3600) (omega arith), padded_pair (second / 60 % 60) (omega arith), padded_pair (second % 60) (omega arith))
    (search rules)
