use Rattle.std.proofs.Common.{◌≡◌, ◌++◌, ◌/◌, ◌%◌, drop, arith, rules, ap, ◌∙◌}
use Rattle.osm_model.specs.Time.{date_text}
use Rattle.osm_model.proofs.DecimalLaws.{padded_pair, padded_pairs}
use Rattle.osm_model.proofs.put.put_date.Goals as goal

pub returns-clause-written : goal.returns-clause-written
unfolding date_text
returns-clause-written c =
    let date = c.from_day-date.result in
    let year = c.from_day-date.ensures.year in
    let rest = drop c.args.end c.args.buffer.now in
    let written : drop c.put.result c.put.new.buffer ≡ date_text date ++ rest =
    rw (
      padded_pairs date.year,
      padded_pair (date.year / 100) (omega arith),
      padded_pair (date.year % 100) (omega arith),
      padded_pair date.month (omega arith),
      padded_pair date.day (omega arith),
    ) (search rules) in
    written ∙ ap (λ date. date_text date ++ rest) c.from_day-date.ensures.value
