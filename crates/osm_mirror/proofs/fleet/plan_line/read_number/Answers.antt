use Rattle.std.proofs.Common.{◌≡◌, ◌≤◌, true, length, refl, arith, rules}
use Rattle.std.specs.Str.{all_ascii_digits}
use Rattle.osm_mirror.proofs.fleet_laws.PlanLineLaws.{parsed_none}
use Rattle.osm_mirror.proofs.fleet.plan_line.read_number.Goals as goal

pub returns-in-Err-clause-none : goal.returns-in-Err-clause-none
returns-in-Err-clause-none c =
    let digits : all_ascii_digits c.args.word.now ≡ true = search rules in
    let few : length c.args.word.now ≤ 9 = omega arith in
    (refl, parsed_none c.args.word.now c.parse.result c.in-Err.field-0 c.parse.ensures.value.0 digits few c.in-Err.is)
