use Rattle.std.proofs.Common.{◌≡◌, get_or, arith, rules}
use Rattle.osm_model.specs.declared.escaped.TheConstants.{DIGIT_VALUES}
use Rattle.osm_model.proofs.HexLaws.{digit_of_value}
use Rattle.osm_model.proofs.escaped.digit_value.Goals as goal

pub returns-then-value-lt16 : goal.returns-then-value-lt16
returns-then-value-lt16 c =
    let value : get_or DIGIT_VALUES c.args.digit 0 ≡ c.from-then-value-lt16.result = search rules in
    (omega arith, digit_of_value c.args.digit c.from-then-value-lt16.result (omega arith) value (omega arith))
