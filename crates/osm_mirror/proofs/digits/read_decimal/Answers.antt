use Rattle.std.proofs.Common.{◌≡◌, true, rules}
use Rattle.std.specs.Str.{all_ascii_digits}
use Rattle.osm_mirror.proofs.DigitLaws.{parsed_none}
use Rattle.osm_mirror.proofs.digits.read_decimal.Goals as goal

pub returns-in-Err-clause-none : goal.returns-in-Err-clause-none
returns-in-Err-clause-none c =
    let digits : all_ascii_digits c.args.text.now ≡ true = search rules in
    λ _ n small number. parsed_none c.args.text.now c.parse.result c.in-Err.field-0 c.parse.ensures.value.0
    digits c.in-Err.is n small number
