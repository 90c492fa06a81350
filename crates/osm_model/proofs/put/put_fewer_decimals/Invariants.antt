use Rattle.std.proofs.Common.{◌≡◌, ◌<◌, ◌≤◌, ◌^◌}
use Rattle.osm_model.specs.Numeral.{pad_zeros}
use Rattle.osm_model.specs.Decimal.{number_text}
use Rattle.osm_model.specs.Coordinate.{without_last_zeros}
use Rattle.osm_model.proofs.put.put_fewer_decimals.Given as goal

abbrev pub invariant-loop-digits : goal.invariant-loop-digits
invariant-loop-digits l = record {
  some : 0 < l.digits;
  fits : l.digits < 10 ^ l.places;
  narrow : l.places ≤ 7;
  same : without_last_zeros (pad_zeros l.places (number_text l.digits)) ≡ without_last_zeros (pad_zeros 7 (number_text l.units));
}

abbrev pub decreases-loop-digits : goal.decreases-loop-digits
decreases-loop-digits l = l.digits
