use Rattle.std.proofs.Common.{◌≡◌, ◌≤◌, ◌+◌, ◌++◌, length, drop}
use Rattle.osm_model.specs.Numeral.{numeral}
use Rattle.osm_model.proofs.put.put_hex.Given as goal

abbrev pub invariant-loop-rest : goal.invariant-loop-rest
invariant-loop-rest l = record {
  written : numeral 16 l.number ++ drop l.fn.end l.fn.buffer ≡ numeral 16 l.rest ++ drop l.start l.buffer;
  start : l.fn.end + length (numeral 16 l.rest) ≡ l.start + length (numeral 16 l.number);
  onward : l.start ≤ l.fn.end;
  size : length l.buffer ≡ length l.fn.buffer;
}

abbrev pub decreases-loop-rest : goal.decreases-loop-rest
decreases-loop-rest l = l.rest
