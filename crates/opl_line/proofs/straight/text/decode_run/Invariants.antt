use Rattle.std.proofs.Common.{◌≡◌, ◌≤◌, ◌<◌, length, take}
use Rattle.opl_line.specs.Straight.{IsRun}
use Rattle.opl_line.proofs.straight.text.decode_run.Given as goal

abbrev pub invariant-escapes : goal.invariant-escapes
invariant-escapes l = record {
  run : IsRun l.text (take l.count l.buffer) l.rest;
  within : l.count ≤ length l.buffer;
  shorter : 0 < l.count → length l.rest < length l.text;
  onward : length l.rest ≤ length l.text;
  size : length l.buffer ≡ 64;
}

abbrev pub decreases-escapes : goal.decreases-escapes
decreases-escapes l = length l.rest
