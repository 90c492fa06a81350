use Rattle.std.proofs.Common.{◌≡◌, ◌+◌, ◌++◌, length, drop, replicate}
use Rattle.osm_model.proofs.put.put_zeros.Given as goal

abbrev pub invariant-loop-place : goal.invariant-loop-place
invariant-loop-place l = record {
  written : drop l.start l.buffer ≡ replicate l._place 48 ++ drop l.fn.end l.fn.buffer;
  start : l.start + l._place ≡ l.fn.end;
  size : length l.buffer ≡ length l.fn.buffer;
}
