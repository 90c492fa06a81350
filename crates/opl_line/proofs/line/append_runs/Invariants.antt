use Rattle.std.proofs.Common.{◌≡◌, ◌++◌, length}
use Rattle.osm_model.specs.Cursor.{after_chunk, remaining_bytes}
use Rattle.opl_line.proofs.line.append_runs.Given as goal

abbrev pub invariant-loop-bytes : goal.invariant-loop-bytes
invariant-loop-bytes l = l.out.items ++ after_chunk l.bytes ≡ l.fn.out.items ++ remaining_bytes l.fn.bytes

abbrev pub decreases-loop-bytes : goal.decreases-loop-bytes
decreases-loop-bytes l = length (after_chunk l.bytes)
