use Rattle.std.proofs.Common.{◌-◌, length}
use Rattle.osm_files.proofs.KeyOrderLaws.{ReadTo}
use Rattle.osm_files.proofs.key_order.read_lines.Given as goal

abbrev pub invariant-lines : goal.invariant-lines
invariant-lines l = ReadTo l.window l.lines.last l.read l.last

abbrev pub decreases-lines : goal.decreases-lines
decreases-lines l = length l.window - l.read
