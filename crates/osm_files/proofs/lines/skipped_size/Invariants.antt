use Rattle.std.proofs.Common.{◌-◌, ◌≤◌, length}
use Rattle.osm_files.specs.Lines.{AreSkipped}
use Rattle.osm_files.proofs.lines.skipped_size.Given as goal

abbrev pub invariant-lines : goal.invariant-lines
invariant-lines l = (l.read ≤ length l.bytes) × AreSkipped l.bytes l.read

abbrev pub decreases-lines : goal.decreases-lines
decreases-lines l = length l.bytes - l.read
