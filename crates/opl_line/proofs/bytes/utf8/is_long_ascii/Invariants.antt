use Rattle.std.proofs.Common.{◌≤◌, ◌-◌, length}
use Rattle.opl_line.proofs.AsciiLaws.{AsciiBetween}
use Rattle.opl_line.proofs.bytes.utf8.is_long_ascii.Given as goal

abbrev pub invariant-lanes : goal.invariant-lanes
invariant-lanes l = record { within : l.seen ≤ length l.line; ascii : AsciiBetween l.line 0 l.seen }

abbrev pub decreases-lanes : goal.decreases-lanes
decreases-lanes l = length l.line - l.seen
