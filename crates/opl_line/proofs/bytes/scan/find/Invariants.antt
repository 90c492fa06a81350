use Rattle.std.proofs.Common.{◌≤◌, ◌-◌, length}
use Rattle.opl_line.proofs.CutLaws.{NoneBelow}
use Rattle.opl_line.proofs.bytes.scan.find.Given as goal

abbrev pub invariant-lanes : goal.invariant-lanes
invariant-lanes g l = record { within : l.seen ≤ length l.bytes; none : NoneBelow (g.C.ByteClass.has l.class) l.bytes l.seen }

abbrev pub decreases-lanes : goal.decreases-lanes
decreases-lanes g l = length l.bytes - l.seen

abbrev pub invariant-rest : goal.invariant-rest
invariant-rest g l = NoneBelow (g.C.ByteClass.has l.class) l.bytes l.index
