use Rattle.std.proofs.Common.{◌≡◌, ◌-◌, false, [], length, drop}
use Rattle.osm_files.specs.CutBack.{HoldsBefore}
use Rattle.osm_files.specs.Output.{IsAppended}
use Rattle.osm_files.proofs.buffered.Buffered.hand_over.Given as goal

abbrev pub invariant-writes : goal.invariant-writes
invariant-writes g l = IsAppended (HoldsBefore (g.O.Output.holds l.fn.self.output) (drop l.fn.self.taken l.fn.self.bytes.items))
    (HoldsBefore (g.O.Output.holds l.self.output) (drop l.self.taken l.self.bytes.items)) [] × (l.self.failed ≡ false)

abbrev pub decreases-writes : goal.decreases-writes
decreases-writes g l = length l.self.bytes.items - l.self.taken
