use Rattle.std.proofs.Common.{length, ◌-◌, ◌≤◌, take}
use Rattle.opl_line.specs.Straight.{AreRaw}
use Rattle.opl_line.proofs.straight.text.split_raw.Given as goal

abbrev pub invariant-characters : goal.invariant-characters
invariant-characters l = (l.end ≤ length l.text) × AreRaw (take l.end l.text)

abbrev pub decreases-characters : goal.decreases-characters
decreases-characters l = length l.text - l.end
