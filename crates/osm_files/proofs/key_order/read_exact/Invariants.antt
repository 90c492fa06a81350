use Rattle.std.proofs.Common.{◌≡◌, ◌-◌, ◌≤◌, length, take}
use Rattle.osm_files.specs.ReadAt.{AreAt}
use Rattle.osm_files.proofs.key_order.read_exact.Given as goal

abbrev pub invariant-reads : goal.invariant-reads
invariant-reads g l = (l.filled ≤ l.count) × (length l.bytes.items ≡ l.count)
    × AreAt (g.F.ReadAt.bytes l.file) l.offset (take l.filled l.bytes.items)

abbrev pub decreases-reads : goal.decreases-reads
decreases-reads g l = l.count - l.filled
