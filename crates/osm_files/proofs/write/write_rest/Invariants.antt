use Rattle.std.proofs.Common.{◌≡◌, ◌-◌, ◌<◌, ◌≤◌, false, length, take}
use Rattle.osm_files.specs.Output.{Appends, FailingLasts}
use Rattle.osm_files.specs.Change.{change_of}
use Rattle.osm_files.proofs.write.write_rest.Given as goal

abbrev pub invariant-writes : goal.invariant-writes
invariant-writes g l = record {
  within : l.done ≤ length l.bytes;
  appended : Appends (change_of g.W.Output l.fn.out l.out) (take l.done l.bytes);
  lasts : FailingLasts (change_of g.W.Output l.fn.out l.out);
  good : 0 < l.done → g.W.Output.failed l.out ≡ false;
}

abbrev pub decreases-writes : goal.decreases-writes
decreases-writes g l = length l.bytes - l.done
