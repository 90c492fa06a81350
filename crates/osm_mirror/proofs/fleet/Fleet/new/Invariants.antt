use Rattle.std.proofs.Common.{◌≡◌, map, take}
use Rattle.osm_mirror.specs.fleet.Mirror.{new_mirror}
use Rattle.osm_mirror.proofs.fleet.Fleet.new.Given as goal

abbrev pub invariant-loop-keep : goal.invariant-loop-keep
invariant-loop-keep l = l.mirrors.items ≡ map new_mirror (take l.keep-index l.kinds)
