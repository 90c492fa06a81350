use Rattle.osm_mirror.proofs.fleet_laws.MirrorLaws.{fresh_sound}
use Rattle.osm_mirror.proofs.fleet.mirror.Mirror.new.Goals as goal

pub invariant_of-result : goal.invariant_of-result
invariant_of-result c = rw c.new.ensures (fresh_sound c.args.keep)
