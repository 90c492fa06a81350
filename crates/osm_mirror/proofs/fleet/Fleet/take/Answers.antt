use Rattle.osm_mirror.proofs.fleet_laws.FleetLaws.{handed_kept}
use Rattle.osm_mirror.proofs.fleet.Fleet.take.Goals as goal

pub invariant_of-self : goal.invariant_of-self
invariant_of-self c =
    handed_kept _ _ c.index_mut-mirror.result.now c.take.new.self c.args.file.now c.take.result c.self.invariant
    (rw c.self.view_is c.requires) c.index_mut-mirror.ensures.value c.take.ensures.taken c.take.ensures.unchanged
