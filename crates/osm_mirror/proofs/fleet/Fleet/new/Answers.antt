use Rattle.std.proofs.Common.{◌≡◌, ◌∙◌, ap, sym, subst, arith, map, take}
use Rattle.std.proofs.lemmas.List.{take_all}
use Rattle.osm_mirror.specs.fleet.Mirror.{new_mirror}
use Rattle.osm_mirror.specs.fleet.Fleet.{AreOwnSnapshots}
use Rattle.osm_mirror.proofs.fleet_laws.FleetLaws.{all_fresh}
use Rattle.osm_mirror.proofs.fleet.Fleet.new.Goals as goal

pub invariant_of-result : goal.invariant_of-result
invariant_of-result c =
    let all : take c.loop-keep.keep-index c.args.kinds.now ≡ c.args.kinds.now = take_all _ _ (omega (arith, c.loop-keep-test.false)) in
    subst AreOwnSnapshots (sym (c.loop-keep.invariant ∙ ap (map new_mirror) all)) (all_fresh c.args.kinds.now)
