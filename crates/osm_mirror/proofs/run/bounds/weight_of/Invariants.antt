use Rattle.std.proofs.Common.{◌≡◌, ◌<◌, ◌^◌, take}
use Rattle.osm_mirror.specs.run.Bounds.{total_weight}
use Rattle.osm_mirror.proofs.run.bounds.weight_of.Given as goal

abbrev pub invariant-found : goal.invariant-found
invariant-found l = total_weight l.found < 2 ^ 62 → l.weight ≡ total_weight (take l.index l.found)
