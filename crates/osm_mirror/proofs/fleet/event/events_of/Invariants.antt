use Rattle.std.proofs.Common.{◌≡◌, take}
use Rattle.osm_mirror.specs.fleet.Event.{events_of}
use Rattle.osm_mirror.proofs.fleet.event.events_of.Given as goal

abbrev pub invariant-steps : goal.invariant-steps
invariant-steps l = l.events.items ≡ events_of (take l.index l.steps) (take l.index l.files)
