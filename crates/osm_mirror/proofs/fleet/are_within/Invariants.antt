use Rattle.std.proofs.Common.{take, All}
use Rattle.osm_mirror.specs.fleet.Event.{IsWithin}
use Rattle.osm_mirror.proofs.fleet.are_within.Given as goal

abbrev pub invariant-loop-event : goal.invariant-loop-event
invariant-loop-event l = All (IsWithin l.count) (take l.event-index l.events)
