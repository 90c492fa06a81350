use Rattle.std.proofs.Common.{vec_len, vec_capacity}
use Rattle.osm_mirror.proofs.fleet_laws.FleetLaws.{IsRunning}
use Rattle.osm_mirror.proofs.fleet.Fleet.run.Given as goal

abbrev pub invariant-loop-event : goal.invariant-loop-event
invariant-loop-event l = IsRunning l.fn.self l.events l.event-index l.replies.items (vec_len l.replies) (vec_capacity l.replies) l.self
