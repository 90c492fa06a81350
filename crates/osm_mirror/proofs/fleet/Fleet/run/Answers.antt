use Rattle.std.proofs.Common.{arith}
use Rattle.osm_mirror.proofs.fleet_laws.FleetLaws.{event_within, run_goes_on, run_ends}
use Rattle.osm_mirror.proofs.fleet.Fleet.run.Goals as goal

pub reply_to-reply-requires : goal.reply_to-reply-requires
reply_to-reply-requires c = event_within _ _ _ _ _ _ _ c.loop-event.invariant _ c.loop-event-test.true c.requires

pub loop-event-preserved : goal.loop-event-preserved
loop-event-preserved c =
    run_goes_on _ _ _ _ _ _ _ c.loop-event.invariant _ _ _ _ _ _ c.loop-event-test.true c.reply_to-reply.ensures.reply
    c.reply_to-reply.ensures.mirrors
    c.push_reserved.ensures.items c.push_reserved.ensures.len c.push_reserved.ensures.capacity

pub returns-clause-run : goal.returns-clause-run
returns-clause-run c =
    run_ends _ _ _ _ _ _ _ c.loop-event.invariant (rw c.self.view_is at c.self.invariant) c.requires
    (omega (arith, c.loop-event-test.false))
