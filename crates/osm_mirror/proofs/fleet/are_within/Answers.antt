use Rattle.std.proofs.Common.{rules, refl, subst, arith, All, IsTrue}
use Rattle.std.proofs.lemmas.List.{take_all}
use Rattle.osm_mirror.specs.fleet.Event.{IsWithin}
use Rattle.osm_mirror.proofs.fleet_laws.FleetLaws.{within_more}
use Rattle.osm_mirror.proofs.fleet.are_within.Goals as goal

pub loop-event-preserved : goal.loop-event-preserved
loop-event-preserved c =
    let yes : IsTrue c.names_mirrors.result = search rules in
    within_more c.args.count c.args.events.now c.loop-event.event-index _ c.loop-event.invariant c.loop-event-test.true
    (c.names_mirrors.ensures.0 yes)

pub returns : goal.returns
returns c = (
  λ _. subst (All (IsWithin c.args.count)) (take_all c.loop-event.event-index c.args.events.now (omega (arith, c.loop-event-test.false)))
      c.loop-event.invariant,
  λ _. refl,
)
