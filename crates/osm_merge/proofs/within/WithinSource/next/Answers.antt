use Rattle.osm_merge.proofs.WithinLaws.{stays_failed}
use Rattle.osm_merge.proofs.within.WithinSource.next.Goals as goal

pub returns-in-Failed-default-clause-step : goal.returns-in-Failed-default-clause-step
returns-in-Failed-default-clause-step g c =
    rw c.failed.ensures (stays_failed g.S.Source.can_give c.args.self.now c.in-Failed-default.is-0)
