use Rattle.std.proofs.Common.{sym, ◌∙◌}
use Rattle.osm_merge.proofs.WithinLaws.{drop_gives, drop_ends, drop_refused}
use Rattle.osm_merge.proofs.within.Within.next_dropping.Goals as goal

pub returns-in-Ok-Some-clause-step : goal.returns-in-Ok-Some-clause-step
returns-in-Ok-Some-clause-step g c =
    drop_gives g.S.Source.can_give c.args.self.now c.next_from.new.source c.requires.open c.requires.dropped c.in-Ok-Some.version
    (sym c.is_under.ensures ∙ c.if-is_under.true) (rw (c.in-Ok-Some.is, c.in-Ok-Some.field-0-is) at c.next_from.ensures.step)

pub returns-in-Ok-None-clause-step : goal.returns-in-Ok-None-clause-step
returns-in-Ok-None-clause-step g c =
    drop_ends g.S.Source.can_give c.args.self.now c.next_from.new.source c.requires.open c.requires.dropped
    (rw (c.in-Ok-None.is, c.in-Ok-None.field-0-is) at c.next_from.ensures.step)

pub returns-in-Err-clause-step : goal.returns-in-Err-clause-step
returns-in-Err-clause-step g c =
    rw (c.refuse.ensures.failed, c.refuse.ensures.fault)
    (drop_refused g.S.Source.can_give c.args.self.now c.next_from.new.source c.requires.open c.in-Err.fault c.in-Err.ensures.step)
