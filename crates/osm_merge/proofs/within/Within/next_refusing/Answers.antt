use Rattle.std.proofs.Common.{sym, ◌∙◌}
use Rattle.osm_merge.proofs.WithinLaws.{piece_gives, piece_strays, piece_refused}
use Rattle.osm_merge.proofs.within.Within.next_refusing.Goals as goal

pub returns-in-Err-clause-step : goal.returns-in-Err-clause-step
returns-in-Err-clause-step g c =
    rw (c.refuse-in-Err.ensures.failed, c.refuse-in-Err.ensures.fault)
    (piece_refused g.S.Source.can_give c.args.self.now c.next.new.self c.requires.open c.in-Err.fault c.in-Err.ensures.step)

pub returns-in-Ok-Some-clause-step : goal.returns-in-Ok-Some-clause-step
returns-in-Ok-Some-clause-step g c =
    piece_gives g.S.Source.can_give c.args.self.now c.next.new.self c.requires.open c.requires.refused c.in-Ok-Some.version
    (sym c.contains.ensures ∙ c.if-contains.true) (rw (c.in-Ok-Some.is, c.in-Ok-Some.field-0-is) at c.next.ensures.step)

pub returns-in-Ok-Some-2-clause-step : goal.returns-in-Ok-Some-2-clause-step
returns-in-Ok-Some-2-clause-step g c =
    rw (c.refuse.ensures.failed, c.refuse.ensures.fault, c.at.ensures)
    (piece_strays g.S.Source.can_give c.args.self.now c.next.new.self c.requires.open c.in-Ok-Some.version
    (sym c.contains.ensures ∙ c.if-contains.false) (rw (c.in-Ok-Some.is, c.in-Ok-Some.field-0-is) at c.next.ensures.step))
