use Rattle.osm_merge.proofs.WithinLaws.{Skipping}
use Rattle.osm_merge.proofs.within.next_from.Given as goal

abbrev pub invariant-versions : goal.invariant-versions
invariant-versions g l = Skipping g.S.Source.can_give g.S.Source.left l.span l.fn.source l.source

abbrev pub decreases-versions : goal.decreases-versions
decreases-versions g l = g.S.Source.left l.source
