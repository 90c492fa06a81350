use Rattle.std.proofs.Common.{Some}
use Rattle.osm_files.specs.Input.{Explained}
use Rattle.osm_mirror.proofs.run_laws.CheckLaws.{Counting}
use Rattle.osm_mirror.proofs.run.check.count.Given as goal

abbrev pub invariant-versions : goal.invariant-versions
invariant-versions g l = Explained (g.S.Source.can_give l.fn.source) (g.S.Source.can_give l.source)
    (λ all now. Counting (Some all) (Some now) l.last l.sizes)

abbrev pub decreases-versions : goal.decreases-versions
decreases-versions g l = g.S.Source.left l.source
