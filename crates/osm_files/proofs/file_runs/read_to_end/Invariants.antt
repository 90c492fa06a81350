use Rattle.std.proofs.Common.{◌≡◌}
use Rattle.osm_files.specs.Input.{Explained}
use Rattle.osm_files.proofs.file_runs.read_to_end.Given as goal

abbrev pub invariant-versions : goal.invariant-versions
invariant-versions g l = Explained (g.S.Source.can_give l.fn.source) (g.S.Source.can_give l.source)
    (λ earlier now. earlier.refusal ≡ now.refusal)

abbrev pub decreases-versions : goal.decreases-versions
decreases-versions g l = g.S.Source.left l.source
