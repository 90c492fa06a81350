use Rattle.std.proofs.Common.{sym, ap, ◌∙◌}
use Rattle.osm_merge.specs.Selected.{snapshot}
use Rattle.osm_merge.proofs.SnapLaws.{snapshot_of_snapshot}
use Rattle.osm_merge.proofs.taking.tests.newest_taken.Goals as goal

pub absorb_newest-requires : goal.absorb_newest-requires
absorb_newest-requires c = c.in_ok-taken.ensures ∙ sym (snapshot_of_snapshot c.args.held.now) ∙ ap snapshot (sym c.in_ok-taken.ensures)
