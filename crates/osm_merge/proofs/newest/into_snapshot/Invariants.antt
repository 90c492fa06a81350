use Rattle.osm_model.specs.Sets.{to_list}
use Rattle.osm_merge.proofs.NewestLaws.{IsSettling}
use Rattle.osm_merge.proofs.newest.into_snapshot.Given as goal

abbrev pub invariant-versions : goal.invariant-versions
invariant-versions l = IsSettling (to_list l.fn.history) l.versions.items l.index l.kept
