use Rattle.osm_files.proofs.RefusedLaws.{refused_source_gives}
use Rattle.osm_files.proofs.laws.refused_source_gives_the_groups_before.Goals as goal

pub returns : goal.returns
returns g c = refused_source_gives g.R.Input.can_give
