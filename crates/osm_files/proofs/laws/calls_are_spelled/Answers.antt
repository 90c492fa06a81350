use Rattle.osm_files.proofs.SinkLaws.{calls_spelled}
use Rattle.osm_files.proofs.laws.calls_are_spelled.Goals as goal

pub returns : goal.returns
returns g c = calls_spelled g.W.Output
