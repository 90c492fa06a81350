use Rattle.std.proofs.Common.{rules, append_assoc}
use Rattle.osm_model.specs.Coordinate.{degrees_text, coordinate_text}
use Rattle.osm_model.proofs.put.put_coordinate.Goals as goal

pub returns-clause-written : goal.returns-clause-written
unfolding degrees_text coordinate_text
returns-clause-written c = search (rules, append_assoc)
