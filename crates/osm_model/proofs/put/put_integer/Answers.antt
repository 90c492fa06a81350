use Rattle.std.proofs.Common.{rules, append_assoc}
use Rattle.osm_model.specs.Decimal.{integer_text}
use Rattle.osm_model.proofs.put.put_integer.Goals as goal

pub returns-clause-written : goal.returns-clause-written
unfolding integer_text
returns-clause-written c = search (rules, append_assoc)
