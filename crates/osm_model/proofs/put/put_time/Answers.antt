use Rattle.std.proofs.Common.{rules, append_assoc}
use Rattle.osm_model.specs.Time.{time_text}
use Rattle.osm_model.proofs.put.put_time.Goals as goal

pub returns-clause-written : goal.returns-clause-written
unfolding time_text
returns-clause-written c = rw c.in-Some.is (search (rules, append_assoc))

pub returns-in_default-clause-written : goal.returns-in_default-clause-written
unfolding time_text
returns-in_default-clause-written c = rw c.in_default.is (search rules)
