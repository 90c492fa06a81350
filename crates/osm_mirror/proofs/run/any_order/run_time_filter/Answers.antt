use Rattle.osm_mirror.proofs.run.any_order.run_time_filter.Goals as goal

pub returns-clause-written : goal.returns-clause-written
returns-clause-written g c = c.run_one.ensures.written

pub returns-clause-refused : goal.returns-clause-refused
returns-clause-refused g c = c.run_one.ensures.refused
