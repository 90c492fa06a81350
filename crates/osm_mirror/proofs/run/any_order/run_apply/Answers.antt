use Rattle.osm_mirror.proofs.run.any_order.run_apply.Goals as goal

pub returns-then-with_history-clause-written : goal.returns-then-with_history-clause-written
returns-then-with_history-clause-written g c = rw c.if-with_history.true c.run_any_order.ensures.written

pub returns-then-with_history-clause-refused : goal.returns-then-with_history-clause-refused
returns-then-with_history-clause-refused g c = rw c.if-with_history.true c.run_any_order.ensures.refused

pub returns-else-with_history-clause-written : goal.returns-else-with_history-clause-written
returns-else-with_history-clause-written g c = rw c.if-with_history.false c.run_any_order-else-with_history.ensures.written

pub returns-else-with_history-clause-refused : goal.returns-else-with_history-clause-refused
returns-else-with_history-clause-refused g c = rw c.if-with_history.false c.run_any_order-else-with_history.ensures.refused
