use Rattle.osm_model.proofs.SetLaws.{strict-listed}
use Rattle.osm_merge.proofs.taking.absorb.Goals as goal

pub take_in-requires-clause-held_ascends : goal.take_in-requires-clause-held_ascends
take_in-requires-clause-held_ascends c = strict-listed c.args.held.now

pub take_in-requires-clause-more_ascends : goal.take_in-requires-clause-more_ascends
take_in-requires-clause-more_ascends c = strict-listed c.args.more
