use Rattle.std.proofs.Common.{rules}
use Rattle.osm_model.proofs.VersionLaws.{to_list-view}
use Rattle.osm_model.proofs.history.History.len.Goals as goal

pub returns : goal.returns
returns c = rw (← c.self.view_is, to_list-view _ c.self.invariant) (search rules)
