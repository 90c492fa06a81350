use Rattle.std.proofs.Common.{ap, sym, ◌∙◌}
use Rattle.osm_model.specs.Sets.{to_list}
use Rattle.osm_model.proofs.VersionLaws.{to_list-view}
use Rattle.osm_model.proofs.history.History.into_versions.Goals as goal

pub returns : goal.returns
returns c = sym (to_list-view _ c.self.invariant) ∙ ap to_list c.self.view_is
