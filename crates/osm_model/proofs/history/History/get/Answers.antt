use Rattle.std.proofs.Common.{rules, ap, sym, ◌∙◌}
use Rattle.osm_model.specs.Sets.{to_list}
use Rattle.osm_model.proofs.VersionLaws.{to_list-view}
use Rattle.osm_model.proofs.history.History.get.Goals as goal

pub index-requires : goal.index-requires
index-requires c =
    let is = ap to_list (sym c.self.view_is) ∙ to_list-view _ c.self.invariant in
    let within = rw is at c.requires in
    search rules

pub returns : goal.returns
returns c = rw (← c.self.view_is, to_list-view _ c.self.invariant) (search rules)
