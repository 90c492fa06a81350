use Rattle.std.proofs.Common.{ap, sym, ◌∙◌}
use Rattle.osm_model.specs.Order.{version_cmp_total}
use Rattle.osm_model.specs.Sets.{contains}
use Rattle.osm_model.proofs.SetLaws.{search_finds, contains-from_list}
use Rattle.osm_model.proofs.history.History.contains.Goals as goal

pub returns : goal.returns
returns c =
    let bound = rw c.deref.ensures.value at c.binary_search.ensures.bound in
    let position = rw c.deref.ensures.value at c.binary_search.ensures.position in
    let found = search_finds version_cmp_total c.self.inside.versions.items c.args.version.now c.binary_search.result c.self.invariant bound
    position in
    c.is_ok.ensures.value ∙ found
    ∙ sym (contains-from_list version_cmp_total c.self.inside.versions.items c.args.version.now)
    ∙ ap (λ s. contains s c.args.version.now) c.self.view_is
