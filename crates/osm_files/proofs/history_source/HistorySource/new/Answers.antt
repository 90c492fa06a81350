use Rattle.std.proofs.Common.{◌≡◌, List, sym, ap, ◌∙◌, subst}
use Rattle.std.specs.List.Sorted.{IsStrictlySortedBy}
use Rattle.std.specs.Vec.Iter.{into_iter_items}
use Rattle.osm_model.specs.Data.{VersionData}
use Rattle.osm_model.specs.Order.{version_cmp}
use Rattle.osm_model.specs.Sets.{to_list, from_list}
use Rattle.osm_model.proofs.SetLaws.{strict-listed}
use Rattle.osm_files.proofs.history_source.HistorySource.new.Goals as goal
use Rattle.osm_files.proofs.HoldLaws.{set_listed}

pub invariant_of-result : goal.invariant_of-result
invariant_of-result c =
    let items : into_iter_items c.into_iter.result ≡ to_list c.args.history = c.into_iter.ensures.rest ∙ c.into_versions-versions.ensures in
    subst (λ (xs : List VersionData). IsStrictlySortedBy version_cmp xs) (sym items) (strict-listed c.args.history)

pub returns : goal.returns
returns c =
    let items : into_iter_items c.into_iter.result ≡ to_list c.args.history = c.into_iter.ensures.rest ∙ c.into_versions-versions.ensures in
    ap from_list items ∙ set_listed c.args.history
