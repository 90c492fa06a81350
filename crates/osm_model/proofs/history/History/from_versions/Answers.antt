use Rattle.std.proofs.Common.{refl, ap, ◌∙◌}
use Rattle.std.proofs.lemmas.List.Filters.{dedup_is}
use Rattle.std.proofs.lemmas.List.Kept.{IsStrictlySortedBy-dedup}
use Rattle.osm_model.specs.Order.{version_cmp_total}
use Rattle.osm_model.specs.Sets.{from_list}
use Rattle.osm_model.proofs.SetLaws.{from_list-dedup}
use Rattle.osm_model.proofs.VersionLaws.{version_cmp-IsAntisymmetric}
use Rattle.osm_model.proofs.history.History.from_versions.Goals as goal

pub invariant_of-result : goal.invariant_of-result
invariant_of-result c =
    rw (c.in_ok-versions.ensures, dedup_is _ _ _ c.dedup.ensures.filtered)
    (IsStrictlySortedBy-dedup version_cmp_total (λ x y. refl) _ c.in_ok-sort.ensures.sorted)

pub returns : goal.returns
returns c =
    ap from_list (c.in_ok-versions.ensures ∙ dedup_is _ _ _ c.dedup.ensures.filtered)
    ∙ from_list-dedup version_cmp_total version_cmp-IsAntisymmetric _ _ c.in_ok-sort.ensures.permutation
    ∙ ap from_list c.in_ok-ranked.ensures
