use Rattle.std.proofs.Common.{ap, ◌∙◌}
use Rattle.std.proofs.lemmas.List.Filters.{dedup_is}
use Rattle.osm_model.specs.Tags.{tag_cmp_total, normal_tags}
use Rattle.osm_model.proofs.SetLaws.{to_list-of_sorted}
use Rattle.osm_model.proofs.TagLaws.{tag_cmp-IsAntisymmetric}
use Rattle.osm_model.proofs.tags.ItemList+Tag.sort.Goals as goal

pub returns : goal.returns
returns c =
    dedup_is _ _ _ c.dedup.ensures.filtered
    ∙ to_list-of_sorted tag_cmp_total tag_cmp-IsAntisymmetric _ _ c.sort_unstable.ensures.permutation c.sort_unstable.ensures.sorted
    ∙ ap normal_tags c.self.view_is
