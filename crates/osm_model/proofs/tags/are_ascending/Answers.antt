use Rattle.std.proofs.Common.{rules}
use Rattle.std.proofs.lemmas.List.Sorted.{answers_always}
use Rattle.std.specs.Ordering.{is_lt}
use Rattle.osm_model.specs.Tags.{tag_cmp}
use Rattle.osm_model.proofs.TagLaws.{normal_test}
use Rattle.osm_model.proofs.tags.are_ascending.Goals as goal

pub returns : goal.returns
returns c =
    normal_test _ _ c.args.tags.now (search rules)
    (c.is_sorted_by.ensures.cases (λ x y. is_lt (tag_cmp x y)) (answers_always _ _ _ (λ f pair result after called. search rules)))
