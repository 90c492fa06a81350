use Rattle.std.proofs.Common.{◌∙◌, subst}
use Rattle.std.proofs.lemmas.List.Filters.{dedup_is}
use Rattle.std.specs.List.Sorted.{IsPermutation}
use Rattle.osm_files.proofs.GroupLaws.{sorted_group}
use Rattle.osm_files.proofs.group.Group.into_ascending.Goals as goal

pub returns-clause-given : goal.returns-clause-given
returns-clause-given c =
    c.into_iter.ensures.rest
    ∙ dedup_is _ _ _ c.dedup.ensures.filtered
    ∙ sorted_group c.args.self.first c.args.self.others.items c.sort_unstable.new.self.items
    (subst (λ xs. IsPermutation xs c.sort_unstable.new.self.items) c.in_ok-push.ensures.items c.sort_unstable.ensures.permutation)
    c.sort_unstable.ensures.sorted
