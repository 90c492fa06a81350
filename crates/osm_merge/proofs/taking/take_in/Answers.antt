use Rattle.std.proofs.Common.{◌≡◌, ◌++◌, sym, ap, ◌∙◌, subst}
use Rattle.std.specs.List.Sorted.{IsStrictlySortedBy}
use Rattle.osm_model.specs.Order.{version_cmp}
use Rattle.osm_model.specs.Sets.{to_list, from_list}
use Rattle.osm_merge.specs.Taking.{order_of, merge_by}
use Rattle.osm_merge.proofs.TakenLaws.{joined_ascends, joined_set}
use Rattle.osm_merge.proofs.taking.take_in.Goals as goal

pub from_ascending-requires : goal.from_ascending-requires
from_ascending-requires c =
    let all : c.move_joined.new.joined.items ≡ merge_by (order_of c.args.order) (to_list c.args.held.now) (to_list c.args.more) =
    c.move_joined.ensures
    ∙ (λ i. c.in_ok-joined.ensures.items i ++ merge_by (order_of c.args.order)
    ((c.into_versions-all.ensures ∙ ap to_list c.replace.ensures.value) i) (c.into_versions.ensures i)) in
    subst (IsStrictlySortedBy version_cmp) (sym all)
    (joined_ascends c.args.order c.args.held.now c.args.more c.requires.held_ascends c.requires.more_ascends)

pub returns : goal.returns
returns c =
    let all : c.move_joined.new.joined.items ≡ merge_by (order_of c.args.order) (to_list c.args.held.now) (to_list c.args.more) =
    c.move_joined.ensures
    ∙ (λ i. c.in_ok-joined.ensures.items i ++ merge_by (order_of c.args.order)
    ((c.into_versions-all.ensures ∙ ap to_list c.replace.ensures.value) i) (c.into_versions.ensures i)) in
    c.from_ascending.ensures
    ∙ ap (from_list {R = version_cmp}) all
    ∙ joined_set c.args.order c.args.held.now c.args.more c.requires.held_ascends c.requires.more_ascends
