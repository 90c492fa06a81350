use Rattle.std.proofs.Common.{rules, ◌<◌, ◌≤◌, length, arith, ap, ◌∙◌, vec_len}
use Rattle.osm_model.specs.Sets.{to_list}
use Rattle.osm_merge.proofs.NewestLaws.{some_item, settling_begins, settling_skips, settling_moves, settled_list, settled_ascends}
use Rattle.osm_merge.proofs.NewestLaws.{settled_set}
use Rattle.osm_merge.proofs.newest.into_snapshot.Goals.{then-is_newest, else-is_newest}
use Rattle.osm_merge.proofs.newest.into_snapshot.Goals as goal

pub versions-init : goal.versions-init
versions-init c = settling_begins _ _ c.into_versions-versions.ensures

pub swap-requires-clause-i_in_bounds : goal.swap-requires-clause-i_in_bounds
swap-requires-clause-i_in_bounds c =
    let inside : c.versions.index < vec_len c.versions.versions = search rules in
    omega (arith, c.versions.invariant.within, inside)

pub overflow_add-kept : goal.overflow_add-kept
overflow_add-kept c =
    omega (arith, c.versions.invariant.within, c.versions-test.true, c.len-index-end.type_inv)

pub versions-preserved : goal.versions-preserved
versions-preserved c =
    let items = c.versions.versions.items in
    let inside : c.versions.index < length items = search rules in
    let d = some_item items c.versions.index inside in
    let is = rw c.deref.ensures.value at c.is_newest.ensures d in
    elim c.if-is_newest.branch [
      | then-is_newest b ↦
          settling_moves (to_list c.args.history) items c.versions.index c.versions.kept c.versions.invariant inside d c.is_newest.result is
          b.swap.new.self.items c.if-is_newest.versions.items c.if-is_newest.kept b.if-is_newest.true b.swap.ensures.by_index
          (ap (λ v. v.items) b.versions-is) b.kept-is
      | else-is_newest b ↦
          settling_skips (to_list c.args.history) items c.versions.index c.versions.kept c.versions.invariant inside d c.is_newest.result is
          c.if-is_newest.versions.items c.if-is_newest.kept b.if-is_newest.false (ap (λ v. v.items) b.versions-is) b.kept-is
    ]

pub from_ascending-requires : goal.from_ascending-requires
from_ascending-requires c =
    let end : length (to_list c.args.history) ≤ c.versions.index = search rules in
    settled_ascends c.args.history c.truncate.new.self.items
    (c.truncate.ensures.items ∙ settled_list c.args.history c.versions.versions.items c.versions.index c.versions.kept
    c.versions.invariant end)

pub returns : goal.returns
returns c =
    let end : length (to_list c.args.history) ≤ c.versions.index = search rules in
    c.from_ascending.ensures
    ∙ settled_set c.args.history c.truncate.new.self.items
    (c.truncate.ensures.items ∙ settled_list c.args.history c.versions.versions.items c.versions.index c.versions.kept
    c.versions.invariant end)
