use Rattle.std.proofs.Common.{◌++◌, ◌∷◌, [], length, take, arith, sym, ap, ◌∙◌, subst, vec_capacity, length-append}
use Rattle.std.proofs.lemmas.List.{length-take-le}
use Rattle.std.specs.List.Sorted.{IsStrictlySortedBy}
use Rattle.osm_model.specs.Data.{VersionData}
use Rattle.osm_merge.specs.Taking.{order_of, merge_by}
use Rattle.osm_merge.proofs.TakingLaws.{taking_step, taking_ends}
use Rattle.osm_merge.proofs.taking.move_joined.Goals as goal

pub more-init : goal.more-init
more-init c = record {
  ascends = subst (IsStrictlySortedBy (order_of c.args.order)) (sym c.from_vec-held.ensures.items) c.requires.ascends;
  makes = λ i. c.args.joined.now.items ++ merge_by (order_of c.args.order) (c.from_vec-held.ensures.items i)
      (c.into_iter-version-iterator.ensures.into_iter_gives.0 i);
  room =
      omega (
        arith,
        c.requires.fits,
        c.args.joined.now.ok.0,
        c.args.held.ok.0,
        c.args.more.ok.0,
        ap length c.from_vec-held.ensures.items,
        ap length c.into_iter-version-iterator.ensures.into_iter_gives.0,
      );
}

pub count_below-below-requires : goal.count_below-below-requires
count_below-below-requires c = c.more.invariant.ascends

pub move_front-requires-clause-fits : goal.move_front-requires-clause-fits
move_front-requires-clause-fits c = omega (arith, c.more.invariant.room, c.more.joined.ok.0, c.count_below-below.ensures.0)

pub push_reserved-requires : goal.push_reserved-requires
push_reserved-requires c =
    let n = c.count_below-below.result in
    let long = length-append c.more.joined.items (take n c.more.held.items) in
    let taken = length-take-le n c.more.held.items c.count_below-below.ensures.0 in
    omega (
      arith,
      c.more.invariant.room,
      c.move_front.new.joined.ok.0,
      ap length c.move_front.ensures.moved,
      long,
      taken,
      c.count_below-below.ensures.0,
      c.move_front.ensures.capacity,
      ap length c.in-Some.ensures.steps.0,
    )

pub more-preserved : goal.more-preserved
more-preserved c =
    taking_step (order_of c.args.order) _ c.more.joined.items c.more.held.items c.more.version-iterator.rest.items
    (vec_capacity c.more.joined) c.in-Some.version c.next.new.self.rest.items c.move_front.new.joined.items
    c.push_reserved.new.self.items c.move_front.new.held.items
    c.take_tied.new.held.items c.count_below-below.result (vec_capacity c.push_reserved.new.self)
    c.more.invariant c.in-Some.ensures.steps.0 c.count_below-below.ensures c.move_front.ensures.moved c.move_front.ensures.left
    c.take_tied.ensures.left
    (c.push_reserved.ensures.items ∙ ap (λ (v : VersionData). c.move_front.new.joined.items ++ v ∷ []) c.take_tied.ensures.value)
    (c.push_reserved.ensures.capacity ∙ c.move_front.ensures.capacity)

pub move_front-requires-2-clause-fits : goal.move_front-requires-2-clause-fits
move_front-requires-2-clause-fits c = omega (arith, c.more.invariant.room, c.more.joined.ok.0, c.more.held.ok.0, c.len-rest.ensures)

pub returns : goal.returns
returns c =
    taking_ends (order_of c.args.order) _ c.more.joined.items c.more.held.items c.more.version-iterator.rest.items
    (vec_capacity c.more.joined) c.move_front-2.new.joined.items c.len-rest.result c.more.invariant
    (omega (arith, c.in-None.ensures.steps.0, c.more.version-iterator.rest.ok.0))
    (c.len-rest.ensures ∙ c.more.held.ok.0) c.move_front-2.ensures.moved
