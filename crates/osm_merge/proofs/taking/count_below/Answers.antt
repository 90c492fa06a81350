use Rattle.std.proofs.Common.{◌≡◌, ◌+◌, arith, refl, sym, ap, ◌∙◌, true, false}
use Rattle.std.specs.Ordering.{is_lt}
use Rattle.osm_merge.specs.Taking.{order_of}
use Rattle.osm_merge.proofs.TakingLaws.{order_total, halving_up, halving_down}
use Rattle.osm_merge.proofs.taking.count_below.Goals as goal

pub halves-init : goal.halves-init
halves-init c = record {
  inside = (omega arith, omega (arith, c.len-high.ensures, c.args.held.now.ok.0));
  below = λ k d low less. absurd (omega (arith, less));
  others = λ k d from less. absurd (omega (arith, from, less, c.len-high.ensures, c.args.held.now.ok.0));
}

pub index-requires : goal.index-requires
index-requires c =
    omega (arith, c.min.ensures, c.halves-test.true, c.halves.invariant.inside.1, c.args.held.now.ok.0)

pub halves-preserved-then-is_lt : goal.halves-preserved-then-is_lt
halves-preserved-then-is_lt c =
    let less : is_lt (order_of c.args.order c.index.result.now c.args.version.now) ≡ true = ap is_lt (sym c.compare.ensures)
    ∙ sym c.is_lt.ensures ∙ c.if-is_lt.true in
    halving_up (order_total c.args.order) c.args.version.now c.args.held.now.items c.requires c.halves.low c.halves.high
    (c.halves.low + c.min.result) _ _ c.index.result.now
    c.halves.invariant (omega arith) (omega (arith, c.min.ensures, c.halves-test.true)) (rw (← c.index.ensures) less) refl refl

pub halves-preserved : goal.halves-preserved
halves-preserved c =
    let none : is_lt (order_of c.args.order c.index.result.now c.args.version.now) ≡ false = ap is_lt (sym c.compare.ensures)
    ∙ sym c.is_lt.ensures ∙ c.if-is_lt.false in
    halving_down (order_total c.args.order) c.args.version.now c.args.held.now.items c.requires c.halves.low c.halves.high
    (c.halves.low + c.min.result) _ _ c.index.result.now
    c.halves.invariant (omega arith) (omega (arith, c.min.ensures, c.halves-test.true)) (rw (← c.index.ensures) none) refl refl

pub returns : goal.returns
returns c = (
  omega (arith, c.halves.invariant.inside.0, c.halves.invariant.inside.1),
  (
    c.halves.invariant.below,
    λ k d from less. c.halves.invariant.others k d
        (omega (arith, from, c.halves.invariant.inside.0, c.halves-test.false)) less,
  ),
)
