use Rattle.std.proofs.Common.{refl, ◌≡◌, true, ◌<◌, ◌-◌, ◌^◌, ◌∷◌, [], inl, sym, ap, subst, ◌∙◌, arith, false, length-append, Ok, Some}
use Rattle.std.proofs.lemmas.Result.{err_from_is_err_and}
use Rattle.std.specs.Ordering.{is_lt, is_gt}
use Rattle.osm_model.specs.Order.{key_cmp}
use Rattle.osm_files.specs.Fault.{fault_at}
use Rattle.osm_files.specs.Position.{Position, with_rest, Keeps, units_or_failed}
use Rattle.osm_files.specs.Groups.{still_with_ready}
use Rattle.osm_files.specs.Source.{SourceStep}
use Rattle.osm_files.specs.Stream.{Placed}
use Rattle.osm_files.specs.declared.reason.Reason.TheVariants.{Unsorted}
use Rattle.osm_files.proofs.FillLaws.{kept}
use Rattle.osm_files.proofs.GroupLaws.{ends_group, begins_next, joins_group, group_joined, refuses_read, refuses_unsorted}
use Rattle.osm_files.proofs.ReaderLaws.{then_on, unread}
use Rattle.osm_files.proofs.group.Group.gather.Goals as goal

pub units-init : goal.units-init
units-init g c = record {
  input = refl;
  keeps = (let from = still_with_ready c.args.units.now.input in let group = c.args.self.now.first ∷ c.args.self.now.others.items in
      unread g.R.Input.can_give c.args.units.now c.args.units.now
      (λ p q. Keeps (from (units_or_failed p) group []) (from (units_or_failed q) group [])) refl
      (λ d. kept (from (units_or_failed (with_rest c.args.units.now d)) group [])));
  first = refl;
  group = c.requires.group;
  left = omega arith;
}

pub returns-in_err-unit-clause-refuses : goal.returns-in_err-unit-clause-refuses
returns-in_err-unit-clause-refuses g c =
    let p = err_from_is_err_and c.from_residual.result c.from_residual.ensures.1 in
    rw (p.1, p.2) (λ later k.
    let y = c.in_err-unit.ensures.step later k in
    let x = c.units.invariant.keeps y.0 y.1 in (
      x.0,
      x.1,
      refuses_read c.args.units.now.input (units_or_failed (with_rest c.args.units.now x.0)) c.args.self.now.others.items
          (units_or_failed (with_rest c.units.units y.0)) (units_or_failed (with_rest c.next.new.self later)) c.args.self.now.first
          c.units.self.others.items x.2 c.in_err-unit.field-0.0 y.2,
    ))

pub returns-in_default-clause-gathers : goal.returns-in_default-clause-gathers
returns-in_default-clause-gathers g c = λ later k.
    let y = (rw c.in_default.is at c.in_ok-unit.ensures.step) later k in
    let x = c.units.invariant.keeps y.0 y.1 in (
      x.0,
      x.1,
      ends_group c.args.units.now.input (units_or_failed (with_rest c.args.units.now x.0)) c.args.self.now.others.items
          (units_or_failed (with_rest c.units.units y.0)) (units_or_failed (with_rest c.next.new.self later)) c.args.self.now.first
          c.units.self.others.items x.2 c.units.invariant.group y.2,
    )

pub returns-then-is_lt-clause-gathers : goal.returns-then-is_lt-clause-gathers
returns-then-is_lt-clause-gathers g c = λ later k.
    let u = c.in-Some.unit in
    let less : is_lt (key_cmp c.args.self.now.first u.version) ≡ true = ap (λ v. is_lt (key_cmp v u.version)) (sym c.units.invariant.first)
    ∙ ap is_lt (sym c.key_cmp-order.ensures) ∙ sym c.is_lt.ensures ∙ c.if-is_lt.true in
    let y = (rw c.in-Some.is at c.in_ok-unit.ensures.step) later k in
    let x = c.units.invariant.keeps y.0 y.1 in (
      x.0,
      x.1,
      begins_next c.args.units.now.input (units_or_failed (with_rest c.args.units.now x.0)) c.args.self.now.others.items
          (units_or_failed (with_rest c.units.units y.0)) (units_or_failed (with_rest c.next.new.self later)) c.args.self.now.first
          c.units.self.others.items x.2 c.units.invariant.group u y.2 less,
    )

pub returns-then-is_gt-clause-refuses : goal.returns-then-is_gt-clause-refuses
returns-then-is_gt-clause-refuses g c = λ later k.
    let u = c.in-Some.unit in
    let failed = c.refuse.ensures.failed in
    let greater : is_gt (key_cmp c.args.self.now.first u.version) ≡ true =
    ap (λ v. is_gt (key_cmp v u.version)) (sym c.units.invariant.first) ∙ ap is_gt (sym c.key_cmp-order.ensures) ∙ sym c.is_gt.ensures
    ∙ c.if-is_gt.true in
    let y = (rw c.in-Some.is at c.in_ok-unit.ensures.step) later (subst (λ r. g.R.Input.can_give r later) (ap (λ v. v.rest) failed) k) in
    let x = c.units.invariant.keeps y.0 y.1 in (
      x.0,
      x.1,
      refuses_unsorted c.args.units.now.input (units_or_failed (with_rest c.args.units.now x.0)) c.args.self.now.others.items
          (units_or_failed (with_rest c.units.units y.0)) (units_or_failed (with_rest c.next.new.self later)) c.args.self.now.first
          c.units.self.others.items x.2 u
          c.refuse.result (units_or_failed (with_rest c.refuse.new.self later)) c.next.new.self.input y.2 greater
          (c.refuse.ensures.fault ∙ ap (λ n. fault_at n u.offset Unsorted) (c.next.ensures.input ∙ c.units.invariant.input))
          (ap (λ (v : Position _). units_or_failed (with_rest v later)) failed),
    )

pub returns-in-Err-clause-refuses : goal.returns-in-Err-clause-refuses
returns-in-Err-clause-refuses g c = λ later k.
    let y = (rw c.in-Some.is at c.in_ok-unit.ensures.step) later
    (subst (λ r. g.R.Input.can_give r later) (ap (λ v. v.rest) c.refuse-in-Err.ensures.failed) k) in
    let x = c.units.invariant.keeps y.0 y.1 in (
      x.0,
      x.1,
      (
        inl c.refuse-in-Err.ensures.fault,
        (
          c.next.new.self.input,
          ap (λ (v : Position _). units_or_failed (with_rest v later)) c.refuse-in-Err.ensures.failed,
        ),
      ),
    )

pub units-preserved : goal.units-preserved
units-preserved g c =
    let input = c.args.units.now.input in
    let less : 2 ^ 62 - c.next.new.self.offset < 2 ^ 62 - c.units.units.offset = (rw c.in-Some.is at c.in_ok-unit.ensures.fewer) refl in
    let u = c.in-Some.unit in
    let first = c.args.self.now.first in
    let others = c.args.self.now.others.items in
    let not_above : is_lt (key_cmp first u.version) ≡ false = ap (λ v. is_lt (key_cmp v u.version)) (sym c.units.invariant.first)
    ∙ ap is_lt (sym c.key_cmp-order.ensures) ∙ sym c.is_lt.ensures ∙ c.if-is_lt.false in
    let not_below : is_gt (key_cmp first u.version) ≡ false = ap (λ v. is_gt (key_cmp v u.version)) (sym c.units.invariant.first)
    ∙ ap is_gt (sym c.key_cmp-order.ensures) ∙ sym c.is_gt.ensures ∙ c.if-is_gt.false in
    let from = still_with_ready input in
    rw c.in_default-push.ensures.items (record {
      input = c.next.ensures.input ∙ c.units.invariant.input;
      first = c.units.invariant.first;
      keeps = then_on g.R.Input.can_give c.args.units.now c.units.units c.next.new.self
          (λ p q. Keeps (from (units_or_failed p) (first ∷ others) []) (from (units_or_failed q) (first ∷ c.units.self.others.items) []))
          (λ p q. SourceStep {A = Placed} (units_or_failed p) (Ok (Some u)) (units_or_failed q)) _
          (λ a b d k h. joins_group input (units_or_failed a) others (units_or_failed b)
          (units_or_failed d) first c.units.self.others.items k u h not_above not_below) c.units.invariant.keeps
          (rw c.in-Some.is at c.in_ok-unit.ensures.step);
      group = group_joined first c.units.self.others.items u.version c.units.invariant.group not_above not_below;
      left = omega (arith, c.units.invariant.left, less, length-append c.units.self.others.items (u.version ∷ []));
    })
