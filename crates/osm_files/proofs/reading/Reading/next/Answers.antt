use Rattle.std.proofs.Common.{rules, ◌≡◌, ◌∙◌, ap, arith, length, length-take, Ok, Err, Some, false, sym, refl}
use Rattle.std.proofs.lemmas.Result.{err_from_is_err_and}
use Rattle.osm_files.proofs.CommentLaws.{gone_shorter}
use Rattle.osm_files.proofs.PositionLaws.{none_in_nothing}
use Rattle.osm_files.proofs.ReaderLaws.{unread, has_gone, gone_none, gone_read, gone_further, steps_from, unit_gives, unit_passes}
use Rattle.osm_files.proofs.ReaderLaws.{unit_further, unit_lessens, unit_refused, fill_refused}
use Rattle.osm_files.proofs.ReadingLaws.{held_size, some_found, none_found, none_same, none_still, failed_already}
use Rattle.osm_files.specs.Fault.{fault_at, failed_fault}
use Rattle.osm_files.specs.Position.{state_at, with_rest, units_or_failed}
use Rattle.osm_files.specs.Source.{SourceStep}
use Rattle.osm_files.specs.Stream.{Placed}
use Rattle.osm_files.proofs.reading.Reading.next.Goals as goal

pub returns-then-self-clause-step : goal.returns-then-self-clause-step
returns-then-self-clause-step g c =
    let p = c.args.self.now in
    unread g.R.Input.can_give p p (λ a b. SourceStep {A = Placed} (units_or_failed a) (Err c.failed.result) (units_or_failed b)) refl
    (λ d. failed_already (with_rest p d) c.failed.result (sym (ap (λ v. v.failed) c.self.view_is) ∙ c.if-self.true)
    (c.failed.ensures ∙ ap (λ v. failed_fault v.input) c.self.view_is))

pub units-init : goal.units-init
units-init g c =
    record { on = has_gone g.R.Input.can_give c.args.self.now; within = omega arith; none = none_in_nothing (state_at c.args.self.now) }

pub pass-requires : goal.pass-requires
pass-requires g c =
    (held_size c.units.self c.read_held.new.self c.in-Ok-Some.unit
    (some_found c.units.self c.read_held.new.self c.in-Ok-Some.unit c.in-Ok-Some.field-0 c.in-Ok-Some.field-0-is
    c.in-Ok-Some.ensures.found)).1

pub returns-in-Some-clause-step : goal.returns-in-Some-clause-step
returns-in-Some-clause-step g c =
    let m = c.units.self in
    let q = c.read_held.new.self in
    let u = c.in-Ok-Some.unit in
    let found = some_found m q u c.in-Ok-Some.field-0 c.in-Ok-Some.field-0-is c.in-Ok-Some.ensures.found in
    steps_from g.R.Input.can_give c.args.self.now m c.pass.new.self (Ok (Some c.in-Some.given)) c.units.invariant.on
    (sym (ap (λ v. v.failed) c.self.view_is) ∙ c.if-self.false)
    (unit_gives g.R.Input.can_give m q c.pass.new.self u c.read_held.ensures.bound found c.pass.ensures.gone
    (c.units.invariant.on.failed ∙ (sym (ap (λ v. v.failed) c.self.view_is) ∙ c.if-self.false)) c.in-Some.given c.in-Some.ensures.gave)

pub returns-in-Some-clause-fewer : goal.returns-in-Some-clause-fewer
returns-in-Some-clause-fewer g c = λ _.
    let m = c.units.self in
    let q = c.read_held.new.self in
    let u = c.in-Ok-Some.unit in
    let found = some_found m q u c.in-Ok-Some.field-0 c.in-Ok-Some.field-0-is c.in-Ok-Some.ensures.found in
    omega (
      arith,
      c.units.invariant.on.offset,
      unit_further g.R.Input.can_give m q c.pass.new.self u c.read_held.ensures.bound found
          c.pass.ensures.gone,
      c.read_held.ensures.bound,
    )

pub units-smaller-in-None : goal.units-smaller-in-None
units-smaller-in-None g c =
    let m = c.units.self in
    let q = c.read_held.new.self in
    let u = c.in-Ok-Some.unit in
    let found = some_found m q u c.in-Ok-Some.field-0 c.in-Ok-Some.field-0-is c.in-Ok-Some.ensures.found in
    unit_lessens g.R.Input.can_give m q c.pass.new.self u c.read_held.ensures.bound found c.pass.ensures.gone

pub units-preserved-in-None : goal.units-preserved-in-None
units-preserved-in-None g c =
    let m = c.units.self in
    let q = c.read_held.new.self in
    let u = c.in-Ok-Some.unit in
    let found = some_found m q u c.in-Ok-Some.field-0 c.in-Ok-Some.field-0-is c.in-Ok-Some.ensures.found in
    record {
      on =
          gone_further g.R.Input.can_give c.args.self.now m c.pass.new.self c.units.invariant.on
          (unit_passes g.R.Input.can_give m q c.pass.new.self u c.read_held.ensures.bound found c.pass.ensures.gone c.in-None.ensures.gave);
      within = omega arith;
      none = none_in_nothing (state_at c.pass.new.self);
    }

pub returns-in-Ok-None-clause-step : goal.returns-in-Ok-None-clause-step
returns-in-Ok-None-clause-step g c =
    let m = c.units.self in
    let q = c.read_held.new.self in
    let found = none_found m q c.in-Ok-None.field-0 c.in-Ok-None.field-0-is c.in-Ok-None.ensures.found in
    let same = none_same m q found in
    steps_from g.R.Input.can_give c.args.self.now q c.finish_input.new.self c.finish_input.result
    (gone_none g.R.Input.can_give c.args.self.now m q c.units.invariant.on found same.0 same.1 same.2 same.3)
    (sym (ap (λ v. v.failed) c.self.view_is) ∙ c.if-self.false) c.finish_input.ensures.step

pub returns-in-Ok-None-2-clause-step : goal.returns-in-Ok-None-2-clause-step
returns-in-Ok-None-2-clause-step g c =
    let m = c.units.self in
    let q = c.read_held.new.self in
    let found = none_found m q c.in-Ok-None.field-0 c.in-Ok-None.field-0-is c.in-Ok-None.ensures.found in
    let same = none_same m q found in
    steps_from g.R.Input.can_give c.args.self.now q c.refuse_unknown.new.self (Err c.refuse_unknown.result)
    (gone_none g.R.Input.can_give c.args.self.now m q c.units.invariant.on found same.0 same.1 same.2 same.3)
    (sym (ap (λ v. v.failed) c.self.view_is) ∙ c.if-self.false) c.refuse_unknown.ensures.step

pub units-preserved : goal.units-preserved
units-preserved g c =
    let m = c.units.self in
    let r = c.shorten_comment.new.self in
    let found = none_found m c.read_held.new.self c.in-Ok-None.field-0 c.in-Ok-None.field-0-is c.in-Ok-None.ensures.found in
    let short =
    gone_shorter g.R.Input.can_give c.args.self.now m c.read_held.new.self r c.units.invariant.on c.read_held.ensures.bound found
    c.shorten_comment.ensures in
    let read = c.in_ok-fill-in-Ok-None-3.ensures in
    let size : c.len-searched.result ≡ length r.held = search rules in
    record {
      on = gone_read g.R.Input.can_give c.args.self.now r c.fill.new.self short.on read.on c.fill.ensures.input;
      within = omega (arith, size, ap length read.kept, length-take (length r.held) c.fill.new.self.held);
      none = rw size (none_still r c.fill.new.self short.known short.none read.on.stage read.kept);
    }

pub returns-in_err-fill-in-Ok-None-3-clause-step : goal.returns-in_err-fill-in-Ok-None-3-clause-step
returns-in_err-fill-in-Ok-None-3-clause-step g c =
    let m = c.units.self in
    let r = c.shorten_comment.new.self in
    let found = none_found m c.read_held.new.self c.in-Ok-None.field-0 c.in-Ok-None.field-0-is c.in-Ok-None.ensures.found in
    let short =
    gone_shorter g.R.Input.can_give c.args.self.now m c.read_held.new.self r c.units.invariant.on c.read_held.ensures.bound found
    c.shorten_comment.ensures in
    let e = err_from_is_err_and c.from_residual.result c.from_residual.ensures.1 in
    let fault = c.in_err-fill-in-Ok-None-3.field-0.0 in
    let fine : c.args.self.now.failed ≡ false = sym (ap (λ v. v.failed) c.self.view_is) ∙ c.if-self.false in
    rw (e.1, e.2) (steps_from g.R.Input.can_give c.args.self.now r c.fill.new.self (Err fault) short.on fine
    (fill_refused g.R.Input.can_give r c.fill.new.self fault (short.on.failed ∙ fine) c.in_err-fill-in-Ok-None-3.ensures.refused
    short.none short.bound c.in_err-fill-in-Ok-None-3.ensures.stops))

pub returns-in-Err-clause-step : goal.returns-in-Err-clause-step
returns-in-Err-clause-step g c =
    let m = c.units.self in
    let q = c.read_held.new.self in
    let offset = ap (λ v. v.offset) c.refuse.view_is ∙ c.read_held.ensures.offset in
    let is = c.refuse-in-Err.ensures.fault ∙ (λ i. fault_at (c.read_held.ensures.input i) (offset i) c.in-Err.reason) in
    steps_from g.R.Input.can_give c.args.self.now m c.refuse-in-Err.new.self (Err c.refuse-in-Err.result) c.units.invariant.on
    (sym (ap (λ v. v.failed) c.self.view_is) ∙ c.if-self.false)
    (unit_refused g.R.Input.can_give m q c.refuse-in-Err.new.self c.in-Err.reason c.refuse-in-Err.result (g.R.Input.one m.rest)
    (g.R.Input.possible m.rest) (c.units.invariant.on.failed ∙ (sym (ap (λ v. v.failed) c.self.view_is) ∙ c.if-self.false))
    (ap (λ v. v.failed) c.refuse-in-Err.ensures.failed) c.read_held.ensures.bound
    c.in-Err.ensures.found is)
