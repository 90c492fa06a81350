use Rattle.std.proofs.Common.{◌≡◌, ◌∙◌, true, false, ap, sym, subst, refl, Ok, Err, Some, None, option_to_list}
use Rattle.std.proofs.lemmas.Result.{err_from_is_err_and}
use Rattle.std.specs.Ordering.{is_lt, is_gt}
use Rattle.std.specs.Vec.Iter.{into_iter_items}
use Rattle.osm_model.specs.Order.{key_cmp}
use Rattle.osm_files.specs.declared.reason.Reason.TheVariants.{Unsorted}
use Rattle.osm_files.specs.Fault.{fault_at}
use Rattle.osm_files.specs.Groups.{FileSourceData, source_data}
use Rattle.osm_files.specs.Source.{StepsOn}
use Rattle.osm_files.proofs.SourceSteps.{open_source, begin_refused, begin_ended, second_refused, second_ends, second_follows, second_falls}
use Rattle.osm_files.proofs.SourceSteps.{second_joins}
use Rattle.osm_files.proofs.source.FileSource.next_group.Goals as goal

pub returns-in_err-first-clause-step : goal.returns-in_err-first-clause-step
returns-in_err-first-clause-step g c =
    let p = err_from_is_err_and c.from_residual.result c.from_residual.ensures.1 in
    rw (p.1, p.2) (begin_refused g.R.Input.can_give c.args.self.now c.in_err-first.field-0.0 c.begin.new.self c.requires.nothing
    c.begin.ensures.taken.1 c.in_err-first.ensures.begins)

pub returns-in_default-clause-step : goal.returns-in_default-clause-step
returns-in_default-clause-step g c =
    begin_ended g.R.Input.can_give c.args.self.now c.begin.new.self c.requires.nothing c.begin.ensures.taken.0 c.begin.ensures.taken.1
    (rw c.in_default.is at c.in_ok-first.ensures.begins)

pub invariant_of-self : goal.invariant_of-self
invariant_of-self g c = open_source g.R.Input.can_give c.next.new.self c.self.inside.pending _
    (ap (λ v. v.ready) c.self.view_is ∙ c.begin.ensures.taken.1)

pub returns-in_err-second-clause-step : goal.returns-in_err-second-clause-step
returns-in_err-second-clause-step g c =
    let i = c.self.inside in
    let none = ap (λ v. v.ready) c.self.view_is ∙ c.begin.ensures.taken.1 in
    let begins = rw c.in-Some.is at c.in_ok-first.ensures.begins in
    let step = subst (λ (x : FileSourceData _). StepsOn g.R.Input.can_give x.units (Err c.in_err-second.field-0.0) c.next.new.self)
    c.self.view_is c.in_err-second.ensures.step in
    let p = err_from_is_err_and c.from_residual-in_err-second.result c.from_residual-in_err-second.ensures.1 in
    rw (p.1, p.2) (second_refused g.R.Input.can_give c.args.self.now c.requires.nothing c.begin.new.self.units c.in-Some.first begins
    c.in_err-second.field-0.0 (source_data c.next.new.self (option_to_list i.pending) (into_iter_items i.ready)) none step)

pub returns-in_default-2-clause-step : goal.returns-in_default-2-clause-step
returns-in_default-2-clause-step g c =
    let i = c.self.inside in
    let none = ap (λ v. v.ready) c.self.view_is ∙ c.begin.ensures.taken.1 in
    let ends = ap (λ v. v.group) c.self.view_is ∙ c.begin.ensures.taken.0 in
    let begins = rw c.in-Some.is at c.in_ok-first.ensures.begins in
    let step = subst (λ (x : FileSourceData _). StepsOn g.R.Input.can_give x.units (Ok None) c.next.new.self) c.self.view_is
    (rw c.in_default-2.is at c.in_ok-second.ensures.step) in
    second_ends g.R.Input.can_give c.args.self.now c.requires.nothing c.begin.new.self.units c.in-Some.first begins
    (source_data c.next.new.self (option_to_list i.pending) (into_iter_items i.ready)) ends none step

pub returns-then-is_lt-clause-step : goal.returns-then-is_lt-clause-step
returns-then-is_lt-clause-step g c =
    let i = c.self.inside in
    let first = c.in-Some.first in
    let second = c.in-Some-2.second in
    let none = ap (λ v. v.ready) c.self.view_is ∙ c.begin.ensures.taken.1 in
    let less : is_lt (key_cmp first second.version) ≡ true = ap is_lt (sym c.key_cmp-order.ensures) ∙ sym c.is_lt.ensures
    ∙ c.if-is_lt.true in
    let begins = rw c.in-Some.is at c.in_ok-first.ensures.begins in
    let step = subst (λ (x : FileSourceData _). StepsOn g.R.Input.can_give x.units (Ok (Some second)) c.next.new.self) c.self.view_is
    (rw c.in-Some-2.is at c.in_ok-second.ensures.step) in
    second_follows g.R.Input.can_give c.args.self.now c.requires.nothing c.begin.new.self.units first begins second c.next.new.self step
    (source_data c.next.new.self (option_to_list (Some second.version)) (into_iter_items i.ready)) refl refl none less

pub invariant_of-self-then-is_gt : goal.invariant_of-self-then-is_gt
invariant_of-self-then-is_gt g c = open_source g.R.Input.can_give c.refuse.new.self c.self.inside.pending _
    (ap (λ v. v.ready) c.self.view_is ∙ c.begin.ensures.taken.1)

pub returns-then-is_gt-clause-step : goal.returns-then-is_gt-clause-step
returns-then-is_gt-clause-step g c =
    let i = c.self.inside in
    let first = c.in-Some.first in
    let second = c.in-Some-2.second in
    let none = ap (λ v. v.ready) c.self.view_is ∙ c.begin.ensures.taken.1 in
    let greater : is_gt (key_cmp first second.version) ≡ true = ap is_gt (sym c.key_cmp-order.ensures) ∙ sym c.is_gt.ensures
    ∙ c.if-is_gt.true in
    let input = c.next.ensures.input ∙ ap (λ (v : FileSourceData _). v.units.input) c.self.view_is ∙ c.begin.ensures.input in
    let is = c.refuse.ensures.fault ∙ ap (λ n. fault_at n second.offset Unsorted) input in
    let begins = rw c.in-Some.is at c.in_ok-first.ensures.begins in
    let step = subst (λ (x : FileSourceData _). StepsOn g.R.Input.can_give x.units (Ok (Some second)) c.next.new.self) c.self.view_is
    (rw c.in-Some-2.is at c.in_ok-second.ensures.step) in
    second_falls g.R.Input.can_give c.args.self.now c.requires.nothing c.begin.new.self.units first begins second c.next.new.self step
    c.refuse.result (source_data c.refuse.new.self (option_to_list i.pending) (into_iter_items i.ready)) c.refuse.ensures.failed none
    greater is

pub invariant_of-self-else-is_gt : goal.invariant_of-self-else-is_gt
invariant_of-self-else-is_gt g c = open_source g.R.Input.can_give c.next.new.self c.self.inside.pending _
    (ap (λ v. v.ready) c.self.view_is ∙ c.begin.ensures.taken.1)

pub returns-clause-step : goal.returns-clause-step
returns-clause-step g c =
    let first = c.in-Some.first in
    let second = c.in-Some-2.second in
    let not_above : is_lt (key_cmp first second.version) ≡ false = ap is_lt (sym c.key_cmp-order.ensures) ∙ sym c.is_lt.ensures
    ∙ c.if-is_lt.false in
    let not_below : is_gt (key_cmp first second.version) ≡ false = ap is_gt (sym c.key_cmp-order.ensures) ∙ sym c.is_gt.ensures
    ∙ c.if-is_gt.false in
    let input = c.next.ensures.input ∙ ap (λ (v : FileSourceData _). v.units.input) c.self.view_is ∙ c.begin.ensures.input in
    let begins = rw c.in-Some.is at c.in_ok-first.ensures.begins in
    let step = subst (λ (x : FileSourceData _). StepsOn g.R.Input.can_give x.units (Ok (Some second)) c.next.new.self) c.self.view_is
    (rw c.in-Some-2.is at c.in_ok-second.ensures.step) in
    second_joins g.R.Input.can_give c.args.self.now c.requires.nothing c.begin.new.self.units first begins second c.next.new.self step
    c.next_of_many.result c.next_of_many.new.self input not_above not_below c.next_of_many.ensures.step
