use Rattle.std.proofs.Common.{◌≡◌, ◌<◌, ◌≤◌, ◌+◌, ◌-◌, ◌^◌, sym, ap, ◌∙◌, arith, Some}
use Rattle.o5_codec.specs.Table.{table_limit}
use Rattle.o5_codec.specs.Formed.{reference_to}
use Rattle.o5_codec.proofs.IndexSteps.{found_low, found_high, found_in, number_below, room_above, limit_is_small}
use Rattle.o5_codec.proofs.write.indexed_table.IndexedTable.reference_to.Goals as goal

pub returns-then-number-self : goal.returns-then-number-self
returns-then-number-self c =
    let at = found_in _ _ _ _ _ _ _ c.self.invariant.indexed c.in_ok-number.ensures.value in
    sym (found_low _ _ _ _ _ at.0 at.1 limit_is_small c.if-number-self.true) ∙ ap (reference_to c.args.entry.now) c.self.view_is

pub overflow_add-result-2 : goal.overflow_add-result-2
unfolding table_limit
overflow_add-result-2 c =
    let at = found_in _ _ _ _ _ _ _ c.self.invariant.indexed c.in_ok-number.ensures.value in
    let room : c.self.inside.next + 2 ^ 64 ≤ c.in_ok-number.field-0.now + table_limit =
    room_above _ _ _ _ _ at.0 at.1 c.if-number-self.false in
    let below : c.in_ok-number.field-0.now < 2 ^ 64 = number_below _ _ _ _ at.0 in
    omega arith

pub returns : goal.returns
returns c =
    let at = found_in _ _ _ _ _ _ _ c.self.invariant.indexed c.in_ok-number.ensures.value in
    let below : c.in_ok-number.field-0.now < 2 ^ 64 = number_below _ _ _ _ at.0 in
    let same : c.self.inside.next + (18446744073709551615 - c.in_ok-number.field-0.now) + 1
    ≡ c.self.inside.next + 2 ^ 64 - c.in_ok-number.field-0.now = omega arith in
    ap (λ n. Some n) same ∙ sym (found_high _ _ _ _ _ at.0 at.1 c.if-number-self.false) ∙ ap (reference_to c.args.entry.now) c.self.view_is
