use Rattle.std.proofs.Common.{◌++◌, arith, sym, ap}
use Rattle.std.proofs.lemmas.List.{take_rest}
use Rattle.opl_line.proofs.StraightPartLaws.{fraction_front, fraction_fits, no_fraction}
use Rattle.opl_line.proofs.straight.part.fraction.Goals as goal

pub returns-then-is_empty-clause-text : goal.returns-then-is_empty-clause-text
returns-then-is_empty-clause-text c = sym (ap (λ t. t ++ c.args.text.now) no_fraction)

pub returns-clause-text : goal.returns-clause-text
returns-clause-text c =
    let read = c.leading_digits-decimals in
    let text = c.args.text.now in
    fraction_front text _ read.result.1 read.result.0 c.scale.result (take_rest text 1)
    (omega arith) read.ensures.within read.ensures.few read.ensures.digits read.ensures.value c.scale.ensures.value c.if-decimals-eq0.false

pub returns-clause-bound : goal.returns-clause-bound
returns-clause-bound c =
    let read = c.leading_digits-decimals in
    fraction_fits _ read.result.1 read.result.0 c.scale.result read.ensures.within read.ensures.few read.ensures.digits read.ensures.value
    c.scale.ensures.value
