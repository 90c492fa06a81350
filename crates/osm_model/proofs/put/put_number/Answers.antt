use Rattle.std.proofs.Common.{◌++◌, drop, arith, rules, sym, ap, ◌∙◌}
use Rattle.std.proofs.lemmas.Fmt.{length-decimal-le}
use Rattle.osm_model.proofs.DecimalLaws.{number_decimal}
use Rattle.osm_model.proofs.put.put_number.Goals as goal

pub write_digits-requires : goal.write_digits-requires
write_digits-requires c =
    let short = length-decimal-le 20 c.args.number (omega arith) (omega arith) c.ranges.number.fits in
    (omega arith, search rules)

pub returns-clause-written : goal.returns-clause-written
returns-clause-written c =
    c.write_digits.ensures.written ∙ ap (λ t. t ++ drop c.args.end c.args.buffer.now)
    (sym (number_decimal c.args.number c.ranges.number.fits))

pub returns-clause-start : goal.returns-clause-start
returns-clause-start c = rw (number_decimal c.args.number c.ranges.number.fits) c.write_digits.ensures.start

pub returns-clause-short : goal.returns-clause-short
returns-clause-short c =
    let short = length-decimal-le 20 c.args.number (omega arith) (omega arith) c.ranges.number.fits in
    omega (arith, c.write_digits.ensures.start)
