use Rattle.std.proofs.Common.{arith, append_assoc, ◌≡◌, ◌-◌, ◌++◌, length, drop, replicate, sym, ap, ◌∙◌}
use Rattle.osm_model.specs.Numeral.{pad_zeros}
use Rattle.osm_model.specs.Decimal.{number_text}
use Rattle.osm_model.proofs.DecimalLaws.{length-number-le}
use Rattle.osm_model.proofs.put.put_padded.Goals as goal

pub overflow_sub-width : goal.overflow_sub-width
overflow_sub-width c =
    let fits = length-number-le c.args.width c.args.number c.requires.some c.requires.fits in
    omega arith

pub returns-clause-written : goal.returns-clause-written
unfolding pad_zeros
returns-clause-written c =
    let zeros : c.args.width - (c.args.end - c.put_number-digits.result) ≡ c.args.width - length (number_text c.args.number) =
    omega arith in
    c.put_zeros.ensures.written
    ∙ ap (λ n. replicate n 48 ++ drop c.put_number-digits.result c.put_number-digits.new.buffer) zeros
    ∙ ap (λ t. replicate (c.args.width - length (number_text c.args.number)) 48 ++ t) c.put_number-digits.ensures.written
    ∙ sym (append_assoc _ (number_text c.args.number) (drop c.args.end c.args.buffer.now))

pub returns-clause-start : goal.returns-clause-start
returns-clause-start c =
    let fits = length-number-le c.args.width c.args.number c.requires.some c.requires.fits in
    omega arith
