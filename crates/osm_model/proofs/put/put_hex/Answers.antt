use Rattle.std.proofs.Common.{◌≡◌, ◌≤◌, ◌/◌, ◌%◌, ◌++◌, ◌∷◌, [], ℕ, List, drop, arith, rules, append_assoc, ap, sym, ◌∙◌}
use Rattle.std.specs.Char.{digit_char}
use Rattle.osm_model.specs.Numeral.{numeral}
use Rattle.osm_model.proofs.NumeralLaws.{numeral-step, numeral-digit, length-numeral-le, length-numeral-step, length-numeral-digit}
use Rattle.osm_model.proofs.put.put_hex.Goals as goal

pub put_byte-start-requires-clause-fits : goal.put_byte-start-requires-clause-fits
put_byte-start-requires-clause-fits c =
    let all = length-numeral-le 16 8 c.args.number (omega arith) (omega arith) (omega arith) in
    let more = length-numeral-step 16 c.loop-rest.rest (omega arith) c.loop-rest-test.true in
    omega arith

-- the next digit of a number that has several
next_digit : (rest digit : ℕ) (all here next : List ℕ) → 16 ≤ rest → all ≡ numeral 16 rest ++ here → digit ≡ digit_char (rest % 16) →
    next ≡ digit ∷ here →
    all ≡ numeral 16 (rest / 16) ++ next
next_digit rest digit all here next more same is now =
    rw (now, is) (same ∙ ap (λ t. t ++ here) (numeral-step 16 rest (omega arith) more)
    ∙ append_assoc (numeral 16 (rest / 16)) (digit_char (rest % 16) ∷ []) here)

pub loop-rest-preserved : goal.loop-rest-preserved
loop-rest-preserved c =
    let more = length-numeral-step 16 c.loop-rest.rest (omega arith) c.loop-rest-test.true in
    record {
      written = next_digit _ _ _ _ _ c.loop-rest-test.true c.loop-rest.invariant.written c.hex_digit.ensures
          c.put_byte-start.ensures.written;
      start = omega arith;
      onward = omega arith;
      size = search rules;
    }

pub put_byte-requires-clause-fits : goal.put_byte-requires-clause-fits
put_byte-requires-clause-fits c =
    let all = length-numeral-le 16 8 c.args.number (omega arith) (omega arith) (omega arith) in
    let last = length-numeral-digit 16 c.loop-rest.rest (omega arith) (omega arith) in
    omega arith

pub returns-clause-written : goal.returns-clause-written
returns-clause-written c =
    let last = numeral-digit 16 c.loop-rest.rest (omega arith) (omega arith) in
    c.put_byte.ensures.written ∙ ap (λ d. d ∷ drop c.loop-rest.start c.loop-rest.buffer) c.hex_digit-2.ensures
    ∙ sym (c.loop-rest.invariant.written ∙ ap (λ t. t ++ drop c.loop-rest.start c.loop-rest.buffer) last)

pub returns-clause-start : goal.returns-clause-start
returns-clause-start c =
    let last = length-numeral-digit 16 c.loop-rest.rest (omega arith) (omega arith) in
    omega arith

pub returns-clause-short : goal.returns-clause-short
returns-clause-short c =
    let all = length-numeral-le 16 8 c.args.number (omega arith) (omega arith) (omega arith) in
    let last = length-numeral-digit 16 c.loop-rest.rest (omega arith) (omega arith) in
    omega arith
