use Rattle.std.proofs.Common.{◌≡◌, ◌≢◌, ◌<◌, ◌++◌, length, take, get_or, arith, sym, ap, ◌∙◌}
use Rattle.std.proofs.lemmas.Bool.{eqb-false}
use Rattle.std.proofs.lemmas.List.{take-append-drop, take_rest, length-take-le}
use Rattle.osm_model.specs.Decimal.{number_text}
use Rattle.opl_line.proofs.StraightPartLaws.{numeral_text, no_zero}
use Rattle.opl_line.proofs.straight.part.numeral.Goals as goal
use Rattle.opl_line.proofs.straight.part.numeral.Goals.{then-length-gt1, else-length-gt1}

pub returns-clause-text : goal.returns-clause-text
returns-clause-text c =
    let read = c.leading_digits-number in
    let text = c.args.text.now in
    let count = read.result.1 in
    let long : length (take count text) ≡ count = length-take-le count text read.ensures.within in
    let first : 1 < length (take count text) → get_or (take count text) 0 0 ≢ 48 = elim c.if-length-gt1.branch [
      | then-length-gt1 w ↦ no_zero text count (eqb-false (get_or text 0 0) 48 (sym w.value-is ∙ c.if-text-eq48.false))
      | else-length-gt1 w ↦ λ more. absurd (omega (arith, more, long, w.if-length-gt1))
    ] in
    let is : number_text read.result.0 ≡ take count text = ap number_text read.ensures.value
    ∙ numeral_text (take count text) (omega (arith, long)) read.ensures.digits first in
    sym (take-append-drop count text) ∙ (λ i. sym is i ++ sym (take_rest text count) i)
