use Rattle.std.proofs.Common.{◌≡◌, ◌<◌, true, ◌++◌, sym, ap, ◌∙◌, rules}
use Rattle.osm_model.specs.Decimal.{number_text, integer_text}
use Rattle.opl_line.specs.Number.{is_negative, without_sign, with_sign}
use Rattle.opl_line.proofs.StraightPartLaws.{integer_read, some_signed}
use Rattle.opl_line.proofs.straight.part.parse_id.Goals as goal
use Rattle.opl_line.proofs.straight.part.parse_id.Goals.{then-is_negative-2, else-is_negative-2}

pub returns-clause-text : goal.returns-clause-text
returns-clause-text c =
    let text = c.args.text.now in
    let n = c.in_ok-magnitude.magnitude in
    let after = c.in_ok-magnitude.after.now in
    let digits : without_sign text ≡ number_text n ++ after = sym c.split_sign-is_negative.ensures.rest
    ∙ c.in_ok-magnitude.ensures.text in
    let some : is_negative text ≡ true → 0 < n = some_signed c.split_sign-is_negative.result.0
    (is_negative text) n c.split_sign-is_negative.ensures.sign c.else-is_negative.either in
    let sign : c.split_sign-is_negative.result.0 ≡ is_negative text = c.split_sign-is_negative.ensures.sign in
    let same : with_sign (is_negative text) n ≡ c.if-is_negative-2.result = elim c.if-is_negative-2.branch [
      | then-is_negative-2 w ↦ search rules
      | else-is_negative-2 w ↦ search rules
    ] in
    integer_read text after n some digits ∙ ap (λ z. integer_text z ++ after) (same ∙ sym c.if-is_negative-2.result-is)
