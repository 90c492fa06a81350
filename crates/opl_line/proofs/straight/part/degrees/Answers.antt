use Rattle.std.proofs.Common.{◌++◌, sym, ap, ◌∙◌, append_assoc}
use Rattle.osm_model.specs.Decimal.{number_text}
use Rattle.osm_model.specs.Coordinate.{fraction_text}
use Rattle.opl_line.proofs.StraightPartLaws.{degrees_read}
use Rattle.opl_line.proofs.straight.part.degrees.Goals as goal

pub returns-clause-text : goal.returns-clause-text
returns-clause-text c =
    let whole = c.in_ok-whole.whole in
    let units = c.in_ok-units.units in
    let rest = c.in_ok-units.rest.now in
    c.in_ok-whole.ensures.text
    ∙ ap (λ t. number_text whole ++ t) c.in_ok-units.ensures.text
    ∙ sym (append_assoc (number_text whole) (fraction_text units) rest)
    ∙ ap (λ t. t ++ rest) (sym (degrees_read whole units c.in_ok-units.ensures.bound))
