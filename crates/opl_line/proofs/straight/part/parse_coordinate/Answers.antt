use mir.Val.{to_z, of_z}
use mir.Syntax.{w32}
use Rattle.std.proofs.Common.{◌≡◌, ◌<◌, true, Ok, ◌++◌, sym, ap, ◌∙◌, rules}
use Rattle.osm_model.specs.Coordinate.{degrees_text, coordinate_text}
use Rattle.opl_line.specs.Number.{is_negative, without_sign, reading_units}
use Rattle.opl_line.proofs.StraightPartLaws.{place_read, place_is, some_signed}
use Rattle.opl_line.proofs.straight.part.parse_coordinate.Goals as goal

pub returns : goal.returns
returns c =
    let text = c.args.text.now in
    let n = c.in_ok-units.units in
    let after = c.in_ok-units.after.now in
    let digits : without_sign text ≡ degrees_text n ++ after = sym c.split_sign-is_negative.ensures.rest ∙ c.in_ok-units.ensures.text in
    let some : is_negative text ≡ true → 0 < n = some_signed c.split_sign-is_negative.result.0
    (is_negative text) n c.split_sign-is_negative.ensures.sign c.else-is_negative.either in
    let sign : c.split_sign-is_negative.result.0 ≡ is_negative text = c.split_sign-is_negative.ensures.sign in
    let read : reading_units (is_negative text) n ≡ Ok c.in-Ok.coordinate = search rules in
    let same : to_z w32 (of_z w32 c.in-Ok.coordinate) ≡ c.in-Ok.coordinate = search rules in
    place_read text after n some digits ∙ ap (λ z. coordinate_text z ++ after)
    (place_is (is_negative text) n c.in-Ok.coordinate read ∙ sym same)
