use Rattle.std.proofs.Common.{◌≡◌, [], codes, rules, if◌then◌else◌}
use Rattle.osm_model.proofs.CursorLaws.{coming_is, reference_step}
use Rattle.osm_model.proofs.line_bytes.emit_reference.Goals as goal
use Rattle.osm_model.proofs.line_bytes.emit_reference.Goals.{then-is_first, else-is_first}

pub returns : goal.returns
returns c = λ v.
    let mark : c.if-is_first.set_integer.now ≡ (if c.args.is_first then codes "n" else codes ",n") =
    elim c.if-is_first.branch [ then-is_first w ↦ search rules | else-is_first w ↦ search rules ] in
    reference_step c.in_ok-id.id.now c.args.ids.now c.in_ok-id.more.now c.args.is_first c.if-is_first.set_integer.now _ _
    (search rules) mark (search rules) (coming_is v c.at.result [] _ c.at.ensures.text c.at.ensures.position)
