use Rattle.std.proofs.Common.{◌≡◌, [], ◌∷◌, rules, if◌then◌else◌}
use Rattle.osm_model.specs.Kind.{kind_letter}
use Rattle.osm_model.proofs.CursorLaws.{coming_is, member_step}
use Rattle.osm_model.proofs.line_bytes.emit_member.Goals as goal
use Rattle.osm_model.proofs.line_bytes.emit_member.Goals.{then-is_first, else-is_first}

pub returns : goal.returns
returns c = λ v.
    let letter = kind_letter c.in_ok-member.member.now.kind in
    let mark : c.if-is_first.set_integer.now ≡ (if c.args.is_first then letter ∷ [] else 44 ∷ letter ∷ []) =
    elim c.if-is_first.branch [ then-is_first w ↦ search rules | else-is_first w ↦ search rules ] in
    member_step c.in_ok-member.member.now c.args.members.now c.in_ok-member.more.now c.args.is_first c.if-is_first.set_integer.now _ _
    (search rules) mark (search rules) (coming_is v c.at.result [] _ c.at.ensures.text c.at.ensures.position)
