use Rattle.std.proofs.Common.{rules}
use Rattle.std.proofs.lemmas.Int.{to_z-of_z}
use mir.Val.{SFits}
use mir.Syntax.{w64}
use Rattle.o5_codec.proofs.TurnSteps.{turn_next, turn_last, plainly}
use Rattle.o5_codec.specs.Writing.{content_spelling}
use Rattle.o5_codec.proofs.write.segment.EncoderSegment.append_content.Goals as goal

pub returns : goal.returns
unfolding content_spelling
returns c =
    let fits : SFits w64 c.id.result = search rules in
    let own = simp to_z-of_z at c.in_ok-append_id.ensures in
    let id = rw c.id.ensures.value at own in
    let number = rw c.number.ensures at c.in_ok-append_number.ensures in
    let time = rw (c.unwrap_or.ensures, c.time.ensures.value) at c.in_ok-append_time.ensures in
    let body = rw c.body.ensures at c.in_ok-append_body.ensures in
    turn_next _ _ _ _ _ _ _ _ id (turn_next _ _ _ _ _ _ _ _ (plainly _ _ _ _ number) (turn_next _ _ _ _ _ _ _ _ time
    (turn_next _ _ _ _ _ _ _ _ c.in_ok-append_author.ensures (turn_last _ _ _ _ _ body))))
