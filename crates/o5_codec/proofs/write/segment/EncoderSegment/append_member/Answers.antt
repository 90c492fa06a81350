use Rattle.std.proofs.Common.{rules}
use Rattle.std.proofs.lemmas.Int.{to_z-of_z}
use mir.Val.{SFits}
use mir.Syntax.{w64}
use Rattle.o5_codec.proofs.TurnSteps.{turn_next, turn_last}
use Rattle.o5_codec.specs.Writing.{member_spelling}
use Rattle.o5_codec.proofs.write.segment.EncoderSegment.append_member.Goals as goal

pub returns : goal.returns
unfolding member_spelling
returns c =
    let fits : SFits w64 c.args.member.now.id = search rules in
    let id = simp to_z-of_z at c.in_ok-append_member_id.ensures in
    turn_next _ _ _ _ _ _ _ _ id (turn_last _ _ _ _ _ (rw c.of_member.ensures at c.in_ok-append_strings.ensures))
