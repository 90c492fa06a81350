use Rattle.std.proofs.Common.{get_or, pos, rules}
use Rattle.std.proofs.lemmas.List.{drop_more, drop_all}
use Rattle.std.proofs.lemmas.Int.{to_z-of_z}
use mir.Val.{SFits}
use mir.Syntax.{w64}
use Rattle.o5_codec.proofs.TurnSteps.{turns_begin, turns_more, turns_end}
use Rattle.o5_codec.specs.Writing.{references_spelling}
use Rattle.o5_codec.proofs.write.segment.EncoderSegment.append_each_reference.Goals as goal

pub loop-id-init : goal.loop-id-init
loop-id-init c = turns_begin _ _ _ _

pub loop-id-preserved : goal.loop-id-preserved
loop-id-preserved c =
    let fits : SFits w64 (get_or c.args.ids.now c.loop-id.id-index (pos 0)) = search rules in
    let reference = simp to_z-of_z at c.in_ok-append_reference.ensures in
    turns_more _ _ _ _ _ _ _ _ _ _ _ c.loop-id.invariant (drop_more c.args.ids.now c.loop-id.id-index (pos 0) c.loop-id-test.true) reference

pub returns : goal.returns
unfolding references_spelling
returns c = turns_end _ _ _ _ _ _ _ c.loop-id.invariant (drop_all _ _ c.loop-id-test.false)
