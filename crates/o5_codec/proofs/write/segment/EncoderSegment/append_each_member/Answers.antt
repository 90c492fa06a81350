use Rattle.std.proofs.Common.{◌∷◌, ◌+◌, ◌∙◌, ap, sym, drop}
use Rattle.std.proofs.lemmas.List.{drop_more, drop_all}
use Rattle.o5_codec.proofs.TurnSteps.{turns_begin, turns_more, turns_end, member_at}
use Rattle.o5_codec.specs.Writing.{members_spelling}
use Rattle.o5_codec.proofs.write.segment.EncoderSegment.append_each_member.Goals as goal

pub loop-member-init : goal.loop-member-init
loop-member-init c = turns_begin _ _ _ _

pub append_member-requires : goal.append_member-requires
append_member-requires c =
    member_at c.args.members.now c.loop-member.member-index c.member-item.result c.loop-member-test.true c.member-item.is c.requires

pub loop-member-preserved : goal.loop-member-preserved
loop-member-preserved c =
    turns_more _ _ _ _ c.member-item.result _ _ _ _ _ _ c.loop-member.invariant
    (drop_more c.args.members.now c.loop-member.member-index c.member-item.result c.loop-member-test.true
    ∙ ap (λ x. x ∷ drop (c.loop-member.member-index + 1) c.args.members.now) (sym c.member-item.is))
    c.in_ok-append_member.ensures

pub returns : goal.returns
unfolding members_spelling
returns c = turns_end _ _ _ _ _ _ _ c.loop-member.invariant (drop_all _ _ c.loop-member-test.false)
