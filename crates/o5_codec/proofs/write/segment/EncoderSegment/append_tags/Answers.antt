use Rattle.std.proofs.Common.{◌∷◌, ◌+◌, ◌∙◌, ap, sym, drop}
use Rattle.std.proofs.lemmas.List.{drop_more, drop_all}
use Rattle.o5_codec.proofs.TurnSteps.{turns_begin, turns_more, turns_end}
use Rattle.o5_codec.specs.Writing.{tags_spelling}
use Rattle.o5_codec.proofs.write.segment.EncoderSegment.append_tags.Goals as goal

pub loop-tag-init : goal.loop-tag-init
loop-tag-init c = turns_begin _ _ _ _

pub loop-tag-preserved : goal.loop-tag-preserved
loop-tag-preserved c =
    turns_more _ _ _ _ c.tag-item.result _ _ _ _ _ _ c.loop-tag.invariant
    (drop_more c.args.tags.now c.loop-tag.tag-index c.tag-item.result c.loop-tag-test.true
    ∙ ap (λ x. x ∷ drop (c.loop-tag.tag-index + 1) c.args.tags.now) (sym c.tag-item.is))
    (rw c.of_tag.ensures at c.in_ok-append_strings.ensures)

pub returns : goal.returns
unfolding tags_spelling
returns c = turns_end _ _ _ _ _ _ _ c.loop-tag.invariant (drop_all _ _ c.loop-tag-test.false)
