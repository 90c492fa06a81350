use Rattle.std.proofs.Common.{◌∙◌, ap, sym, Ok}
use Rattle.std.proofs.lemmas.Result.{err_from_is_err_and}
use Rattle.o5_codec.specs.Body.{tag_at}
use Rattle.o5_codec.proofs.ItemSteps.{items_begin, items_end, items_added, items_not_added, empty_by_test, filled_by_test}
use Rattle.o5_codec.proofs.read.segment.Segment.read_each_tag.Goals as goal

pub loop-rest-init : goal.loop-rest-init
loop-rest-init c = rw c.take_tags-tags.ensures (items_begin tag_at c.args.self.now c.args.bytes.now)

pub returns-in_err-rest : goal.returns-in_err-rest
returns-in_err-rest c =
    let p = err_from_is_err_and c.from_residual.result c.from_residual.ensures.1 in
    rw (p.1, p.2) (items_not_added tag_at _ _ _ _ _ _ c.loop-rest.invariant
    (filled_by_test _ c.loop-rest-test.ensures) c.in_err-rest.ensures.value)

pub loop-rest-preserved : goal.loop-rest-preserved
loop-rest-preserved c =
    items_added tag_at _ _ _ _ _ _ _ _ c.loop-rest.invariant c.in_ok-rest.ensures.value c.in_ok-rest.ensures.shorter

pub returns : goal.returns
returns c =
    items_end tag_at _ _ _ _ _ c.loop-rest.invariant (empty_by_test _ c.loop-rest-test.ensures)
    ∙ ap (λ items. Ok (items, c.loop-rest.self)) (sym c.from_vec.ensures)
