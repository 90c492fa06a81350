use Rattle.std.proofs.Common.{◌∙◌, ap, sym, Ok}
use Rattle.std.proofs.lemmas.Result.{err_from_is_err_and}
use Rattle.o5_codec.specs.Body.{member_at}
use Rattle.o5_codec.proofs.ItemSteps.{items_begin, items_end, items_more, items_fail, empty_by_test, filled_by_test}
use Rattle.o5_codec.proofs.read.segment.Segment.read_members.Goals as goal

pub loop-rest-init : goal.loop-rest-init
loop-rest-init c = rw c.take_members-members.ensures (items_begin member_at c.args.self.now c.args.bytes.now)

pub returns-in_err-member : goal.returns-in_err-member
returns-in_err-member c =
    let p = err_from_is_err_and c.from_residual.result c.from_residual.ensures.1 in
    rw (p.1, p.2) (items_fail member_at _ _ _ _ _ _ c.loop-rest.invariant
    (filled_by_test _ c.loop-rest-test.ensures) c.in_err-member.ensures.value)

pub loop-rest-preserved : goal.loop-rest-preserved
loop-rest-preserved c =
    rw c.in_ok-push.ensures.items (items_more member_at _ _ _ _ _ _ _ _ c.loop-rest.invariant c.in_ok-member.ensures.value
    c.in_ok-member.ensures.shorter)

pub returns : goal.returns
returns c =
    items_end member_at _ _ _ _ _ c.loop-rest.invariant (empty_by_test _ c.loop-rest-test.ensures)
    ∙ ap (λ items. Ok (items, c.loop-rest.self)) (sym c.from_vec.ensures)
