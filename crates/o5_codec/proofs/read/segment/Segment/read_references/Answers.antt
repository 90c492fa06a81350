use Rattle.std.proofs.Common.{◌≡◌, ◌∙◌, ap, sym, Ok, inr, rules}
use Rattle.std.proofs.lemmas.Int.{to_z-of_z}
use mir.Val.{SFits}
use mir.Syntax.{w64}
use Rattle.std.proofs.lemmas.Result.{err_from_is_err_and}
use Rattle.o5_codec.specs.Body.{reference_at}
use Rattle.o5_codec.proofs.ItemSteps.{items_begin, items_end, items_more, items_fail, empty_by_test, filled_by_test}
use Rattle.o5_codec.proofs.read.segment.Segment.read_references.Goals as goal

pub loop-rest-init : goal.loop-rest-init
loop-rest-init c = rw c.in_ok-ids.ensures (items_begin reference_at c.args.self.now c.args.bytes.now)

pub returns-in_err-id : goal.returns-in_err-id
returns-in_err-id c =
    let p = err_from_is_err_and c.from_residual-in_err-id.result c.from_residual-in_err-id.ensures.1 in
    rw (p.1, p.2) (items_fail reference_at _ _ _ _ _ _ c.loop-rest.invariant (filled_by_test _ c.loop-rest-test.ensures)
    (inr c.in_err-id.ensures.value))

pub loop-rest-preserved : goal.loop-rest-preserved
loop-rest-preserved c =
    let fits : SFits w64 c.in_ok-id.id = search rules in
    let read : reference_at c.loop-rest.self c.loop-rest.rest.now ≡ Ok (c.in_ok-id.id, c.read_reference.new.self, c.in_ok-id.after.now) =
    search rules in
    rw (c.in_ok-push.ensures.items, to_z-of_z) (items_more reference_at _ _ _ _ _ _ _ _ c.loop-rest.invariant read
    c.in_ok-id.ensures.shorter)

pub returns : goal.returns
returns c =
    items_end reference_at _ _ _ _ _ c.loop-rest.invariant (empty_by_test _ c.loop-rest-test.ensures)
    ∙ ap (λ items. Ok (items, c.loop-rest.self)) (sym c.from_vec.ensures)
