use Rattle.std.proofs.Common.{◌-◌, ap, ◌∙◌, refl}
use Rattle.std.specs.List.{slice_get}
use Rattle.o5_codec.proofs.Newest.{from_back, entry_from}
use Rattle.o5_codec.proofs.read.table.Table.get.Goals as goal

pub returns-then-reference-eq0 : goal.returns-then-reference-eq0
returns-then-reference-eq0 c = rw c.if-reference-eq0.true refl

pub returns : goal.returns
returns c =
    c.nth_back.ensures ∙ from_back c.self.inside.ring.items (c.args.reference - 1)
    ∙ ap (λ t. slice_get t (c.args.reference - 1)) c.self.view_is ∙ entry_from c.args.self.now c.args.reference c.if-reference-eq0.false
