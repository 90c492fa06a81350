use Rattle.std.proofs.Common.{◌∙◌, ap, sym, Ok}
use Rattle.o5_codec.specs.Body.{tag_at}
use Rattle.o5_codec.proofs.ItemSteps.{items_none, empty_by_test}
use Rattle.o5_codec.proofs.read.segment.Segment.read_tags.Goals as goal

pub returns-then-is_empty : goal.returns-then-is_empty
returns-then-is_empty c =
    items_none tag_at c.args.self.now c.args.bytes.now (empty_by_test _ c.if-is_empty.ensures)
    ∙ ap (λ tags. Ok (tags, c.args.self.now)) (sym c.no_tags.ensures)
