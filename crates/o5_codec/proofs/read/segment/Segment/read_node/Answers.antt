use Rattle.std.proofs.Common.{rules}
use Rattle.o5_codec.specs.Body.{tag_at, node_at}
use Rattle.o5_codec.proofs.ItemSteps.{items_none, empty_by_test}
use Rattle.o5_codec.proofs.read.segment.Segment.read_node.Goals as goal

pub returns-then-is_empty : goal.returns-then-is_empty
unfolding node_at
returns-then-is_empty c =
    rw (
      c.in_ok-lon.ensures,
      c.in_ok-lat.ensures,
      items_none tag_at c.read_latitude.new.self c.in_ok-lat.rest.now
          (empty_by_test _ c.if-is_empty.ensures),
      c.overwrite.ensures,
      c.no_tags-tags.ensures,
    ) (search rules)
