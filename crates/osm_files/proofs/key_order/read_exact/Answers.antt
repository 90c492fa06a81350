use Rattle.std.proofs.Common.{◌+◌, ◌∙◌, arith, take, length-take-le}
use Rattle.osm_files.proofs.KeyOrderLaws.{came_on}
use Rattle.osm_files.proofs.key_order.read_exact.Goals as goal

pub reads-preserved : goal.reads-preserved
reads-preserved g c =
    let items = c.reads.bytes.items in
    let long = length-take-le c.reads.filled items (omega (arith, c.reads.invariant.0, c.reads.invariant.1)) in (
      omega (arith, c.in-Ok.ensures.most, c.reads.invariant.0),
      c.in-Ok.ensures.size ∙ c.reads.invariant.1,
      came_on (g.F.ReadAt.bytes c.args.file.now) c.args.offset c.reads.filled c.in-Ok.more (take c.reads.filled items)
          (take (c.reads.filled + c.in-Ok.more) c.read_part.new.buffer.items) long c.reads.invariant.2 c.in-Ok.ensures.came,
    )
