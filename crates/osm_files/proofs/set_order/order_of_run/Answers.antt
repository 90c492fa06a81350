use Rattle.std.proofs.Common.{arith}
use Rattle.osm_files.proofs.RunSetsLaws.{sets_order}
use Rattle.osm_files.proofs.set_order.order_of_run.Goals as goal

pub returns : goal.returns
returns g c =
    let file = c.args.file.now in
    record {
      order = sets_order (g.F.ReadAt.fails file) c.args.run c.args.size c.min-end.result c.in-Some.first c.in-Some-2.last
          (omega (arith, c.ranges.size.fits)) (omega (arith, c.min-end.ensures, c.saturating_add.ensures))
          (omega (arith, c.if-last-first.false)) (g.F.ReadAt.bytes file) c.order_of_sets.result
          (rw c.in-Some.is at c.in_ok-first.ensures.header)
          (rw c.in-Some-2.is at c.in_ok-last.ensures.end) c.order_of_sets.ensures.order;
    }
