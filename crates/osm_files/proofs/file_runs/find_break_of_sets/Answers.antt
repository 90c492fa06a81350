use Rattle.std.proofs.Common.{Some, None, refl}
use Rattle.osm_files.specs.declared.set_order.SetOrder.TheVariants.{Rises, Falls}
use Rattle.osm_files.proofs.FileRunLaws.{sets_break}
use Rattle.osm_files.proofs.file_runs.find_break_of_sets.Goals as goal

pub returns-in-Rises : goal.returns-in-Rises
returns-in-Rises g c =
    let file = c.args.file.now in
    record {
      order = sets_break (g.F.ReadAt.fails file) (g.F.ReadAt.bytes file) c.args.size c.args.run None Rises refl
          (rw c.in-Rises.is at c.in_ok-order_of_run.ensures.order);
    }

pub returns-in-Falls : goal.returns-in-Falls
returns-in-Falls g c =
    let file = c.args.file.now in
    record {
      order = sets_break (g.F.ReadAt.fails file) (g.F.ReadAt.bytes file) c.args.size c.args.run (Some c.in-Falls.offset)
          (Falls c.in-Falls.offset) refl (rw c.in-Falls.is at c.in_ok-order_of_run.ensures.order);
    }
