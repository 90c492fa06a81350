use Rattle.std.proofs.Common.{◌∙◌, sym, arith}
use Rattle.osm_files.proofs.FileRunLaws.{lines_break}
use Rattle.osm_files.proofs.file_runs.find_break.Goals as goal

pub returns-then-is_lines : goal.returns-then-is_lines
returns-then-is_lines g c =
    let file = c.args.file.now in
    record {
      order = lines_break (g.F.ReadAt.fails file) c.args.run c.in-Ok.first (sym c.is_lines.ensures ∙ c.if-is_lines.true) c.args.size
          c.min-end.result (omega (arith, c.ranges.size.fits)) (omega (arith, c.min-end.ensures, c.saturating_add.ensures))
          (g.F.ReadAt.bytes file)
          c.first_falling.result c.in-Ok.ensures.byte c.first_falling.ensures.order;
    }
