use Rattle.std.proofs.Common.{◌≡◌, ◌∙◌, ◌+◌, ap, arith, min}
use Rattle.osm_files.specs.SortedRun.{bytes_before, bytes_after}
use Rattle.osm_files.proofs.OpenLaws.{same_fields}
use Rattle.osm_files.proofs.extent.FramedExtent.of_run.Goals as goal

pub returns : goal.returns
returns g c = λ given.
    let s = c.new-2.result in
    let run = c.args.run in
    let end : s.extent.end ≡ min (run.start + run.size) c.args.size =
    ap (λ p. p.end) c.new-2.ensures.extent ∙ c.new.ensures.end
    ∙ omega (arith, c.saturating_add.ensures, c.min-end.ensures, c.ranges.size.fits) in
    same_fields g.F.ReadAt.fails g.F.ReadAt.bytes given s.before (bytes_before run) s.extent.file.now c.args.file.now
    s.extent.next run.start s.extent.end (min (run.start + run.size) c.args.size) s.after (bytes_after run)
    (c.new-2.ensures.before ∙ c.bytes_before.ensures)
    (ap (λ p. p.file.now) c.new-2.ensures.extent ∙ c.new.ensures.file) (ap (λ p. p.next) c.new-2.ensures.extent ∙ c.new.ensures.start) end
    (c.new-2.ensures.after ∙ c.bytes_after.ensures)
