use Rattle.std.proofs.Common.{sym}
use Rattle.osm_files.specs.SetOrder.{HasHeader}
use Rattle.osm_files.proofs.FileLaws.{header_found}
use Rattle.osm_files.proofs.OpenLaws.{known_has}
use Rattle.osm_files.proofs.RunSetsLaws.{lacks_header, header_found_there}
use Rattle.osm_files.proofs.set_order.first_set.Goals as goal

pub returns-then-run-clause-header : goal.returns-then-run-clause-header
returns-then-run-clause-header g c =
    known_has (g.F.ReadAt.bytes c.args.file.now) (λ all. HasHeader all c.args.run c.args.run.start)
    (λ all. lacks_header all c.args.run c.if-run.true)

pub returns-then-is_header-clause-header : goal.returns-then-is_header-clause-header
returns-then-is_header-clause-header g c =
    header_found_there (g.F.ReadAt.bytes c.args.file.now) c.args.run c.in_ok-header.header.items c.if-run.false
    (header_found c.in_ok-header.header.items (rw c.deref.ensures.value at (sym c.if-is_header.ensures)))
    c.in_ok-header.ensures.bytes
