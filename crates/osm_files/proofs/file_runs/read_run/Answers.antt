use Rattle.std.proofs.Common.{◌∙◌, ap, sym, rules}
use Rattle.std.proofs.lemmas.Bool.{false≢true}
use Rattle.osm_files.proofs.RunOrderLaws.{read_whole, read_unsorted, read_refused, read_failed}
use Rattle.osm_files.proofs.file_runs.read_run.Goals as goal

pub returns-in-Ok-clause-order : goal.returns-in-Ok-clause-order
returns-in-Ok-clause-order g c =
    let file = c.args.file.now in
    let gives = c.in-Ok.ensures.sorted in
    read_whole (g.F.ReadAt.fails file) c.args.run c.args.size (g.F.ReadAt.bytes file)
    (gives.0, (c.of_run.ensures gives.0).0 gives.1, gives.2)

pub returns-then-eq-clause-order : goal.returns-then-eq-clause-order
returns-then-eq-clause-order g c =
    let file = c.args.file.now in
    let stops = c.in-Err.ensures.refused in
    read_unsorted (g.F.ReadAt.fails file) c.args.run c.args.size 0 c.offset_in_file-offset.result c.in-Err.fault
    (g.F.ReadAt.bytes file) (stops.0, (c.of_run.ensures stops.0).0 stops.1, stops.2) (search rules)
    c.offset_in_file-offset.ensures

pub returns-else-eq-clause-order : goal.returns-else-eq-clause-order
returns-else-eq-clause-order g c =
    let file = c.args.file.now in
    let stops = c.in-Err.ensures.refused in
    rw c.at.ensures
    (read_refused (g.F.ReadAt.fails file) c.args.run c.args.size 0 c.offset_in_file-offset.result c.in-Err.fault
    (g.F.ReadAt.bytes file) (stops.0, (c.of_run.ensures stops.0).0 stops.1, stops.2)
    (λ unsorted. false≢true (sym c.if-eq.false ∙ search (unsorted, rules))))

pub returns-else-eq-clause-failure : goal.returns-else-eq-clause-failure
returns-else-eq-clause-failure g c = λ is.
    let file = c.args.file.now in
    let stops = c.in-Err.ensures.refused in
    read_failed (g.F.ReadAt.fails file) c.args.run c.args.size 0 c.offset_in_file-offset.result c.in-Err.fault
    (g.F.ReadAt.bytes file) (stops.0, (c.of_run.ensures stops.0).0 stops.1, stops.2) (ap (λ f. f.reason) (sym c.at.ensures) ∙ is)
