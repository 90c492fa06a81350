use Rattle.std.proofs.lemmas.Result.{err_from_is_err_and}
use Rattle.osm_files.proofs.FirstLaws.{none_passed, more_passed, first_found, first_refused}
use Rattle.osm_files.proofs.lines.first_object.Goals as goal

pub fronts-init : goal.fronts-init
fronts-init g c = none_passed (g.F.ReadAt.bytes c.args.file.now) c.args.start c.args.end

pub fronts-preserved : goal.fronts-preserved
fronts-preserved g c =
    let onward = rw c.in-Skipped.is at c.in_ok-object.ensures.onward in
    more_passed (g.F.ReadAt.fails c.args.file.now) (g.F.ReadAt.bytes c.args.file.now) c.args.start c.args.end c.fronts.offset
    c.in-Skipped.next c.fronts.invariant onward.1 (rw c.in-Skipped.is at c.in_ok-object.ensures.front)

pub returns-in-Named : goal.returns-in-Named
returns-in-Named g c = record {
  first = first_found (g.F.ReadAt.fails c.args.file.now) (g.F.ReadAt.bytes c.args.file.now) c.args.start c.args.end c.fronts.offset
      c.in-Named.object c.fronts.invariant (rw c.in-Named.is at c.in_ok-object.ensures.front);
}

pub returns-in_err-object : goal.returns-in_err-object
returns-in_err-object g c =
    let p = err_from_is_err_and c.from_residual.result c.from_residual.ensures.1 in
    record {
      first = rw (p.1, p.2) (first_refused (g.F.ReadAt.fails c.args.file.now) (g.F.ReadAt.bytes c.args.file.now) c.args.start c.args.end
          c.fronts.offset _ c.fronts.invariant c.in_err-object.ensures.front);
    }
