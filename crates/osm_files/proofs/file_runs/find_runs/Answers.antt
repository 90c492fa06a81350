use Rattle.std.proofs.Common.{◌≤◌, ◌<◌, ◌^◌, length, ap, sym, subst, arith, rules, Ok, Some, None, Err}
use Rattle.std.proofs.lemmas.Result.{err_from_is_err_and}
use Rattle.osm_files.specs.FileRuns.{IfWhole}
use Rattle.osm_files.specs.SortedRun.{FileRuns, IsSplitIntoRuns, runs_of}
use Rattle.osm_files.proofs.FileRunLaws.{Found, Breaks, found_nothing, all_sorted, found_more, all_accepted, refused_rest}
use Rattle.osm_files.proofs.OpenLaws.{known_has}
use Rattle.osm_files.proofs.file_runs.find_runs.Goals as goal

pub runs-init : goal.runs-init
runs-init g c =
    let known = g.F.ReadAt.bytes c.args.file.now in
    let few : length c.new-split.result.fronts ≤ 0 =
    omega (arith, ap (λ (runs : FileRuns). length runs.fronts) c.new-split.ensures.one) in (
      known_has known (λ all. length all < 2 ^ 64 → IsSplitIntoRuns all (runs_of c.new-split.result))
          c.new-split.ensures.runs,
      few,
      subst (λ (runs : FileRuns). IfWhole known c.args.size (λ all. Found all runs)) (sym c.new-split.ensures.one)
          (found_nothing known c.args.size (omega (arith, c.ranges.size.fits))),
    )

pub runs-preserved : goal.runs-preserved
runs-preserved g c =
    let file = g.F.ReadAt.bytes c.args.file.now in
    let Fails = g.F.ReadAt.fails c.args.file.now in
    let breaks = subst (λ run. Breaks Fails file c.args.size run (Ok (Some c.in-Some.offset))) c.rest.ensures
    (subst (λ o. Breaks Fails file c.args.size c.rest.result (Ok o)) c.in-Some.is c.in_ok-offset.ensures.order) in
    let split = c.in_ok-split_before.ensures in
    let can = ap Ok c.if-not-branch.false in (
      search rules,
      search rules,
      found_more Fails file c.args.size c.runs.split c.split_before.new.split c.in-Some.offset c.runs.invariant.2 breaks
          (split.fronts can) (split.accepted can) (split.rest can),
    )

pub returns-in_err-offset-clause-refused : goal.returns-in_err-offset-clause-refused
returns-in_err-offset-clause-refused g c =
    let file = g.F.ReadAt.bytes c.args.file.now in
    let Fails = g.F.ReadAt.fails c.args.file.now in
    let breaks = subst (λ run. Breaks Fails file c.args.size run (Err c.in_err-offset.field-0.0)) c.rest.ensures
    c.in_err-offset.ensures.order in
    let p = err_from_is_err_and c.from_residual.result c.from_residual.ensures.1 in
    rw (p.1, p.2) (refused_rest Fails file c.args.size c.runs.split c.in_err-offset.field-0.0 c.runs.invariant.2 breaks)

pub returns-in_default-clause-sorted : goal.returns-in_default-clause-sorted
returns-in_default-clause-sorted g c =
    let file = g.F.ReadAt.bytes c.args.file.now in
    let Fails = g.F.ReadAt.fails c.args.file.now in
    let breaks = subst (λ run. Breaks Fails file c.args.size run (Ok None)) c.rest.ensures
    (subst (λ o. Breaks Fails file c.args.size c.rest.result (Ok o)) c.in_default.is c.in_ok-offset.ensures.order) in
    all_sorted Fails c.args.size c.runs.split c.in_ok-into_runs.field-0.items c.in_ok-into_runs.ensures file c.runs.invariant.2 breaks

pub returns-in_default-clause-accepted : goal.returns-in_default-clause-accepted
returns-in_default-clause-accepted g c =
    let file = g.F.ReadAt.bytes c.args.file.now in
    all_accepted (g.F.ReadAt.fails c.args.file.now) c.args.size c.runs.split c.in_ok-into_runs.field-0.items c.in_ok-into_runs.ensures file
    c.runs.invariant.2
