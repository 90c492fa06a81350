use Rattle.std.proofs.Common.{◌≤◌, arith}
use Rattle.std.proofs.lemmas.Result.{IfOk-weaker}
use Rattle.osm_files.proofs.LineStarts.{start_far}
use Rattle.osm_files.proofs.lines.line_start.Goals as goal

pub returns-clause-start : goal.returns-clause-start
returns-clause-start g c =
    let near = c.min-near.result in
    let late : near ≤ c.in_ok-start.start = omega (arith, c.if-start-near.false) in
    IfOk-weaker c.search_far.result _ _
    (λ later far. start_far (g.F.ReadAt.bytes c.args.file.now) c.args.offset near c.args.end c.in_ok-start.start later
    (omega (arith, c.min-near.ensures, c.saturating_add.ensures, c.if-near-end.false)) c.in_ok-start.ensures.start late far)
    c.search_far.ensures.start
