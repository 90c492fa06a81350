use Rattle.std.proofs.Common.{◌≡◌, ◌∙◌, ◌-◌, ◌++◌, min, arith, ap, subst, sym}
use Rattle.std.proofs.lemmas.Result.{err_from_is_err_and}
use Rattle.osm_mirror.specs.run.Bounds.{found_once}
use Rattle.osm_mirror.proofs.run_laws.ProbeLaws.{HasRoom, opl_end, room_at_end, in_room, room_before, finds_none, finds_more, probe_refuses}
use Rattle.osm_mirror.proofs.run_laws.LinesFromLaws.{lines_at_end}
use Rattle.osm_mirror.proofs.run.bounds.probe_lines.Goals as goal

pub probes-init : goal.probes-init
probes-init g c =
    let known = g.F.ReadAt.bytes c.args.file.now in
    let end = c.at_end-lines.result in
    let at = c.at_end-lines.ensures in (
      finds_none known c.args.size c.args.step c.probe_count-left.result c.args.found.now.items c.probe_count-left.ensures,
      lines_at_end known end (opl_end known c.args.size end.offset c.requires.size at.offset) (at.start ∙ sym at.offset) at.object,
      omega (arith, c.probe_count-left.ensures),
      subst (λ n. HasRoom c.args.step c.probe_count-left.result n) (sym at.offset)
          (room_at_end c.args.step c.args.size c.probe_count-left.result c.requires.some c.probe_count-left.ensures),
    )

pub probes-preserved : goal.probes-preserved
probes-preserved g c =
    let known = g.F.ReadAt.bytes c.args.file.now in
    let next = c.probes.left - 1 in
    let lines = c.in_ok-lines.lines in
    let at : lines.offset ≡ c.probe_offset-offset.result = c.in_ok-lines.ensures.offset in
    let weight = c.min.ensures ∙ ap (λ n. min c.args.step (c.args.size - n)) (sym at) in
    let offset = at ∙ c.probe_offset-offset.ensures.offset in (
      finds_more known c.args.size c.args.step c.probes.left next lines c.args.found.now.items c.probes.found.items
          c.push_found.new.found.items c.probes.invariant.0 (omega arith) offset c.in_ok-lines.ensures.lines
          (c.in_ok-push_found.ensures ∙ ap (λ w. c.probes.found.items ++ found_once w lines.object) weight),
      c.in_ok-lines.ensures.lines,
      omega (arith, c.probes.invariant.2),
      room_before c.args.step next lines.offset offset,
    )

pub lines_before-requires-clause-before : goal.lines_before-requires-clause-before
lines_before-requires-clause-before g c =
    in_room c.args.step c.probes.left c.probes.lines.offset c.probe_offset-offset.result c.probes.invariant.3 (omega arith)
    c.probe_offset-offset.ensures.offset

pub returns-in_err-lines-clause-refused : goal.returns-in_err-lines-clause-refused
returns-in_err-lines-clause-refused g c =
    let p = err_from_is_err_and c.from_residual.result c.from_residual.ensures.1 in
    rw (p.1, p.2) (probe_refuses (g.F.ReadAt.fails c.args.file.now) (g.F.ReadAt.bytes c.args.file.now) c.args.size _ c.requires.size
    c.in_err-lines.ensures.refused)
