use Rattle.std.proofs.Common.{arith, sym, subst, Option}
use Rattle.std.proofs.lemmas.Result.{err_from_is_err_and}
use Rattle.osm_model.specs.declared.object.Object.{Object}
use Rattle.osm_mirror.specs.run.LinesFrom.{AreLinesOf}
use Rattle.osm_mirror.proofs.run_laws.LinesFromLaws.{same_lines, more_lines, lines_refuse}
use Rattle.osm_mirror.proofs.run.lines_from.lines_before.Goals as goal

pub returns-then-start-later-clause-lines : goal.returns-then-start-later-clause-lines
returns-then-start-later-clause-lines g c =
    same_lines (g.F.ReadAt.bytes c.args.file.now) c.args.offset c.in_ok-start.start c.args.later c.requires.before c.requires.later
    c.in_ok-start.ensures.start (omega (arith, c.if-start-later.true))

pub returns-clause-lines : goal.returns-clause-lines
returns-clause-lines g c =
    let bytes = g.F.ReadAt.bytes c.args.file.now in
    subst (λ (o : Option Object). AreLinesOf bytes (record { offset = c.args.offset; start = c.in_ok-start.start; object = o }))
    (sym c.or.ensures)
    (more_lines (g.F.ReadAt.fails c.args.file.now) bytes c.args.offset c.in_ok-start.start c.args.later c.in_ok-first.first
    c.requires.before c.requires.later c.in_ok-start.ensures.start (omega (arith, c.if-start-later.false)) c.in_ok-first.ensures.first)

pub returns-in_err-first-clause-refused : goal.returns-in_err-first-clause-refused
returns-in_err-first-clause-refused g c =
    let p = err_from_is_err_and c.from_residual-in_err-first.result c.from_residual-in_err-first.ensures.1 in
    rw (p.1, p.2) (lines_refuse (g.F.ReadAt.fails c.args.file.now) (g.F.ReadAt.bytes c.args.file.now) c.args.offset c.in_ok-start.start
    c.args.later _ c.requires.before c.requires.later c.in_ok-start.ensures.start (omega (arith, c.if-start-later.false))
    c.in_err-first.ensures.first)
