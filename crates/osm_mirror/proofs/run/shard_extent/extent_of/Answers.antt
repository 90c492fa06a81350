use Rattle.std.proofs.Common.{◌≡◌, arith, inl, subst, IfSome}
use Rattle.std.proofs.lemmas.Result.{err_from_is_err_and}
use Rattle.osm_mirror.specs.run.ShardExtent.{is_read_whole}
use Rattle.osm_mirror.proofs.run_laws.FileExtentLaws.{lines_part, whole_extent, cut_refuses, part_falls}
use Rattle.osm_mirror.proofs.run.shard_extent.extent_of.Goals as goal

pub returns-clause-extent : goal.returns-clause-extent
returns-clause-extent g c =
    let known = g.F.ReadAt.bytes c.args.file.now in
    lines_part known c.args.span c.in_ok-size.size c.in_ok-start.start c.in_ok-end.end
    (c.in_ok-is_read_whole.ensures.lines c.if-branch.false)
    (subst (λ t. IfSome known (λ all. t ≡ is_read_whole all)) c.if-branch.false c.in_ok-is_read_whole.ensures.whole)
    c.in_ok-size.ensures.size
    c.in_ok-start.ensures.begins c.in_ok-end.ensures.ends (omega (arith, c.if-end-start.false))

pub returns-in_err-size-clause-refused : goal.returns-in_err-size-clause-refused
returns-in_err-size-clause-refused g c =
    let p = err_from_is_err_and c.from_residual.result c.from_residual.ensures.1 in
    rw (p.1, p.2) (inl c.in_err-size.ensures.refused)

pub returns-in_err-is_read_whole-clause-refused : goal.returns-in_err-is_read_whole-clause-refused
returns-in_err-is_read_whole-clause-refused g c =
    let p = err_from_is_err_and c.from_residual-in_err-is_read_whole.result c.from_residual-in_err-is_read_whole.ensures.1 in
    rw (p.1, p.2) (inl c.in_err-is_read_whole.ensures.refused)

pub returns-in_err-start-clause-refused : goal.returns-in_err-start-clause-refused
returns-in_err-start-clause-refused g c =
    let known = g.F.ReadAt.bytes c.args.file.now in
    let p = err_from_is_err_and c.from_residual-in_err-start.result c.from_residual-in_err-start.ensures.1 in
    rw (p.1, p.2) (cut_refuses (g.F.ReadAt.fails c.args.file.now) known _
    (c.in_ok-is_read_whole.ensures.lines c.if-branch.false) c.in_err-start.ensures.refused)

pub returns-in_err-end-clause-refused : goal.returns-in_err-end-clause-refused
returns-in_err-end-clause-refused g c =
    let known = g.F.ReadAt.bytes c.args.file.now in
    let p = err_from_is_err_and c.from_residual-in_err-end.result c.from_residual-in_err-end.ensures.1 in
    rw (p.1, p.2) (cut_refuses (g.F.ReadAt.fails c.args.file.now) known _
    (c.in_ok-is_read_whole.ensures.lines c.if-branch.false) c.in_err-end.ensures.refused)

pub returns-then-end-start-clause-refused : goal.returns-then-end-start-clause-refused
returns-then-end-start-clause-refused g c =
    let known = g.F.ReadAt.bytes c.args.file.now in
    part_falls (g.F.ReadAt.fails c.args.file.now) known c.args.span c.in_ok-start.start c.in_ok-end.end _ c.requires.ascends
    (c.in_ok-is_read_whole.ensures.lines c.if-branch.false)
    c.in_ok-start.ensures.begins c.in_ok-end.ensures.ends (omega (arith, c.if-end-start.true))

pub returns-then-branch-clause-extent : goal.returns-then-branch-clause-extent
returns-then-branch-clause-extent g c =
    let known = g.F.ReadAt.bytes c.args.file.now in
    whole_extent known c.args.span c.in_ok-size.size c.whole.result
    (subst (λ t. IfSome known (λ all. t ≡ is_read_whole all)) c.if-branch.true c.in_ok-is_read_whole.ensures.whole)
    c.in_ok-size.ensures.size
    c.whole.ensures.whole
