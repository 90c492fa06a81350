use Rattle.std.proofs.Common.{subst, inr}
use Rattle.std.proofs.lemmas.Result.{err_from_is_err_and}
use Rattle.osm_files.specs.declared.end_rule.EndRule.{EndRule}
use Rattle.osm_files.specs.EndRule.{by_rule}
use Rattle.osm_files.specs.Extent.{RunCanGive}
use Rattle.osm_mirror.specs.run.FilesRefusal.{StopsIn, IsReadAs}
use Rattle.osm_mirror.proofs.run_laws.FirstFaultLaws.{read_named, read_sound}
use Rattle.osm_mirror.proofs.run_laws.WayLaws.{size_fault}
use Rattle.osm_mirror.proofs.run.first_fault.check_file.Goals as goal

pub returns-in_err-size-clause-refused : goal.returns-in_err-size-clause-refused
returns-in_err-size-clause-refused g c =
    let p = err_from_is_err_and c.from_residual.result c.from_residual.ensures.1 in
    rw (p.1, p.2)
    (inr (size_fault (g.F.ReadAt.fails c.args.file.now) (g.F.ReadAt.bytes c.args.file.now) c.args.order c.args.end
    c.in_err-size.field-0.0 c.in_err-size.ensures.refused))

pub returns-clause-sound : goal.returns-clause-sound
returns-clause-sound g c =
    let known = g.F.ReadAt.bytes c.args.file.now in
    let Fails = g.F.ReadAt.fails c.args.file.now in
    let given = c.in_ok-read_whole.ensures.whole in
    let gives = subst (λ run. RunCanGive Fails known run c.in_ok-size.size given.0) c.whole.ensures.whole
    ((c.of_run-whole.ensures given.0).0 given.1) in
    read_sound Fails known c.in_ok-size.size given.0 c.args.order c.args.end c.in_ok-size.ensures.short c.in_ok-size.ensures.size gives
    (subst (λ (e : EndRule). IsReadAs c.args.order (by_rule e given.0)) c.of_file.ensures given.2)

pub returns-in_err-read_whole-clause-refused : goal.returns-in_err-read_whole-clause-refused
returns-in_err-read_whole-clause-refused g c =
    let known = g.F.ReadAt.bytes c.args.file.now in
    let Fails = g.F.ReadAt.fails c.args.file.now in
    let given = c.in_err-read_whole.ensures.refused in
    let first = c.in_err-read_whole.field-0.0 in
    let gives = subst (λ run. RunCanGive Fails known run c.in_ok-size.size given.0) c.whole.ensures.whole
    ((c.of_run-whole.ensures given.0).0 given.1) in
    let p = err_from_is_err_and c.from_residual-in_err-read_whole.result c.from_residual-in_err-read_whole.ensures.1 in
    rw (p.1, p.2)
    (read_named Fails known c.in_ok-size.size given.0 c.args.order c.args.end first c.in_ok-size.ensures.short
    c.in_ok-size.ensures.size gives (subst (λ (e : EndRule). StopsIn c.args.order (by_rule e given.0) first) c.of_file.ensures given.2))
