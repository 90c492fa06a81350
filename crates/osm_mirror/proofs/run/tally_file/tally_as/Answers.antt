use Rattle.std.proofs.Common.{sym, subst}
use Rattle.std.proofs.lemmas.Result.{IfOk-weaker, IfErr-weaker}
use Rattle.osm_files.specs.declared.end_rule.EndRule.{EndRule}
use Rattle.osm_files.specs.EndRule.{by_rule}
use Rattle.osm_files.specs.Extent.{RunCanGive}
use Rattle.osm_mirror.specs.declared.run.files_job.Order.{Order}
use Rattle.osm_mirror.specs.declared.run.files_job.Order.TheVariants.{Sorted, Any}
use Rattle.osm_mirror.specs.run.Check.{IsChecked}
use Rattle.osm_mirror.specs.run.FilesRefusal.{IsRefusedFileBy, StopsIn}
use Rattle.osm_mirror.proofs.run_laws.FirstFaultLaws.{checked_file, read_named}
use Rattle.osm_mirror.proofs.run.tally_file.tally_as.Goals as goal

pub returns-in-Sorted-clause-checked : goal.returns-in-Sorted-clause-checked
returns-in-Sorted-clause-checked g c =
    let known = g.F.ReadAt.bytes c.args.file.now in
    let Fails = g.F.ReadAt.fails c.args.file.now in
    IfOk-weaker c.run_tally_sorted.result _ _
    (λ checked given.
    let gives = subst (λ run. RunCanGive Fails known run c.args.size given.0) c.whole.ensures.whole
    ((c.of_run-whole.ensures given.0).0 given.1) in
    checked_file Fails known c.args.size given.0 c.args.end checked c.requires.short c.requires.size gives
    (subst (λ (e : EndRule). IsChecked (by_rule e given.0) checked) c.of_file.ensures given.2))
    c.run_tally_sorted.ensures.checked

pub returns-in-Sorted-clause-refused : goal.returns-in-Sorted-clause-refused
returns-in-Sorted-clause-refused g c =
    let known = g.F.ReadAt.bytes c.args.file.now in
    let Fails = g.F.ReadAt.fails c.args.file.now in
    IfErr-weaker c.run_tally_sorted.result _ _
    (λ fault given.
    let gives = subst (λ run. RunCanGive Fails known run c.args.size given.0) c.whole.ensures.whole
    ((c.of_run-whole.ensures given.0).0 given.1) in
    subst (λ (o : Order). IsRefusedFileBy Fails known o c.args.end fault) (sym c.in-Sorted.is)
    (read_named Fails known c.args.size given.0 Sorted c.args.end fault c.requires.short c.requires.size gives
    (subst (λ (e : EndRule). StopsIn Sorted (by_rule e given.0) fault) c.of_file.ensures given.2)))
    c.run_tally_sorted.ensures.refused

pub returns-in-Any-clause-checked : goal.returns-in-Any-clause-checked
returns-in-Any-clause-checked g c =
    let known = g.F.ReadAt.bytes c.args.file.now in
    let Fails = g.F.ReadAt.fails c.args.file.now in
    IfOk-weaker c.run_tally.result _ _
    (λ checked given.
    let gives = subst (λ run. RunCanGive Fails known run c.args.size given.0) c.whole.ensures.whole
    ((c.of_run-whole.ensures given.0).0 given.1) in
    checked_file Fails known c.args.size given.0 c.args.end checked c.requires.short c.requires.size gives
    (subst (λ (e : EndRule). IsChecked (by_rule e given.0) checked) c.of_file-in-Any.ensures given.2))
    c.run_tally.ensures.checked

pub returns-in-Any-clause-refused : goal.returns-in-Any-clause-refused
returns-in-Any-clause-refused g c =
    let known = g.F.ReadAt.bytes c.args.file.now in
    let Fails = g.F.ReadAt.fails c.args.file.now in
    IfErr-weaker c.run_tally.result _ _
    (λ fault given.
    let gives = subst (λ run. RunCanGive Fails known run c.args.size given.0) c.whole.ensures.whole
    ((c.of_run-whole.ensures given.0).0 given.1) in
    subst (λ (o : Order). IsRefusedFileBy Fails known o c.args.end fault) (sym c.in-Any.is)
    (read_named Fails known c.args.size given.0 Any c.args.end fault c.requires.short c.requires.size gives
    (subst (λ (e : EndRule). StopsIn Any (by_rule e given.0) fault) c.of_file-in-Any.ensures given.2)))
    c.run_tally.ensures.refused
