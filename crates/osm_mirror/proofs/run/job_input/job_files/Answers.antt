use Rattle.std.proofs.Common.{◌≡◌, length, arith, rules}
use Rattle.std.proofs.lemmas.Grind.{common_steps}
use Rattle.std.specs.Vec.Iter.{into_iter_items}
use Rattle.osm_mirror.proofs.run_laws.JobInputLaws.{one_more, all_files}
use Rattle.osm_mirror.proofs.run.job_input.job_files.Goals as goal

pub inputs-preserved : goal.inputs-preserved
inputs-preserved g c =
    let rest = into_iter_items c.inputs.streams in
    rw c.in_ok-push-in-Some.ensures.items (one_more c.args.inputs.now c.inputs.index c.args.streams.items rest c.inputs.files.items
    c.index-inputs-index.result c.inputs-test.true c.index-inputs-index.is c.in-Some.file (into_iter_items c.file_of.new.streams)
    c.in-Some.ensures c.inputs.invariant)

pub returns-clause-files : goal.returns-clause-files
returns-clause-files g c =
    let rest = into_iter_items c.inputs.streams in
    let over : length rest ≡ 0 = grind (arith, common_steps, c.in-None-next.ensures.cases.0, c.inputs.streams.rest.ok) in
    all_files c.args.inputs.now c.inputs.index c.args.streams.items rest c.inputs.files.items (omega arith)
    over c.inputs.invariant
