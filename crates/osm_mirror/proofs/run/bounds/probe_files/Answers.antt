use Rattle.std.proofs.Common.{List, ℕ, Option, take, Bor, arith, sym, subst}
use Rattle.std.proofs.lemmas.List.{take_all}
use Rattle.osm_files.proofs.SinkLaws.{front_at}
use Rattle.osm_mirror.specs.run.Probes.{FindsInAll}
use Rattle.osm_mirror.proofs.run_laws.ProbeLaws.{all_more}
use Rattle.osm_mirror.proofs.run_laws.SpanJobLaws.{one_refused, numbered_refusal}
use Rattle.osm_mirror.proofs.run_laws.WayLaws.{get_slice}
use Rattle.osm_mirror.specs.run.ShardRefusal.{IsFileRefusal}
use Rattle.osm_mirror.proofs.run.bounds.probe_files.Goals as goal

pub files-preserved : goal.files-preserved
files-preserved g c =
    let known : Bor g.row.F.Denot → Option (List ℕ) = λ file. g.F.ReadAt.bytes file.now in
    let files = c.args.files.now in
    let file = c.index-files-input.result in
    let more = front_at files c.files.input file (omega (arith, c.files-test.true)) c.index-files-input.is in
    subst (λ fs. FindsInAll known c.args.step fs c.probe_file.new.found.items) (sym more)
    (all_more known c.args.step (take c.files.input files) file c.files.found.items c.probe_file.new.found.items c.files.invariant
    c.in_default.ensures.found)

pub returns-clause-found : goal.returns-clause-found
returns-clause-found g c =
    let known : Bor g.row.F.Denot → Option (List ℕ) = λ file. g.F.ReadAt.bytes file.now in
    let files = c.args.files.now in
    let whole = take_all c.files.input files (omega (arith, c.files-test.false)) in
    subst (λ fs. FindsInAll known c.args.step fs c.files.found.items) whole c.files.invariant

pub returns-in-Err-clause-refused : goal.returns-in-Err-clause-refused
returns-in-Err-clause-refused g c =
    let known : Bor g.row.F.Denot → Option (List ℕ) = λ file. g.F.ReadAt.bytes file.now in
    let fails : Bor g.row.F.Denot → Type 0 = λ file. g.F.ReadAt.fails file.now in
    let files = c.args.files.now in
    let file = c.index-files-input.result in
    let at = get_slice files c.files.input file (omega (arith, c.files-test.true)) c.index-files-input.is in
    rw c.of_input.ensures (one_refused known fails IsFileRefusal files c.files.input file c.in-Err.fault at
    (numbered_refusal (fails file) (known file) c.files.input c.in-Err.fault c.in-Err.ensures.refused))
