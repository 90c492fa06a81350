use Rattle.std.proofs.Common.{List, ℕ, Option, Bor, slice_get, ◌≡◌, ◌∙◌, None, Some, sym, rules}
use Rattle.std.proofs.lemmas.Bool.{false≢true}
use Rattle.std.proofs.lemmas.Option.{slice_get_past}
use Rattle.osm_mirror.proofs.run_laws.ShardJobLaws.{first_named, unnamed}
use Rattle.osm_mirror.proofs.run_laws.WayLaws.{get_slice}
use Rattle.osm_mirror.proofs.run.shard_job.first_fault.Goals as goal

pub returns-in-Some-clause-file : goal.returns-in-Some-clause-file
returns-in-Some-clause-file g c refused =
    let known : Bor g.row.F.Denot → Option (List ℕ) = λ file. g.F.ReadAt.bytes file.now in
    let fails : Bor g.row.F.Denot → Type 0 = λ file. g.F.ReadAt.fails file.now in
    let files = c.args.files.now in
    let found = c.in-Some.ensures.lookup in
    let at : slice_get files c.args.fault.input ≡ Some c.in-Some.file.now =
    get_slice files c.args.fault.input c.in-Some.file.now found.3.0 found.1 in
    first_named known fails c.args.end files c.in-Some.file.now c.args.fault c.first_fault_of.result at c.first_fault_of.ensures
    (λ memory. false≢true (sym c.if-eq.false ∙ search (memory, rules))) refused

pub returns-in-None-clause-file : goal.returns-in-None-clause-file
returns-in-None-clause-file g c refused =
    let known : Bor g.row.F.Denot → Option (List ℕ) = λ file. g.F.ReadAt.bytes file.now in
    let fails : Bor g.row.F.Denot → Type 0 = λ file. g.F.ReadAt.fails file.now in
    let files = c.args.files.now in
    let none : slice_get files c.args.fault.input ≡ None = slice_get_past files c.args.fault.input c.in-None.ensures.lookup.3 in
    unnamed known fails c.args.end files c.args.fault none refused
