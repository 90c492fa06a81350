use Rattle.std.proofs.Common.{◌≡◌, ◌∷◌, [], ◌++◌, ◌+◌, List, ℕ, Option, Bor, IfSome, false, take, arith, sym, subst}
use Rattle.std.proofs.lemmas.List.{take_all}
use Rattle.std.specs.List.{All}
use Rattle.osm_files.specs.EndRule.{lacks_its_end, rule_of_file}
use Rattle.osm_files.proofs.SinkLaws.{front_at}
use Rattle.osm_mirror.specs.run.ShardRefusal.{EndByRule}
use Rattle.osm_mirror.proofs.run_laws.FileEndLaws.{among_shard}
use Rattle.osm_mirror.proofs.run_laws.WayLaws.{all_more, get_slice}
use Rattle.osm_mirror.proofs.run.shard_job.refuse_cut_files.Goals as goal

pub files-preserved : goal.files-preserved
files-preserved g c =
    let P : Bor g.row.F.Denot → Type 0 =
    λ file. IfSome (g.F.ReadAt.bytes file.now) (λ all. lacks_its_end (rule_of_file c.args.end) all ≡ false) in
    let files = c.args.files.now in
    let file = c.index-files-input.result in
    let more : take (c.files.input + 1) files ≡ take c.files.input files ++ file ∷ [] =
    front_at files c.files.input file (omega (arith, c.files-test.true)) c.index-files-input.is in
    subst (All P) (sym more) (all_more P (take c.files.input files) file c.files.invariant c.in_default.ensures.ended)

pub returns-in-Err-clause-refused : goal.returns-in-Err-clause-refused
returns-in-Err-clause-refused g c =
    let known : Bor g.row.F.Denot → Option (List ℕ) = λ file. g.F.ReadAt.bytes file.now in
    let fails : Bor g.row.F.Denot → Type 0 = λ file. g.F.ReadAt.fails file.now in
    let files = c.args.files.now in
    let file = c.index-files-input.result in
    let at = get_slice files c.files.input file (omega (arith, c.files-test.true)) c.index-files-input.is in
    rw c.of_input.ensures
    (among_shard known fails c.args.end files c.files.input file c.in-Err.fault at c.in-Err.ensures.refused)

pub returns-clause-ended : goal.returns-clause-ended
returns-clause-ended g c =
    let known : Bor g.row.F.Denot → Option (List ℕ) = λ file. g.F.ReadAt.bytes file.now in
    let fails : Bor g.row.F.Denot → Type 0 = λ file. g.F.ReadAt.fails file.now in
    subst (EndByRule known fails c.args.end) (take_all c.files.input c.args.files.now (omega (arith, c.files-test.false)))
    c.files.invariant
