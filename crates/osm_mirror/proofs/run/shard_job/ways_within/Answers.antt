use Rattle.std.proofs.Common.{◌≡◌, ◌+◌, [], ◌∷◌, ◌++◌, List, ℕ, Option, take, Bor, arith, sym, subst}
use Rattle.osm_model.proofs.PairwiseLaws.{pairwise_push}
use Rattle.osm_files.proofs.SinkLaws.{front_at}
use Rattle.osm_mirror.specs.run.ShardExtent.{IsWayWithin, AreWaysWithin}
use Rattle.osm_mirror.specs.run.ShardRefusal.{IsFileRefusal}
use Rattle.osm_mirror.proofs.run_laws.WayLaws.{get_slice}
use Rattle.osm_mirror.proofs.run_laws.SpanJobLaws.{one_refused, numbered_refusal}
use Rattle.osm_mirror.proofs.run.shard_job.ways_within.Goals as goal

pub files-preserved : goal.files-preserved
files-preserved g c =
    let bytes = g.F.ReadAt.bytes in
    let span = c.args.span in
    let files = c.args.files.now in
    let file = c.index-files-input.result in
    let more : take (c.files.input + 1) files ≡ take c.files.input files ++ file ∷ [] =
    front_at files c.files.input file (omega (arith, c.files-test.true)) c.index-files-input.is in
    let pushed = pairwise_push (λ (f : Bor g.row.F.Denot) way. IsWayWithin span (bytes f.now) way) (take c.files.input files)
    c.files.ways.items file c.in-Ok.way c.files.invariant c.in-Ok.ensures.way in
    subst (λ fs. AreWaysWithin bytes span fs c.push.new.self.items) (sym more)
    (subst (λ ws. AreWaysWithin bytes span (take c.files.input files ++ file ∷ []) ws) (sym c.in_ok-push-in-Ok.ensures.items) pushed)

pub returns-in-Err-clause-refused : goal.returns-in-Err-clause-refused
returns-in-Err-clause-refused g c =
    let known : Bor g.row.F.Denot → Option (List ℕ) = λ file. g.F.ReadAt.bytes file.now in
    let fails : Bor g.row.F.Denot → Type 0 = λ file. g.F.ReadAt.fails file.now in
    let files = c.args.files.now in
    let file = c.index-files-input.result in
    let at = get_slice files c.files.input file (omega (arith, c.files-test.true)) c.index-files-input.is in
    rw c.of_input.ensures (one_refused known fails IsFileRefusal files c.files.input file c.in-Err.fault at
    (numbered_refusal (fails file) (known file) c.files.input c.in-Err.fault c.in-Err.ensures.refused))
