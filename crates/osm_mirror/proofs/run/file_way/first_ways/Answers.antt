use Rattle.std.proofs.Common.{◌≡◌, ◌+◌, ◌∷◌, [], ◌++◌, take, arith, sym, subst}
use Rattle.osm_model.proofs.PairwiseLaws.{pairwise_push}
use Rattle.osm_files.proofs.SinkLaws.{front_at}
use Rattle.osm_mirror.specs.run.FilesJob.{FileFits, FilesFit}
use Rattle.osm_mirror.proofs.run_laws.WayLaws.{among_by_rule}
use Rattle.osm_mirror.proofs.run.file_way.first_ways.Goals as goal

pub files-preserved : goal.files-preserved
files-preserved g c =
    let bytes = g.F.ReadAt.bytes in
    let files = c.args.files.now in
    let file = c.index-files-input.result in
    let more : take (c.files.input + 1) files ≡ take c.files.input files ++ file ∷ [] =
    front_at files c.files.input file (omega (arith, c.files-test.true)) c.index-files-input.is in
    let pushed = pairwise_push (FileFits bytes c.args.order) (take c.files.input files) c.files.ways.items file c.in-Ok.way
    c.files.invariant c.in-Ok.ensures.fits in
    subst (λ fs. FilesFit bytes c.args.order fs c.push.new.self.items) (sym more)
    (subst (λ ws. FilesFit bytes c.args.order (take c.files.input files ++ file ∷ []) ws) (sym c.in_ok-push-in-Ok.ensures.items) pushed)

pub returns-in-Err-clause-refused : goal.returns-in-Err-clause-refused
returns-in-Err-clause-refused g c =
    rw c.of_input.ensures
    (among_by_rule g.F.ReadAt.fails g.F.ReadAt.bytes g.R.Input.can_give c.args.order c.args.files.now c.files.input
    c.index-files-input.result c.in-Err.fault (omega (arith, c.files-test.true)) c.index-files-input.is
    c.in-Err.ensures.refused)
