use Rattle.std.proofs.Common.{refl}
use Rattle.std.proofs.lemmas.Result.{IfOk-weaker, IfErr-weaker}
use Rattle.osm_files.specs.Change.{change_of}
use Rattle.osm_files.specs.FileInput.{FileInputCanGive}
use Rattle.osm_mirror.specs.run.FilesJob.{FileFits}
use Rattle.osm_mirror.proofs.run_laws.FilesGoodLaws.{refused_in_ways}
use Rattle.osm_mirror.proofs.run_laws.FilesJobLaws.{run_is, pairwise_length}
use Rattle.osm_mirror.proofs.run.files_turn.run_turn.Goals as goal

pub run_ways-requires : goal.run_ways-requires
run_ways-requires g c = record {
  same = pairwise_length (FileFits g.F.ReadAt.bytes c.args.job.order) c.args.files.items c.args.ways.now c.requires.fit;
}

pub returns-clause-written : goal.returns-clause-written
returns-clause-written g c =
    IfOk-weaker c.run_ways.result _ _
    (λ counts is. run_is g.F.ReadAt.fails g.F.ReadAt.bytes g.R.Input.can_give
    (FileInputCanGive g.F.ReadAt.fails g.F.ReadAt.bytes g.R.Input.can_give) c.args.job.order c.sorted_runs_hold_the_file.ensures c.args.job
    c.args.files.items c.args.ways.now is.inputs refl c.requires.fit is.opens
    (change_of g.W.Output c.args.out.now c.run_ways.new.out) counts is.done)
    c.run_ways.ensures.written

pub returns-clause-refused : goal.returns-clause-refused
returns-clause-refused g c =
    IfErr-weaker c.run_ways.result _ _
    (refused_in_ways g.F.ReadAt.fails g.F.ReadAt.bytes g.R.Input.can_give
    (FileInputCanGive g.F.ReadAt.fails g.F.ReadAt.bytes g.R.Input.can_give) g.W.Output c.args.job c.args.files.items c.args.ways.now
    c.requires.fit c.sorted_runs_hold_the_file.ensures c.args.out.now c.run_ways.new.out)
    c.run_ways.ensures.refused
