use Rattle.std.proofs.Common.{arith}
use Rattle.osm_mirror.specs.declared.run.files_job.Order.TheVariants.{Any}
use Rattle.osm_mirror.specs.run.FilesJob.{FileFits}
use Rattle.osm_mirror.proofs.run_laws.FilesJobLaws.{pairwise_length, pairwise_set}
use Rattle.osm_mirror.proofs.run_laws.WayLaws.{among_files}
use Rattle.osm_mirror.proofs.run.file_way.split_way.Goals as goal

pub offset_bounds-files-file : goal.offset_bounds-files-file
offset_bounds-files-file g c =
    let same = pairwise_length (FileFits g.F.ReadAt.bytes Any) c.args.files.now c.args.ways.now c.requires.fit in
    omega (arith, c.requires.file, same)

pub bounds-files-file : goal.bounds-files-file
bounds-files-file g c =
    let same = pairwise_length (FileFits g.F.ReadAt.bytes Any) c.args.files.now c.args.ways.now c.requires.fit in
    omega (arith, c.requires.file, same)

pub returns-in-Err-clause-refused : goal.returns-in-Err-clause-refused
returns-in-Err-clause-refused g c =
    let files = c.args.files.now in
    let same = pairwise_length (FileFits g.F.ReadAt.bytes Any) files c.args.ways.now c.requires.fit in
    rw c.of_input.ensures
    (among_files g.F.ReadAt.fails g.F.ReadAt.bytes g.R.Input.can_give files c.args.file c.index-files-file.result
    c.in-Err.fault (omega (arith, c.requires.file, same)) c.index-files-file.is c.in-Err.ensures.refused)

pub returns-clause-fit : goal.returns-clause-fit
returns-clause-fit g c =
    let files = c.args.files.now in
    let same = pairwise_length (FileFits g.F.ReadAt.bytes Any) files c.args.ways.now c.requires.fit in
    pairwise_set (FileFits g.F.ReadAt.bytes Any) files c.args.ways.now c.args.file c.index-files-file.result c.in-Ok.way
    c.requires.fit (omega (arith, c.requires.file, same)) c.index-files-file.is c.in-Ok.ensures.fits
