use Rattle.std.proofs.Common.{length, arith, ap, sym, subst, refl}
use Rattle.osm_mirror.specs.declared.run.files_job.Order.TheVariants.{Any}
use Rattle.osm_mirror.specs.run.FilesJob.{FilesFit}
use Rattle.osm_mirror.proofs.run_laws.WayLaws.{back_fits, back_settled}
use Rattle.osm_mirror.proofs.run.file_way.split_ways.Goals as goal

pub split_files-requires : goal.split_files-requires
split_files-requires g c = record {
  fit = subst (FilesFit g.F.ReadAt.bytes Any c.args.files.now) (sym c.as_mut_slice.ensures.value) c.requires.fit;
}

pub returns-clause-fit : goal.returns-clause-fit
returns-clause-fit g c =
    back_fits g.F.ReadAt.bytes c.args.files.now Any c.args.ways.len c.split_files.new.ways c.args.ways.items
    (omega (arith, c.as_mut_slice.ensures.len, ap length c.as_mut_slice.ensures.value)) refl c.requires.fit c.in_ok-split_files.ensures.fit

pub returns-clause-settled : goal.returns-clause-settled
returns-clause-settled g c = λ none.
    back_settled g.F.ReadAt.bytes c.args.files.now c.args.ways.len c.split_files.new.ways c.args.ways.items
    (omega (arith, c.as_mut_slice.ensures.len, ap length c.as_mut_slice.ensures.value)) c.requires.fit c.in_ok-split_files.ensures.fit
    (c.in_ok-split_files.ensures.settled none)
