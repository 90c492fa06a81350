use Rattle.std.proofs.Common.{IfOk, Some, sym, subst}
use Rattle.osm_mirror.specs.run.Cut.{IsCutOf, BeginsLinesOf}
use Rattle.osm_mirror.specs.run.ShardExtent.{BeginsAtOf}
use Rattle.osm_mirror.proofs.run_laws.FileExtentLaws.{both_ok, cut_begins}
use Rattle.osm_mirror.proofs.run.shard_extent.begin.Goals as goal

pub returns-in-Some-clause-begins : goal.returns-in-Some-clause-begins
returns-in-Some-clause-begins g c =
    let known = g.F.ReadAt.bytes c.args.file.now in
    subst (λ b. IfOk c.cut_offset.result (BeginsAtOf known b)) (sym c.in-Some.is)
    (both_ok (IsCutOf known c.in-Some.bound) (BeginsLinesOf known) (BeginsAtOf known (Some c.in-Some.bound))
    (cut_begins known c.in-Some.bound) c.cut_offset.result c.cut_offset.ensures.cut c.cut_offset.ensures.begins)
