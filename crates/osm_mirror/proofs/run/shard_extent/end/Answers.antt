use Rattle.std.proofs.Common.{IfOk, Some, sym, subst}
use Rattle.osm_mirror.specs.run.Cut.{IsCutOf, BeginsLinesOf}
use Rattle.osm_mirror.specs.run.ShardExtent.{EndsAtOf}
use Rattle.osm_mirror.proofs.run_laws.FileExtentLaws.{both_ok, cut_ends}
use Rattle.osm_mirror.proofs.run.shard_extent.end.Goals as goal

pub returns-in-Some-clause-ends : goal.returns-in-Some-clause-ends
returns-in-Some-clause-ends g c =
    let known = g.F.ReadAt.bytes c.args.file.now in
    subst (λ b. IfOk c.cut_offset.result (EndsAtOf known b)) (sym c.in-Some.is)
    (both_ok (IsCutOf known c.in-Some.bound) (BeginsLinesOf known) (EndsAtOf known (Some c.in-Some.bound))
    (cut_ends known c.in-Some.bound) c.cut_offset.result c.cut_offset.ensures.cut c.cut_offset.ensures.begins)
