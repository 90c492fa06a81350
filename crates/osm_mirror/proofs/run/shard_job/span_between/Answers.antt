use Rattle.std.proofs.Common.{◌∙◌, arith, sym}
use Rattle.osm_mirror.proofs.run_laws.ShardSpanLaws.{later_span_is}
use Rattle.osm_mirror.proofs.run.shard_job.span_between.Goals as goal

pub returns-in-Some-clause-span : goal.returns-in-Some-clause-span
returns-in-Some-clause-span c light =
    let shard = c.args.shard in
    later_span_is shard.number shard.count c.args.found.now c.in-Some.from c.bound_after-to.result c.not_below.result
    (omega (arith, c.if-shard-eq1.false, shard.first)) shard.within (sym c.in-Some.is ∙ c.bound.ensures light)
    (c.bound_after-to.ensures light) c.not_below.ensures.same
