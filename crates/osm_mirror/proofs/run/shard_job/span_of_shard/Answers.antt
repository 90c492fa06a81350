use Rattle.std.proofs.Common.{◌≡◌, ◌∙◌, ◌<◌, ◌^◌, List, arith, ap, sym, subst}
use Rattle.osm_mirror.specs.declared.run.bounds.Found.{Found}
use Rattle.osm_mirror.specs.run.Bounds.{total_weight}
use Rattle.osm_mirror.specs.run.ShardSpan.{span_of_number}
use Rattle.osm_mirror.proofs.run_laws.ShardSpanLaws.{span_of_found}
use Rattle.osm_mirror.proofs.run.shard_job.span_of_shard.Goals as goal

pub returns-clause-span : goal.returns-clause-span
returns-clause-span g c all have =
    let shard = c.args.shard in
    let f = c.in_ok-found.ensures.found all have in
    let items : List Found = c.in_ok-found.found.items in
    let same : c.as_slice.result.now ≡ items = c.as_slice.ensures.value in
    c.span_between.ensures.span (subst (λ (xs : List Found). total_weight xs < 2 ^ 62) (sym same) f.1)
    ∙ ap (span_of_number shard.number shard.count) same
    ∙ span_of_found shard.number shard.count all items (omega (arith, shard.first)) shard.within f.0

pub returns-clause-short : goal.returns-clause-short
returns-clause-short g c all have = c.in_ok-found.ensures.short all have
