use Rattle.std.proofs.Common.{arith}
use Rattle.std.proofs.lemmas.Result.{IfOk-weaker}
use Rattle.osm_mirror.proofs.run_laws.ProbeLaws.{small_whole, large_whole}
use Rattle.osm_mirror.proofs.run.shard_extent.is_read_whole.Goals as goal

pub returns-then-size-le-SMALL_SIZE-clause-whole : goal.returns-then-size-le-SMALL_SIZE-clause-whole
returns-then-size-le-SMALL_SIZE-clause-whole g c =
    small_whole (g.F.ReadAt.bytes c.args.file.now) c.args.size c.requires.size (omega (arith, c.if-size-le-SMALL_SIZE.true))

pub returns-clause-whole : goal.returns-clause-whole
returns-clause-whole g c =
    IfOk-weaker c.begins_as_o5.result _ _
    (λ is_o5 begins. large_whole (g.F.ReadAt.bytes c.args.file.now) c.args.size is_o5 c.requires.size
    (omega (arith, c.if-size-le-SMALL_SIZE.false)) begins)
    c.begins_as_o5.ensures.begins
