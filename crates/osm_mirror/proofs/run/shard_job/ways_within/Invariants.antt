use Rattle.std.proofs.Common.{take}
use Rattle.osm_mirror.specs.run.ShardExtent.{AreWaysWithin}
use Rattle.osm_mirror.proofs.run.shard_job.ways_within.Given as goal

abbrev pub invariant-files : goal.invariant-files
invariant-files g l = AreWaysWithin g.F.ReadAt.bytes l.span (take l.input l.files) l.ways.items
