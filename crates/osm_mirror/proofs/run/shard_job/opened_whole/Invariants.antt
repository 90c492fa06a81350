use Rattle.std.proofs.Common.{◌≡◌, take, map}
use Rattle.osm_mirror.specs.run.ShardExtent.{opened_as_whole}
use Rattle.osm_mirror.proofs.run.shard_job.opened_whole.Given as goal

abbrev pub invariant-files : goal.invariant-files
invariant-files g l = l.opened.items ≡ map opened_as_whole (take l.file-index l.files)
