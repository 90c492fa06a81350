use Rattle.osm_mirror.proofs.run_laws.ShardLaws.{shards_write_the_job}
use Rattle.osm_mirror.proofs.laws.shards_write_the_job.Goals as goal

pub returns : goal.returns
returns c = shards_write_the_job
