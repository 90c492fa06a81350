use Rattle.osm_mirror.proofs.run_laws.ShardJobLaws.{shard_jobs_write_the_job}
use Rattle.osm_mirror.proofs.laws.shard_jobs_write_the_job.Goals as goal

pub returns : goal.returns
returns c = shard_jobs_write_the_job
