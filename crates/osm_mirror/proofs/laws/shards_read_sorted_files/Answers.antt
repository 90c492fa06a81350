use Rattle.osm_mirror.proofs.run_laws.ShardsReadLaws.{shards_read_sorted_files}
use Rattle.osm_mirror.proofs.laws.shards_read_sorted_files.Goals as goal

pub returns : goal.returns
returns c = shards_read_sorted_files
