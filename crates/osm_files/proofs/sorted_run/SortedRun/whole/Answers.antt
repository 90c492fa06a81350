use Rattle.osm_files.proofs.SplitLaws.{whole_file}
use Rattle.osm_files.proofs.sorted_run.SortedRun.whole.Goals as goal

pub returns-clause-bytes : goal.returns-clause-bytes
returns-clause-bytes c = whole_file
