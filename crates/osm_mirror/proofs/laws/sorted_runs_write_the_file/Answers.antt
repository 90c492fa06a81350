use Rattle.osm_mirror.proofs.run_laws.SortedRunLaws.{sorted_runs_write_the_file}
use Rattle.osm_mirror.proofs.laws.sorted_runs_write_the_file.Goals as goal

pub returns : goal.returns
returns c = sorted_runs_write_the_file
