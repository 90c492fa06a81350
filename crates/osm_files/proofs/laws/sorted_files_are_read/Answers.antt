use Rattle.osm_files.proofs.FileLaws.{sorted_files_are_read}
use Rattle.osm_files.proofs.laws.sorted_files_are_read.Goals as goal

pub returns : goal.returns
returns c = sorted_files_are_read
