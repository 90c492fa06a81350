use Rattle.osm_files.proofs.FileLaws.{files_are_read}
use Rattle.osm_files.proofs.laws.files_are_read.Goals as goal

pub returns : goal.returns
returns c = files_are_read
