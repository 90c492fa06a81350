use Rattle.osm_files.proofs.LoadFormats.{formats_determined}
use Rattle.osm_files.proofs.laws.written_files_determine_their_format.Goals as goal

pub returns : goal.returns
returns c = formats_determined
