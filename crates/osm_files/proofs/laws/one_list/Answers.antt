use Rattle.osm_files.proofs.FileLaws.{one_list}
use Rattle.osm_files.proofs.laws.one_list.Goals as goal

pub returns : goal.returns
returns c = one_list
