use Rattle.osm_files.proofs.FileLaws.{verdict_without_order}
use Rattle.osm_files.proofs.laws.verdict_without_order.Goals as goal

pub returns : goal.returns
returns c = verdict_without_order
