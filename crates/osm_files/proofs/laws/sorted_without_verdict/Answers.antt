use Rattle.osm_files.proofs.FileLaws.{sorted_without_verdict}
use Rattle.osm_files.proofs.laws.sorted_without_verdict.Goals as goal

pub returns : goal.returns
returns c = sorted_without_verdict
