use Rattle.osm_files.proofs.FileLaws.{accepted_without_verdict}
use Rattle.osm_files.proofs.laws.accepted_without_verdict.Goals as goal

pub returns : goal.returns
returns c = accepted_without_verdict
