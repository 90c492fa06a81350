use Rattle.osm_files.proofs.HoldLaws.{whole_refusal}
use Rattle.osm_files.proofs.laws.source_ends_as_verdict.Goals as goal

pub returns : goal.returns
returns c = whole_refusal
