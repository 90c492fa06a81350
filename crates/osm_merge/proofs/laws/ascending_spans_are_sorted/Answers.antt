use Rattle.osm_merge.proofs.SliceLaws.{ascending_spans_are_sorted}
use Rattle.osm_merge.proofs.laws.ascending_spans_are_sorted.Goals as goal

pub returns : goal.returns
returns c = ascending_spans_are_sorted
