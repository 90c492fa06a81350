use Rattle.std.proofs.Common.{◌∙◌, None}
use Rattle.osm_files.proofs.SourceSteps.{open_source}
use Rattle.osm_files.proofs.source.FileSource.ended.Goals as goal

pub invariant_of-result : goal.invariant_of-result
invariant_of-result g c = open_source g.R.Input.can_give c.new.result None _ (c.into_iter.ensures.rest ∙ c.new-2.ensures.items)
