use Rattle.osm_mirror.specs.run.Given.{AreOpened}
use Rattle.osm_mirror.proofs.run.source.open_inputs.Given as goal

abbrev pub invariant-files : goal.invariant-files
invariant-files g l = AreOpened g.R.Input.can_give 0 l.yielded l.sources.items
