use Rattle.osm_model.specs.Sets.{to_list}
use Rattle.osm_merge.proofs.Choosing.{IsChoosing}
use Rattle.osm_merge.proofs.chosen.choose.Given as goal

abbrev pub invariant-loop-index : goal.invariant-loop-index
invariant-loop-index l = IsChoosing l.selection (to_list l.history) l.index l.pending l.chosen.items
