use Rattle.std.proofs.Common.{◌≡◌, take}
use Rattle.osm_model.proofs.items.ItemList.copy.Given as goal

abbrev pub invariant-loop-item : goal.invariant-loop-item
invariant-loop-item g l = l.vec.items ≡ take l.item-index l.item-items
