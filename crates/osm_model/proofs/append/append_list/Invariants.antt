use Rattle.std.proofs.Common.{◌≡◌, ◌++◌, drop}
use Rattle.osm_model.specs.Line.{list_text}
use Rattle.osm_model.specs.Cursor.{more_text}
use Rattle.osm_model.specs.Extends.{Extends}
use Rattle.osm_model.proofs.append.append_list.Given as goal

abbrev pub invariant-loop-item : goal.invariant-loop-item
invariant-loop-item g l =
    (l.fn.out.items ++ (l.fn.mark ++ list_text g.T.ListItem.text l.items) ≡ l.out.items
    ++ more_text g.T.ListItem.text (drop l.item-index l.more))
    × Extends l.fn.out.items l.out.items
