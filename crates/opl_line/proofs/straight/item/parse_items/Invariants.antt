use Rattle.std.proofs.Common.{◌≡◌, ◌++◌, true, length}
use Rattle.std.specs.List.{list_all}
use Rattle.opl_line.proofs.StraightListLaws.{with_commas}
use Rattle.opl_line.proofs.straight.item.parse_items.Given as goal

abbrev pub invariant-items : goal.invariant-items
invariant-items g l = record {
  text : l.text ≡ with_commas g.T.StraightItem.form l.items.items ++ l.rest;
  valid : list_all g.T.StraightItem.is_valid l.items.items ≡ true;
}

abbrev pub decreases-items : goal.decreases-items
decreases-items g l = length l.rest
