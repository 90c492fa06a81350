use Rattle.std.proofs.Common.{rules}
use Rattle.osm_model.proofs.AppendLaws.{list_begins}
use Rattle.osm_model.proofs.append.append_list.Goals as goal

pub loop-item-init : goal.loop-item-init
loop-item-init g c = (
  list_begins g.T.ListItem.text c.in-Some.first.now c.args.items.now c.in-Some.more.now c.args.mark.now c.args.out.now.items
      c.append_after.new.out.items (search rules) c.in_ok-append_after.ensures.appended,
  c.append_after.ensures.kept,
)
