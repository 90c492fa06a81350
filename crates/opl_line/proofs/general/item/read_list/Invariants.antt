use Rattle.std.proofs.Common.{◌≡◌, option_copied}
use Rattle.opl_line.specs.declared.bytes.cut.Delimiter.TheVariants.{Commas}
use Rattle.opl_line.specs.Delimiter.{is_end, pieces_of}
use Rattle.opl_line.specs.Item.{reading_list}
use Rattle.opl_line.proofs.CutLaws.{left_of}
use Rattle.opl_line.proofs.ItemLaws.{reading_on}
use Rattle.opl_line.proofs.general.item.read_list.Given as goal

abbrev pub invariant-items : goal.invariant-items
invariant-items g l = reading_list g.T.Item.reading l.fn.content
    ≡ reading_on g.T.Item.reading l.items.items (pieces_of (is_end Commas) (option_copied l.rest))

abbrev pub decreases-items : goal.decreases-items
decreases-items g l = left_of (option_copied l.rest)
