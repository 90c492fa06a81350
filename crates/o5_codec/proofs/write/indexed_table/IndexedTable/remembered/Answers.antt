use Rattle.std.proofs.Common.{◌≡◌, ap, sym, ◌∙◌, reverse, Some}
use Rattle.std.specs.List.{slice_get}
use Rattle.o5_codec.specs.Formed.{reference_to}
use Rattle.o5_codec.proofs.Newest.{from_back}
use Rattle.o5_codec.proofs.IndexSteps.{standing}
use Rattle.o5_codec.proofs.write.indexed_table.IndexedTable.remembered.Goals as goal

pub returns : goal.returns
returns c =
    let at : slice_get (reverse c.self.inside.ring.items) _ ≡ Some c.in_ok-entry.entry.now =
    sym (c.in_ok-entry.ensures ∙ from_back c.self.inside.ring.items _) in
    ap (reference_to c.in_ok-entry.entry.now) (sym c.self.view_is)
    ∙ standing (reverse c.self.inside.ring.items) _ c.in_ok-entry.entry.now c.self.invariant.indexed.distinct at
