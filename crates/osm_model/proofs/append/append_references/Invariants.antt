use Rattle.std.proofs.Common.{◌≡◌, ◌++◌, ◌∷◌, length}
use Rattle.osm_model.specs.Line.{list_text, reference_text}
use Rattle.osm_model.specs.Cursor.{more_text}
use Rattle.osm_model.specs.Extends.{Extends}
use Rattle.osm_model.proofs.append.append_references.Given as goal

abbrev pub invariant-loop-rest : goal.invariant-loop-rest
invariant-loop-rest l =
    (l.fn.out.items ++ (32 ∷ 78 ∷ list_text reference_text l.ids) ≡ l.out.items ++ more_text reference_text l.rest)
    × Extends l.fn.out.items l.out.items

abbrev pub decreases-loop-rest : goal.decreases-loop-rest
decreases-loop-rest l = length l.rest
