-- The kinds of objects, in the order by type of osmium, with their letters of the OPL manual.
use Rattle.std.specs.Prelude.{ℕ}
use Rattle.osm_model.specs.declared.kind.Kind.{Kind}
use Rattle.osm_model.specs.declared.kind.Kind.TheVariants.{Node, Way, Relation}

abbrev pub kind_order : Kind → ℕ
kind_order Node = 0
kind_order Way = 1
kind_order Relation = 2

-- `n`, `w`, `r`
abbrev pub kind_letter : Kind → ℕ
kind_letter Node = 110
kind_letter Way = 119
kind_letter Relation = 114
