-- The order by kind of versions (osmium's order by type).
use Rattle.std.specs.Prelude.{List}
use Rattle.std.specs.List.Sorted.{IsStrictlySortedBy, IsNonDecreasingBy}
use Rattle.osm_model.specs.Kind.{kind_order}
use Rattle.osm_model.specs.Data.{VersionData, kind_of}
use Rattle.osm_model.specs.Order.{version_cmp}

-- the kinds of an ascending list never decrease: nodes, ways, relations
abbrev pub KindsDontFall : Type 0
KindsDontFall = (versions : List VersionData) → IsStrictlySortedBy version_cmp versions →
    IsNonDecreasingBy (λ v. kind_order (kind_of v.body)) versions
