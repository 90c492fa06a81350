-- The order of versions: that of osmium by type, id and version; then by time, visibility and line (own rules of this
-- project).
use Rattle.std.specs.Prelude.{ℤ, pos, negsuc, Bool, nat_lt, unsigned_abs, unwrap_or, false}
use Rattle.std.specs.declared.cmp.Ordering.{Ordering}
use Rattle.std.specs.Ordering.{then_cmp, on, nat_cmp, bool_cmp}
use Rattle.std.specs.Cmp.{IsTotalOrder, then_total, on_total, nat_cmp_total, bool_cmp_total}
use Rattle.std.specs.Cmp.Lexicographic.{slice_cmp, nat_list_cmp_total}
use Rattle.osm_model.specs.declared.object.Key.{Key}
use Rattle.osm_model.specs.declared.object.Object.{Object}
use Rattle.osm_model.specs.Kind.{kind_order}
use Rattle.osm_model.specs.Data.{VersionData, kind_of, is_deleted}
use Rattle.osm_model.specs.Line.{line}

abbrev pub is_positive : ℤ → Bool
is_positive (pos n) = nat_lt 0 n
is_positive (negsuc n) = false

-- the kind, ids above 0 after the others, the absolute value of the id
abbrev pub object_order : Object → Object → Ordering
object_order = then_cmp (then_cmp (on (λ o. kind_order o.kind) nat_cmp) (on (λ o. is_positive o.id) bool_cmp))
    (on (λ o. unsigned_abs o.id) nat_cmp)

-- the object, then the version number
abbrev pub key_order : Key → Key → Ordering
key_order = then_cmp (on (λ k. k.object) object_order) (on (λ k. k.number) nat_cmp)

-- the object of a version: its kind and its id
abbrev pub object_of : VersionData → Object
object_of v = record { kind = kind_of v.body; id = v.id }

-- the key of a version: its object and its version number
abbrev pub key_of : VersionData → Key
key_of v = record { object = object_of v; number = v.number }

abbrev pub object_cmp : VersionData → VersionData → Ordering
object_cmp = on object_of object_order

abbrev pub key_cmp : VersionData → VersionData → Ordering
key_cmp = on key_of key_order

-- the key, the time with none as 0, visible versions before deletions
abbrev pub data_cmp : VersionData → VersionData → Ordering
data_cmp = then_cmp (then_cmp key_cmp (on (λ v. unwrap_or v.time 0) nat_cmp)) (on (λ v. is_deleted v.body) bool_cmp)

-- the data, then the bytes of the canonical line, a text before its extensions
abbrev pub version_cmp : VersionData → VersionData → Ordering
version_cmp = then_cmp data_cmp (on line (slice_cmp nat_cmp))

pub object_order_total : IsTotalOrder object_order
object_order_total =
    then_total (then_total (on_total (λ o. kind_order o.kind) nat_cmp_total)
    (on_total (λ o. is_positive o.id) bool_cmp_total))
    (on_total (λ o. unsigned_abs o.id) nat_cmp_total)

pub key_order_total : IsTotalOrder key_order
key_order_total = then_total (on_total (λ k. k.object) object_order_total) (on_total (λ k. k.number) nat_cmp_total)

pub object_cmp_total : IsTotalOrder object_cmp
object_cmp_total = on_total object_of object_order_total

pub key_cmp_total : IsTotalOrder key_cmp
key_cmp_total = on_total key_of key_order_total

pub data_cmp_total : IsTotalOrder data_cmp
data_cmp_total = then_total (then_total key_cmp_total (on_total (λ v. unwrap_or v.time 0) nat_cmp_total))
    (on_total (λ v. is_deleted v.body) bool_cmp_total)

pub version_cmp_total : IsTotalOrder version_cmp
version_cmp_total = then_total data_cmp_total (on_total line nat_list_cmp_total)
