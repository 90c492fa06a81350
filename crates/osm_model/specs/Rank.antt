-- The rank of a version: its key as one number, as far as 64 bits hold the key (own rule of this project).
use Rattle.std.specs.Prelude.{ℕ, ◌+◌, ◌*◌, ◌-◌, ◌^◌, min, nat_lt, if◌then◌else◌, unsigned_abs}
use Rattle.osm_model.specs.Kind.{kind_order}
use Rattle.osm_model.specs.Data.{VersionData, kind_of}
use Rattle.osm_model.specs.Order.{is_positive}

-- the kind, then whether the id is above 0
abbrev pub kind_and_sign : VersionData → ℕ
kind_and_sign v = 2 * kind_order (kind_of v.body) + (if is_positive v.id then 1 else 0)

-- the absolute value of the id, up to 2^45 - 1
abbrev pub capped_id : VersionData → ℕ
capped_id v = min (unsigned_abs v.id) (2 ^ 45 - 1)

-- the version number, up to 2^16 - 1; 0 if `capped_id` doesn't determine the id
abbrev pub capped_number : VersionData → ℕ
capped_number v = if nat_lt (unsigned_abs v.id) (2 ^ 45 - 1) then min v.number (2 ^ 16 - 1) else 0

abbrev pub rank_of : VersionData → ℕ
rank_of v = (kind_and_sign v * 2 ^ 45 + capped_id v) * 2 ^ 16 + capped_number v
