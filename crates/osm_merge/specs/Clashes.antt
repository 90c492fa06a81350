-- Clashes: the keys with a visible and a deleted version. An own rule of this project.
use Rattle.std.specs.Prelude.{ℕ, Bool, map}
use Rattle.osm_model.specs.Data.{VersionData, is_deleted}
use Rattle.osm_model.specs.Order.{key_of, key_order}
use Rattle.osm_model.specs.Sets.{Set, to_list, from_list, contains, size}
use Rattle.osm_model.specs.VersionSet.{VersionSet}
use Rattle.osm_merge.specs.Members.{retain}
use Rattle.osm_merge.specs.Selected.{visible}

-- a deleted version
abbrev pub is_deletion : VersionData → Bool
is_deletion v = is_deleted v.body

-- the deleted versions
abbrev pub deletions : VersionSet → VersionSet
deletions s = retain s is_deletion

-- the keys of the versions, each once
abbrev pub keys_of : VersionSet → Set key_order
keys_of s = from_list (map key_of (to_list s))

-- the clashes: the keys of visible versions that are also keys of deleted versions
abbrev pub clashes_of : VersionSet → Set key_order
clashes_of s = retain (keys_of (visible s)) (λ key. contains (keys_of (deletions s)) key)

-- the number of clashes
unfoldable pub clash_count : VersionSet → ℕ
clash_count s = size (clashes_of s)
