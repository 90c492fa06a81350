-- The first faulty unit of any bytes.
use Rattle.std.specs.Prelude.{ℕ, ◌-◌, ◌^◌, nat_lt, Bool, false, List, [], ◌∷◌, length, take, map, slice_get, Option}
use Rattle.std.specs.Prelude.{Some, None, if◌then◌else◌}
use Rattle.std.specs.Ordering.{is_lt}
use Rattle.osm_model.specs.Data.{VersionData}
use Rattle.osm_model.specs.Order.{version_cmp, key_cmp}
use Rattle.osm_model.specs.VersionSet.{VersionSet}
use Rattle.osm_model.specs.Sets.{from_list}
use Rattle.osm_files.specs.declared.reason.Reason.TheVariants.{TooLong, Unsorted}
use Rattle.osm_files.specs.Stream.{Verdict, verdict_at, Placed, SourceRest}
use Rattle.osm_files.specs.Units.{units, start_of}

unfoldable pub length_limit : ℕ
length_limit = 2 ^ 62

-- the verdict on 2^62 bytes or more, unless a whole unit below the limit is faulty
abbrev pub too_long_verdict : Verdict
too_long_verdict = verdict_at length_limit TooLong

-- the units of a file, up to the first that is faulty
unfoldable pub file_units : List ℕ → SourceRest Placed Verdict
file_units bytes =
    if nat_lt (length bytes) length_limit then units None (start_of bytes) 0 bytes
    else units (Some too_long_verdict) (start_of bytes) 0 (take (length_limit - 1) bytes)

abbrev pub versions_of : List Placed → List VersionData
versions_of = map (λ unit. unit.version)

-- the set that a file holds; if the bytes are no file, the versions before the first faulty unit
abbrev pub held_by : List ℕ → VersionSet
held_by bytes = from_list {R = version_cmp} (versions_of (file_units bytes).list)

-- the offset and the reason of the first faulty unit
abbrev pub verdict : List ℕ → Option Verdict
verdict bytes = (file_units bytes).refusal

-- is the version's key below the key of the version before it?
abbrev pub is_below : VersionData → Option VersionData → Bool
is_below v None = false
is_below v (Some before) = is_lt (key_cmp v before)

-- is the version's key below the key of the last of these versions?
abbrev pub is_below_last : VersionData → List VersionData → Bool
is_below_last v versions = is_below v (slice_get versions (length versions - 1))

-- The verdict on order of these units: it is Unsorted at the first one whose version's key is below the key of the
-- version before. Without such a unit it is the verdict that closes them.
abbrev pub sorted_verdict : Option Verdict → Option VersionData → List Placed → Option Verdict
sorted_verdict close before [] = close
sorted_verdict close before (unit ∷ units) =
    if is_below unit.version before then Some (verdict_at unit.offset Unsorted)
    else sorted_verdict close (Some unit.version) units

-- the verdict on order of a file
abbrev pub verdict_sorted : List ℕ → Option Verdict
verdict_sorted bytes = let units = file_units bytes in sorted_verdict units.refusal None units.list
