-- The selections of a history, each defined by its members: the snapshot, the state at a moment, a period.
use Rattle.std.specs.Prelude.{ℕ, Bool, true, not, ◌&&◌, ◌||◌, nat_lt, nat_le, ◌==◌, Option, Some, None, option_map}
use Rattle.std.specs.Prelude.{unwrap_or}
use Rattle.std.specs.List.{list_any}
use Rattle.std.specs.Ordering.{is_eq, is_lt}
use Rattle.osm_model.specs.Data.{VersionData, is_deleted}
use Rattle.osm_model.specs.Order.{object_cmp, version_cmp}
use Rattle.osm_model.specs.Sets.{to_list}
use Rattle.osm_model.specs.VersionSet.{VersionSet}
use Rattle.osm_merge.specs.declared.selection.Selection.{Selection}
use Rattle.osm_merge.specs.declared.selection.Selection.TheVariants.{All, Visible, Newest, NewestVisible, State}
use Rattle.osm_merge.specs.declared.selection.Selection.TheVariants.{StateVisible, Between}
use Rattle.osm_merge.specs.Members.{retain, least}

-- the time of a version; no time counts as 0
abbrev pub moment : VersionData → ℕ
moment v = unwrap_or v.time 0

-- a version that isn't a deletion
abbrev pub is_visible : VersionData → Bool
is_visible v = not (is_deleted v.body)

-- w is a greater version of v's object
abbrev pub beats : VersionData → VersionData → Bool
beats v w = is_eq (object_cmp v w) && is_lt (version_cmp v w)

-- The snapshot: each version such that the set has no greater version of the same object. A deletion counts like any
-- other version. The snapshot has the newest version of each object, as after osmium's apply-changes, and still has the
-- deletions.
abbrev pub snapshot : VersionSet → VersionSet
snapshot s = retain s (λ v. not (list_any (beats v) (to_list s)))

-- The versions that aren't deletions, like osmium's flag "visible".
abbrev pub visible : VersionSet → VersionSet
visible s = retain s is_visible

-- a version that existed by the moment `t`: its time, if it has one, is at most `t`
abbrev pub is_by : ℕ → VersionData → Bool
is_by t v = nat_le (moment v) t

-- The state at a moment: the snapshot of the versions that existed by the moment. Without its deletions it is the map
-- at that moment, as of osmium's time-filter with one time.
abbrev pub at : VersionSet → ℕ → VersionSet
at s t = snapshot (retain s (is_by t))

-- the next version of v's object: the least of them in the set that is greater than v
abbrev pub next_in : VersionSet → VersionData → Option VersionData
next_in s v = least (retain s (beats v))

-- Whether a version of the time `start` is current at `from` or later, if the next one of its object has the time
-- `end`: there is no next one, or `end` is above `from`, or `end` equals `start` and isn't below `from`.
abbrev pub lasts : (from start : ℕ) → Option ℕ → Bool
lasts from start None = true
lasts from start (Some end) = nat_lt from end || (end == start && nat_le from end)

-- A period: each version with a time below `to` that is current at `from` or later. Deletions are kept like other
-- versions. It is the history of the map from one moment up to another, as of osmium's time-filter with two times.
abbrev pub between : VersionSet → (from to : ℕ) → VersionSet
between s from to = retain s (λ v. nat_lt (moment v) to && lasts from (moment v) (option_map moment (next_in s v)))

-- the selection of a set
abbrev pub selection_of : Selection → VersionSet → VersionSet
selection_of All s = s
selection_of Visible s = visible s
selection_of Newest s = snapshot s
selection_of NewestVisible s = visible (snapshot s)
selection_of (State t) s = at s t
selection_of (StateVisible t) s = visible (at s t)
selection_of (Between from to) s = between s from to
