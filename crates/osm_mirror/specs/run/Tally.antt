-- The numbers of versions by what they are, and their first and last time: an own rule of this project.
use Rattle.std.specs.Prelude.{◌≡◌, ℕ, ◌+◌, ◌==◌, Bool, min, max, List, [], ◌∷◌, length, Option, Some, None}
use Rattle.std.specs.Prelude.{if◌then◌else◌}
use Rattle.std.specs.List.{filter}
use Rattle.osm_model.specs.Data.{VersionData, kind_of, is_deleted}
use Rattle.osm_model.specs.declared.kind.Kind.{Kind}
use Rattle.osm_model.specs.declared.kind.Kind.TheVariants.{Node, Way, Relation}
use Rattle.osm_model.specs.Kind.{kind_order}
use Rattle.osm_merge.specs.Union.{capped_count}
use Rattle.osm_mirror.specs.declared.run.tally.Tally.{Tally}

-- whether a version is of a kind
abbrev pub is_of : Kind → VersionData → Bool
is_of kind v = kind_order (kind_of v.body) == kind_order kind

-- whether a version is a deletion
abbrev pub is_deletion : VersionData → Bool
is_deletion v = is_deleted v.body

-- the number of versions with a property
abbrev pub count_of : (VersionData → Bool) → List VersionData → ℕ
count_of p versions = length (filter p versions)

-- the one of two times that `f` chooses; a missing time is never chosen
abbrev pub chosen : (ℕ → ℕ → ℕ) → Option ℕ → Option ℕ → Option ℕ
chosen f None other = other
chosen f (Some time) None = Some time
chosen f (Some time) (Some other) = Some (f time other)

-- the time of a list of versions that `f` chooses
abbrev pub chosen_time : (ℕ → ℕ → ℕ) → List VersionData → Option ℕ
chosen_time f [] = None
chosen_time f (v ∷ versions) = chosen f v.time (chosen_time f versions)

-- A tally has the numbers of nodes, ways, relations and deletions among versions, and their least and greatest time.
-- Versions without a time have no part in these two.
pub record Tallies (versions : List VersionData) (tally : Tally) : Type 0 where
  pub nodes : tally.nodes ≡ capped_count (count_of (is_of Node) versions)
  pub ways : tally.ways ≡ capped_count (count_of (is_of Way) versions)
  pub relations : tally.relations ≡ capped_count (count_of (is_of Relation) versions)
  pub deleted : tally.deleted ≡ capped_count (count_of is_deletion versions)
  pub first : tally.first ≡ chosen_time min versions
  pub last : tally.last ≡ chosen_time max versions

-- the tally of no versions
abbrev pub no_versions : Tally
no_versions = record { nodes = 0; ways = 0; relations = 0; deleted = 0; first = None; last = None }

-- 1 if it is so, else 0
abbrev pub one_if : Bool → ℕ
one_if is_so = if is_so then 1 else 0

-- a tally counts one version more
pub record IsTalliedWith (before : Tally) (v : VersionData) (after : Tally) : Type 0 where
  pub nodes : after.nodes ≡ capped_count (before.nodes + one_if (is_of Node v))
  pub ways : after.ways ≡ capped_count (before.ways + one_if (is_of Way v))
  pub relations : after.relations ≡ capped_count (before.relations + one_if (is_of Relation v))
  pub deleted : after.deleted ≡ capped_count (before.deleted + one_if (is_deletion v))
  pub first : after.first ≡ chosen min before.first v.time
  pub last : after.last ≡ chosen max before.last v.time
