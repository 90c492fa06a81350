-- Laws of the definitions: the versions of an object that stay in each part decide those that stay in the whole.
use Rattle.std.specs.Prelude.{◌≡◌, ◌↔◌, ℕ, List, map}
use Rattle.std.specs.List.{flat_map, All, Contains}
use Rattle.osm_model.specs.Sets.{union, empty}
use Rattle.osm_model.specs.VersionSet.{VersionSet}
use Rattle.osm_files.specs.SpellLaws.{AreVersions}
use Rattle.osm_merge.specs.Members.{union_all}
use Rattle.osm_merge.specs.Selected.{snapshot, at}

-- the snapshot of the union of two histories is that of the union of their snapshots
abbrev pub SnapshotOfUnion : Type 0
SnapshotOfUnion = (s t : VersionSet) → snapshot (union s t) ≡ snapshot (union (snapshot s) (snapshot t))

-- the same for any number of histories
abbrev pub SnapshotOfUnions : Type 0
SnapshotOfUnions = (sets : List VersionSet) → snapshot (union_all sets) ≡ snapshot (union_all (map snapshot sets))

-- a snapshot is its own snapshot
abbrev pub SnapshotOfSnapshot : Type 0
SnapshotOfSnapshot = (s : VersionSet) → snapshot (snapshot s) ≡ snapshot s

-- the state of the union of two histories is the snapshot of the union of their states
abbrev pub StateOfUnion : Type 0
StateOfUnion = (s t : VersionSet) (time : ℕ) → at (union s t) time ≡ snapshot (union (at s time) (at t time))

-- the same for any number of histories
abbrev pub StateOfUnions : Type 0
StateOfUnions = (sets : List VersionSet) (time : ℕ) →
    at (union_all sets) time ≡ snapshot (union_all (map (λ s. at s time) sets))

-- the union of some sets depends neither on their order nor on repetitions
abbrev pub UnionOfTheSame : Type 0
UnionOfTheSame = (sets others : List VersionSet) → ((s : VersionSet) → Contains sets s ↔ Contains others s) →
    union_all sets ≡ union_all others

-- the union of some sets doesn't depend on their grouping
abbrev pub UnionOfGroups : Type 0
UnionOfGroups = (groups : List (List VersionSet)) →
    union_all (map union_all groups) ≡ union_all (flat_map (λ group. group) groups)

-- the empty set adds nothing to a union
abbrev pub UnionWithEmpty : Type 0
UnionWithEmpty = (s : VersionSet) → union empty s ≡ s

-- the union of sets that are within the ranges of versions is within them
abbrev pub UnionStaysInRange : Type 0
UnionStaysInRange = (sets : List VersionSet) → All AreVersions sets → AreVersions (union_all sets)
