-- The versions that an input has within a span: an own rule of this project.
use Rattle.std.specs.Prelude.{◌≡◌, ◌⊎◌, ℕ, true, not, None}
use Rattle.std.specs.List.{list_any}
use Rattle.osm_model.specs.Order.{version_cmp}
use Rattle.osm_model.specs.Sets.{from_list}
use Rattle.osm_model.specs.VersionSet.{VersionSet}
use Rattle.osm_files.specs.Groups.{sorted_source}
use Rattle.osm_files.specs.Input.{InputRest}
use Rattle.osm_merge.specs.declared.span.Span.{Span}
use Rattle.osm_merge.specs.declared.within.Outside.{Outside}
use Rattle.osm_merge.specs.declared.within.Outside.TheVariants.{Dropped, Refused}
use Rattle.osm_merge.specs.Slice.{is_under, slice_of, IsWithin}
use Rattle.osm_merge.specs.ToCome as source
use Rattle.osm_merge.specs.Within.{given_within}
use Rattle.osm_mirror.specs.run.Merge.{GivesSorted}

-- the versions that an input gives within a span
abbrev pub given_slice : Span → ℕ → Outside × InputRest → source.VersionsToCome
given_slice span number input = given_within input.0 number span (sorted_source number input.1)

-- The part that a job reads of a whole file: the versions within the span of those that the file's source gives. The
-- source ends without a fault, or gives a version that isn't below the upper bound.
pub record IsPartRead (span : Span) (given : source.VersionsToCome) (part : VersionSet) : Type 0 where
  pub slice : part ≡ slice_of span.from span.to (from_list {R = version_cmp} given.list)
  pub within : IsWithin span part
  pub complete : (given.refusal ≡ None) ⊎ (list_any (λ v. not (is_under span.to v)) given.list ≡ true)

-- The versions that an input has within a span. A part of a file is sorted, and all its objects are within the span. Of
-- a whole file it is the part that the job reads. If the file is sorted, this is the slice of its set. If the span has
-- no upper bound, the whole file is sorted. The number of the input makes no difference: only a fault has it.
abbrev pub HasSlice : Span → Outside × InputRest → VersionSet → Type 0
HasSlice span (Refused, c) part = GivesSorted c part × IsWithin span part
HasSlice span (Dropped, c) part =
    ((held : VersionSet) → GivesSorted c held → part ≡ slice_of span.from span.to held)
    × (span.to ≡ None → (held : VersionSet) × GivesSorted c held)
    × (number : ℕ) × IsPartRead span (sorted_source number c) part

-- An input that has a slice: a part of a file is a sorted file, and all its objects are within the span; a whole file
-- is a sorted file, of which this is the slice.
abbrev pub GivesSlice : Span → Outside × InputRest → VersionSet → Type 0
GivesSlice span (Refused, c) part = GivesSorted c part × IsWithin span part
GivesSlice span (Dropped, c) part = (held : VersionSet) × GivesSorted c held × (part ≡ slice_of span.from span.to held)
