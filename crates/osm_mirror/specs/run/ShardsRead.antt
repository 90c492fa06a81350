-- What jobs for shards show of the files that they read, sorted or not: an own rule of this project.
use Rattle.std.specs.Prelude.{◌≡◌, ℕ, ◌<◌, ◌≤◌, ◌^◌, Bool, true, false, List, length, sum_by, Option, Some, None}
use Rattle.std.specs.List as list
use Rattle.osm_model.specs.declared.object.Object.{Object}
use Rattle.osm_model.specs.VersionSet.{VersionSet}
use Rattle.osm_files.specs.Held.{HoldsSorted}
use Rattle.osm_files.specs.Lines.{bytes_between}
use Rattle.osm_merge.specs.declared.span.Span.{Span}
use Rattle.osm_merge.specs.Slice.{IsWithin}
use Rattle.osm_mirror.specs.run.Bounds.{opl_size, shard_span}
use Rattle.osm_mirror.specs.run.Cut.{cut_of, BeginsLines}
use Rattle.osm_mirror.specs.run.ShardExtent.{is_read_whole, begin_of, end_of}

-- the bytes are a sorted file
abbrev pub IsSortedFile : List ℕ → Type 0
IsSortedFile bytes = (held : VersionSet) × HoldsSorted bytes held

-- lines begin where a file is cut at an upper bound, if there is one
abbrev pub AreCutAt : List ℕ → Option Object → Type 0
AreCutAt bytes None = Unit {0}
AreCutAt bytes (Some bound) = BeginsLines bytes (cut_of bytes bound)

-- the lines of a file from its cut at the lower bound of a span up to its cut at the upper bound are a sorted file,
-- whose objects are within the span
pub record HasLines (span : Span) (bytes : List ℕ) : Type 0 where
  pub cut : AreCutAt bytes span.to
  pub ascends : begin_of bytes span.from ≤ end_of bytes span.to
  pub part : VersionSet
  pub holds : HoldsSorted (bytes_between (begin_of bytes span.from) (end_of bytes span.to) bytes) part
  pub within : IsWithin span part

-- A file that is read whole is read up to the upper bound of a span. So it is sorted if there is no such bound.
abbrev pub HasReadAs : Bool → Span → List ℕ → Type 0
HasReadAs true span bytes = span.to ≡ None → IsSortedFile bytes
HasReadAs false span bytes = HasLines span bytes

-- what a job for a span shows of a file that it reads
abbrev pub HasReadFile : Span → List ℕ → Type 0
HasReadFile span bytes = HasReadAs (is_read_whole bytes) span bytes

-- what a job for a span shows of all files; without a span it reads none
abbrev pub HasReadSpan : Option Span → List (List ℕ) → Type 0
HasReadSpan None all = Unit {0}
HasReadSpan (Some span) all = list.All (HasReadFile span) all

-- What the job for the shard `number` of `count` shows of files with these bytes: the OPL files together have fewer
-- than 2^62 bytes, and what the job has read of each file within the shard's span is sorted.
pub record HasReadShard (number count : ℕ) (all : List (List ℕ)) : Type 0 where
  pub short : sum_by opl_size all < 2 ^ 62
  pub read : HasReadSpan (shard_span number count all) all

-- If the jobs for all shards of an output succeed over the same files, each of these files is sorted.
abbrev pub ShardsReadSortedFiles : Type 0
ShardsReadSortedFiles =
    (count : ℕ) (all : List (List ℕ)) → 0 < count
    → ((number : ℕ) → 1 ≤ number → number ≤ count → HasReadShard number count all) → list.All IsSortedFile all
