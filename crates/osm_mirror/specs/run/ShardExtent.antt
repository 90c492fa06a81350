-- The extent of a file that a shard reads, and what it holds: an own rule of this project.
use Rattle.std.specs.Prelude.{◌≡◌, ◌⊎◌, ℕ, ◌-◌, ◌≤◌, ◌||◌, nat_le, Bool, true, false, not, List, [], ◌∷◌, length}
use Rattle.std.specs.Prelude.{Option, Some, None, IfSome, if◌then◌else◌}
use Rattle.std.specs.Borrow.{Bor}
use Rattle.osm_model.specs.declared.object.Object.{Object}
use Rattle.osm_model.specs.Pairwise.{Pairwise}
use Rattle.osm_files.specs.declared.end_rule.EndRule.TheVariants as rule
use Rattle.osm_files.specs.declared.sorted_run.SortedRun.{SortedRun}
use Rattle.osm_files.specs.SortedRun.{whole_run}
use Rattle.osm_merge.specs.declared.span.Span.{Span}
use Rattle.osm_merge.specs.declared.within.Outside.{Outside}
use Rattle.osm_merge.specs.declared.within.Outside.TheVariants.{Dropped, Refused}
use Rattle.osm_mirror.specs.declared.run.file_way.FileWay.{FileWay}
use Rattle.osm_mirror.specs.declared.run.files_job.JobFile.{JobFile}
use Rattle.osm_mirror.specs.declared.run.files_job.JobFile.TheVariants.{File}
use Rattle.osm_mirror.specs.declared.run.input.ReadAs.TheVariants.{Within}
use Rattle.osm_mirror.specs.declared.run.shard_extent.FileExtent.{FileExtent}
use Rattle.osm_mirror.specs.run.Bounds.{is_opl}
use Rattle.osm_mirror.specs.run.Cut.{cut_of, IsCutAt, BeginsLines}

-- the size of a file if it is OPL
abbrev pub size_if_opl : List ℕ → Option ℕ
size_if_opl all = if is_opl all then Some (length all) else None

-- the same, if the file's bytes are known
abbrev pub IsOplSize : Option (List ℕ) → Option ℕ → Type 0
IsOplSize known size = IfSome known (λ all. size ≡ size_if_opl all)

-- ---- what is read of a file
-- the size of the largest OPL file that is read whole
abbrev pub small_size : ℕ
small_size = 4096

-- is a file read whole? An o5 file is, and a small one
abbrev pub is_read_whole : List ℕ → Bool
is_read_whole all = nat_le (length all) small_size || not (is_opl all)

-- versions outside of a span are dropped if a file is read whole, and otherwise refused
abbrev pub outside_if : Bool → Outside
outside_if is_whole = if is_whole then Dropped else Refused

-- the offset at which the lines of a file begin that are within a span with this lower bound
abbrev pub begin_of : List ℕ → Option Object → ℕ
begin_of all None = 0
begin_of all (Some bound) = cut_of all bound

-- the offset at which the lines of a file end that are within a span with this upper bound
abbrev pub end_of : List ℕ → Option Object → ℕ
end_of all None = length all
end_of all (Some bound) = cut_of all bound

-- the extent of a file begins at this offset: at its first byte, or where the file is cut at the lower bound
abbrev pub BeginsAt : List ℕ → Option Object → ℕ → Type 0
BeginsAt all None start = start ≡ 0
BeginsAt all (Some bound) start = IsCutAt all bound start × BeginsLines all start × (start ≡ cut_of all bound)

-- the extent of a file ends at this offset: at its last byte, or where the file is cut at the upper bound
abbrev pub EndsAt : List ℕ → Option Object → ℕ → Type 0
EndsAt all None end = end ≡ length all
EndsAt all (Some bound) end = IsCutAt all bound end × BeginsLines all end × (end ≡ cut_of all bound)

-- the same, if the file's bytes are known
abbrev pub BeginsAtOf : Option (List ℕ) → Option Object → ℕ → Type 0
BeginsAtOf known bound start = IfSome known (λ all. BeginsAt all bound start)

abbrev pub EndsAtOf : Option (List ℕ) → Option Object → ℕ → Type 0
EndsAtOf known bound end = IfSome known (λ all. EndsAt all bound end)

-- a file has an extent within a span, from one offset up to another
pub record IsPartWithin (span : Span) (all : List ℕ) (start end : ℕ) : Type 0 where
  pub begins : BeginsAt all span.from start
  pub ends : EndsAt all span.to end
  pub ascends : start ≤ end

-- the bytes from one offset up to another
abbrev pub lines_between : ℕ → ℕ → SortedRun
lines_between start end = record { start = start; size = end - start; lacks_header = false; lacks_end = false }

-- all of a file is read, and versions outside of the span are dropped
abbrev pub IsWhole : FileExtent → Type 0
IsWhole extent = (extent.outside ≡ Dropped) × (extent.run ≡ whole_run)

-- the lines within a span of an OPL file are read, and versions outside of the span are refused
pub record IsLinesWithin (span : Span) (all : List ℕ) (extent : FileExtent) : Type 0 where
  pub opl : is_opl all ≡ true
  pub outside : extent.outside ≡ Refused
  pub run : (start : ℕ) × (end : ℕ) × (extent.run ≡ lines_between start end) × IsPartWithin span all start end

-- what is read of a file for a span: all of it, or the lines within the span, as its bytes determine
pub record IsFileExtent (span : Span) (all : List ℕ) (extent : FileExtent) : Type 0 where
  pub size : length all ≡ extent.size
  pub outside : extent.outside ≡ outside_if (is_read_whole all)
  pub read : IsWhole extent ⊎ IsLinesWithin span all extent

-- the same, if the file's bytes are known
abbrev pub IsExtentOf : Span → Option (List ℕ) → FileExtent → Type 0
IsExtentOf span known extent = IfSome known (λ all. IsFileExtent span all extent)

-- a file is read within a span as one input, which is this extent of it
pub record IsWayOfExtent (span : Span) (extent : FileExtent) (way : FileWay) : Type 0 where
  pub runs : way.runs.items ≡ extent.run ∷ []
  pub size : way.size ≡ extent.size
  pub read_as : way.read_as ≡ Within span extent.outside

-- a file is read in this way for a span: its extent within the span is the one input; without a span it has no input
abbrev pub IsWayWithin : Option Span → Option (List ℕ) → FileWay → Type 0
IsWayWithin None known way = way.runs.items ≡ []
IsWayWithin (Some span) known way =
    (extent : FileExtent) × IsExtentOf span known extent × IsWayOfExtent span extent way

-- these are the ways in which files are read for a span, one for each
abbrev pub AreWaysWithin : {F : Type 0} → (F → Option (List ℕ)) → Option Span → List (Bor F) → List FileWay → Type 0
AreWaysWithin bytes span = Pairwise (λ file way. IsWayWithin span (bytes file.now) way)

-- an open file of a job that may end after any byte
abbrev pub opened_as_whole : {F R : Type 0} → Bor F → JobFile F R
opened_as_whole file = File file rule.Any
