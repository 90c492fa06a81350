-- A job over open files and streams: an own rule of this project.
use Rattle.std.specs.Prelude.{◌≡◌, ◌⊎◌, ℕ, ◌+◌, ◌-◌, ◌<◌, ◌^◌, Bool, true, false, List, [], ◌∷◌, ◌++◌, length, Option}
use Rattle.std.specs.Prelude.{Some, None, IfSome, slice_get}
use Rattle.std.specs.Borrow.{Bor}
use Rattle.std.specs.List as list
use Rattle.osm_model.specs.VersionSet.{VersionSet}
use Rattle.osm_model.specs.Sets.{size}
use Rattle.osm_model.specs.Pairwise.{Pairwise}
use Rattle.osm_files.specs.declared.fault.Fault.{Fault}
use Rattle.osm_files.specs.declared.sorted_run.SortedRun.{SortedRun}
use Rattle.osm_files.specs.declared.end_rule.EndRule.{EndRule}
use Rattle.osm_files.specs.declared.end_rule.EndRule.TheVariants as rule
use Rattle.osm_files.specs.EndRule.{by_rule, lacks_its_end, rule_of_file}
use Rattle.osm_files.specs.Extent.{RunCanGive}
use Rattle.osm_files.specs.Fault.{fault_at}
use Rattle.osm_files.specs.FileRuns.{IsAccepted, IsSortedRun}
use Rattle.osm_files.specs.Held.{Holds, HoldsSorted}
use Rattle.osm_files.specs.Input.{InputRest, GivesOne}
use Rattle.osm_files.specs.Output.{Change, Appends}
use Rattle.osm_files.specs.SortedRun.{whole_run, offset_in_file, IsSplitIntoRuns}
use Rattle.osm_files.specs.Spell.{spell}
use Rattle.osm_merge.specs.declared.merge.Counts.{Counts}
use Rattle.osm_merge.specs.Clashes.{clash_count}
use Rattle.osm_merge.specs.Selected.{selection_of}
use Rattle.osm_merge.specs.Union.{capped_count}
use Rattle.osm_mirror.specs.declared.run.file_way.FileWay.{FileWay}
use Rattle.osm_mirror.specs.declared.run.files_job.FilesJob.{FilesJob}
use Rattle.osm_mirror.specs.declared.run.files_job.JobFile.{JobFile}
use Rattle.osm_mirror.specs.declared.run.files_job.JobFile.TheVariants.{File, Stream}
use Rattle.osm_mirror.specs.declared.run.files_job.Order.{Order}
use Rattle.osm_mirror.specs.declared.run.files_job.Order.TheVariants.{Sorted, Any}
use Rattle.osm_mirror.specs.declared.run.input.InputFile.{InputFile}
use Rattle.osm_mirror.specs.declared.run.input.ReadAs.{ReadAs}
use Rattle.osm_mirror.specs.declared.run.input.ReadAs.TheVariants.{InOrder}
use Rattle.osm_mirror.specs.run.Given.{GivesAs}
use Rattle.osm_mirror.specs.run.Job.{union_of}

-- the bytes are a file that holds this set, and whose versions have the order that is required
abbrev pub HoldsAs : Order → List ℕ → VersionSet → Type 0
HoldsAs Sorted = HoldsSorted
HoldsAs Any = Holds

module _ {F R : Type 0} (bytes : F → Option (List ℕ)) (can : R → InputRest → Type 0) where
  -- A file of a job holds this set, in the order that is required, as far as the file's bytes are known. A stream gave
  -- such a file, which ends as its rule says.
  abbrev pub FileHolds : Order → JobFile F R → VersionSet → Type 0
  FileHolds order (File f end) held = IfSome (bytes f.now) (λ all. HoldsAs order all held)
  FileHolds order (Stream r end) held = GivesOne (can r) (λ c. GivesAs (InOrder order, by_rule end c) held)

-- A file of a job ends as its rule says, as far as the file's bytes are known. For a stream see `FileHolds`.
abbrev pub EndsByRule : {F R : Type 0} → (F → Option (List ℕ)) → JobFile F R → Type 0
EndsByRule bytes (File f end) = IfSome (bytes f.now) (λ all. lacks_its_end (rule_of_file end) all ≡ false)
EndsByRule bytes (Stream r end) = Unit {0}

-- A job over these files, with this change of the output: each file holds a set, in the order that is required, and the
-- one spelling of the selection of the union of the sets was appended. The clashes are those of the union, whatever is
-- selected.
pub record IsFilesJob {F R : Type 0} (bytes : F → Option (List ℕ)) (can : R → InputRest → Type 0) (job : FilesJob)
    (files : List (JobFile F R)) (change : Change) (counts : Counts) : Type 0 where
  pub held : List VersionSet
  pub accepted : Pairwise (FileHolds bytes can job.order) files held
  pub written : Appends change (spell job.format (selection_of job.selection (union_of held)))
  pub written_count : counts.written ≡ capped_count (size (selection_of job.selection (union_of held)))
  pub clashes_count : counts.clashes ≡ capped_count (clash_count (union_of held))

-- an open file of a job and the rule for its end, or none for a stream
abbrev pub opened_of : {F R : Type 0} → JobFile F R → Option (Bor F × EndRule)
opened_of (File f end) = Some (f, end)
opened_of (Stream r end) = None

-- ---- the ways in which files are read
-- a file is read as one input, which is the whole file
abbrev pub IsWhole : FileWay → Type 0
IsWhole way = way.runs.items ≡ whole_run ∷ []

-- a file of this size is read as one input of this order, and may be split or not
abbrev pub IsReadWhole : Order → ℕ → Bool → FileWay → Type 0
IsReadWhole order size may_be_split way =
    IsWhole way × (way.read_as ≡ InOrder order) × (way.size ≡ size) × (way.may_be_split ≡ may_be_split)

-- a file is read as one input of the order that is required
abbrev pub IsAsRequired : Order → FileWay → Type 0
IsAsRequired order way = IsWhole way × (way.read_as ≡ InOrder order) × (way.may_be_split ≡ false)

-- a file is read as one sorted file, and may be split if it isn't sorted
abbrev pub IsTried : FileWay → Type 0
IsTried way = IsWhole way × (way.read_as ≡ InOrder Sorted) × (way.may_be_split ≡ true)

-- a file is read as runs, which are sorted files if its bytes are known and are accepted in any order
abbrev pub IsReadAsRuns : Option (List ℕ) → FileWay → Type 0
IsReadAsRuns known way = (way.read_as ≡ InOrder Sorted) × (way.may_be_split ≡ false)
    × IfSome known (λ all. IsAccepted all → list.All (IsSortedRun all) way.runs.items)

-- a way in which a file may be read that must have this order
abbrev pub IsWayOf : Order → Option (List ℕ) → FileWay → Type 0
IsWayOf order known way =
    IsAsRequired order way ⊎ ((order ≡ Any) × IsTried way) ⊎ ((order ≡ Any) × IsReadAsRuns known way)

-- a file with these bytes, if they are known, is split into the runs in which it is read
abbrev pub FitsBytes : Option (List ℕ) → FileWay → Type 0
FitsBytes known way = (way.size < 2 ^ 62)
    × IfSome known (λ all. (length all ≡ way.size) × IsSplitIntoRuns all way.runs.items)

module _ {F R : Type 0} (bytes : F → Option (List ℕ)) where
  -- a file that must have this order may be read in this way
  abbrev pub FileFits : Order → JobFile F R → FileWay → Type 0
  FileFits order (File f end) way = IsWayOf order (bytes f.now) way × FitsBytes (bytes f.now) way
  FileFits order (Stream r end) way = IsAsRequired order way

  -- each file may be read in its way
  abbrev pub FilesFit : Order → List (JobFile F R) → List FileWay → Type 0
  FilesFit order files ways = Pairwise (FileFits order) files ways

-- ---- the inputs of files
-- an input is read in this way, and gives a run of a file of `size` bytes, which may end after any byte
pub record OpensRun {I : Type 0} (gives : I → InputRest → Type 0) (Fails : Type 0) (known : Option (List ℕ)) (size : ℕ)
    (how : ReadAs) (input : InputFile I) (run : SortedRun) : Type 0 where
  pub gives_run : (c : InputRest) → gives input.reader c → RunCanGive Fails known run size c
  pub read_as_is : input.read_as ≡ how
  pub end_is : input.end ≡ rule.Any

-- an input is read in this way, and gives what a stream gives, which has to end as its rule says
pub record OpensStream {R I : Type 0} (can : R → InputRest → Type 0) (gives : I → InputRest → Type 0) (how : ReadAs)
    (stream : R) (end : EndRule) (input : InputFile I) : Type 0 where
  pub gives_stream : (c : InputRest) → gives input.reader c → can stream c
  pub read_as_is : input.read_as ≡ how
  pub end_is : input.end ≡ end

module _ {F R I : Type 0} (fails : F → Type 0) (bytes : F → Option (List ℕ)) (can : R → InputRest → Type 0)
    (gives : I → InputRest → Type 0) where
  -- the inputs of a file that is read in this way
  abbrev pub OpensFile : JobFile F R → FileWay → List (InputFile I) → Type 0
  OpensFile (File f end) way inputs =
      Pairwise (OpensRun gives (fails f.now) (bytes f.now) way.size way.read_as) inputs way.runs.items
  OpensFile (Stream r end) way inputs =
      (input : InputFile I) × (inputs ≡ input ∷ []) × OpensStream can gives way.read_as r end input

  -- the inputs of files, in sequence
  abbrev pub OpensFiles : List (JobFile F R) → List FileWay → List (InputFile I) → Type 0
  OpensFiles [] ways inputs = inputs ≡ []
  OpensFiles (file ∷ files) [] inputs = ⊥
  OpensFiles (file ∷ files) (way ∷ ways) inputs = (added others : List (InputFile I)) × (inputs ≡ added ++ others)
      × OpensFile file way added × OpensFiles files ways others

  -- the inputs of a file were appended to others
  abbrev pub AddsFile : JobFile F R → FileWay → List (InputFile I) → List (InputFile I) → Type 0
  AddsFile file way before after = (added : List (InputFile I)) × (after ≡ before ++ added) × OpensFile file way added

-- ---- the faults of inputs
-- the fault of a run's input as the fault of its file
abbrev pub fault_in_run : ℕ → SortedRun → Fault → Fault
fault_in_run file run fault = fault_at file (offset_in_file run fault.place) fault.reason

-- the fault in this run of its file, or another fault if there is no such run
abbrev pub fault_in_run_or : ℕ → Option SortedRun → Fault → Fault → Fault
fault_in_run_or file (Some run) fault other = fault_in_run file run fault
fault_in_run_or file None fault other = other

-- The fault of the input `input` as the fault of its file, for files that are read in these ways and are numbered from
-- `file` on. A fault of the output has the number of files.
abbrev pub fault_in_files : ℕ → List FileWay → ℕ → Fault → Fault
fault_in_files file [] input fault = fault_at file fault.place fault.reason
fault_in_files file (way ∷ ways) input fault = fault_in_run_or file (slice_get way.runs.items input) fault
    (fault_in_files (file + 1) ways (input - length way.runs.items) fault)
