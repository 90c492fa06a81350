-- Why a job over open files and streams is refused: an own rule of this project.
use Rattle.std.specs.Prelude.{◌≡◌, ◌⊎◌, ℕ, ◌≤◌, ◌^◌, Bool, true, false, List, [], length, Option, Some, None, slice_get}
use Rattle.std.specs.Prelude.{IfSome}
use Rattle.std.specs.Borrow.{Bor}
use Rattle.std.specs.List as list
use Rattle.osm_model.specs.VersionSet.{VersionSet}
use Rattle.osm_model.specs.Pairwise.{Pairwise}
use Rattle.osm_files.specs.declared.fault.Fault.{Fault}
use Rattle.osm_files.specs.declared.output.Output.{Ghosts}
use Rattle.osm_files.specs.declared.reason.Reason.TheVariants.{NoEnd, ReadFault, WriteFault, TooLong, Unsorted}
use Rattle.osm_files.specs.Change.{change_of}
use Rattle.osm_files.specs.CutBack.{IsCutBack}
use Rattle.osm_files.specs.Fault.{memory_fault, too_long_fault, write_fault}
use Rattle.osm_files.specs.FileRuns.{IsAccepted}
use Rattle.osm_files.specs.declared.end_rule.EndRule.{EndRule}
use Rattle.osm_files.specs.EndRule.{by_rule, lacks_its_end, rule_of_file}
use Rattle.osm_files.specs.Input.{InputRest, GivesOne, failed_after}
use Rattle.osm_files.specs.Load.{StopsOpening, StopsLoading}
use Rattle.osm_files.specs.Output.{Change, Appends, IsAppended}
use Rattle.osm_files.specs.Sink.{CutShort}
use Rattle.osm_files.specs.Spell.{spell}
use Rattle.osm_files.specs.Position.{units_from}
use Rattle.osm_files.specs.SourceLaws.{input_verdict}
use Rattle.osm_files.specs.Stream.{Verdict, verdict_at}
use Rattle.osm_files.specs.Verdict.{verdict, verdict_sorted}
use Rattle.osm_merge.specs.Selected.{selection_of}
use Rattle.osm_mirror.specs.declared.run.file_way.FileWay.{FileWay}
use Rattle.osm_mirror.specs.declared.run.files_job.FilesJob.{FilesJob}
use Rattle.osm_mirror.specs.declared.run.files_job.JobFile.{JobFile}
use Rattle.osm_mirror.specs.declared.run.files_job.JobFile.TheVariants.{File, Stream}
use Rattle.osm_mirror.specs.declared.run.files_job.Order.{Order}
use Rattle.osm_mirror.specs.declared.run.files_job.Order.TheVariants.{Sorted, Any}
use Rattle.osm_mirror.specs.declared.run.input.ReadAs.TheVariants.{InOrder}
use Rattle.osm_mirror.specs.run.FilesJob.{HoldsAs, EndsByRule}
use Rattle.osm_mirror.specs.run.Given.{GivesAs, source_of}
use Rattle.osm_mirror.specs.run.Job.{union_of}

-- ---- the fault of one file
-- the first fault of bytes whose versions must have this order; none for a file of its grammar
abbrev pub verdict_as : Order → List ℕ → Option Verdict
verdict_as Sorted = verdict_sorted
verdict_as Any = verdict

-- the first fault of bytes whose end is missing, read in this order: they are refused as NoEnd at their end
abbrev pub cut_verdict : Order → List ℕ → Option Verdict
cut_verdict Sorted bytes = input_verdict (failed_after NoEnd bytes)
cut_verdict Any bytes = (units_from None 0 (failed_after NoEnd bytes)).refusal

-- the first fault of bytes whose end is missing or not
abbrev pub verdict_by_end : (cut : Bool) → Order → List ℕ → Option Verdict
verdict_by_end true = cut_verdict
verdict_by_end false = verdict_as

-- the fault has the place and the reason of this verdict; or the bytes are too many, and it says so
abbrev pub IsVerdict : Option Verdict → List ℕ → Fault → Type 0
IsVerdict found bytes fault = (found ≡ Some (verdict_at fault.place fault.reason))
    ⊎ ((2 ^ 62 ≤ length bytes) × (fault.place ≡ 2 ^ 62) × (fault.reason ≡ TooLong))

-- a read of a file failed, at an offset up to the file's size
abbrev pub IsFailedRead : (Fails : Type 0) → Option (List ℕ) → Fault → Type 0
IsFailedRead Fails known fault =
    Fails × (fault.reason ≡ ReadFault) × IfSome known (λ all. fault.place ≤ length all)

-- The fault of a file whose versions must have this order, and which has to end as the rule says: a read failed, or it
-- is the first fault of the bytes, if they are known.
abbrev pub IsFaultOfFile : (Fails : Type 0) → Option (List ℕ) → Order → EndRule → Fault → Type 0
IsFaultOfFile Fails known order end fault = IsFailedRead Fails known fault
    ⊎ IfSome known (λ all.
    IsVerdict (verdict_by_end (lacks_its_end (rule_of_file end) all) order all) all fault)

-- memory ran out, or the fault is one of a file, whatever its number
abbrev pub IsRefusedFileBy : (Fails : Type 0) → Option (List ℕ) → Order → EndRule → Fault → Type 0
IsRefusedFileBy Fails known order end fault = (fault ≡ memory_fault) ⊎ IsFaultOfFile Fails known order end fault

-- the bytes are accepted in this order
abbrev pub IsAcceptedAs : Order → List ℕ → Type 0
IsAcceptedAs order bytes = (held : VersionSet) × HoldsAs order bytes held

-- a file is accepted in this order and ends as the rule says, if its bytes are known
abbrev pub IsSoundFile : Option (List ℕ) → Order → EndRule → Type 0
IsSoundFile known order end =
    IfSome known (λ all. IsAcceptedAs order all × (lacks_its_end (rule_of_file end) all ≡ false))

-- The fault of a file in place of another one: memory ran out; or it is the file's; or the file is sound, and the fault
-- is the same at a place up to the file's size.
abbrev pub IsFaultIfSound : (Fails : Type 0) → Option (List ℕ) → Order → EndRule → Fault → Fault → Type 0
IsFaultIfSound Fails known order end fault first =
    ((first ≡ memory_fault) ⊎ ((first.input ≡ fault.input) × IsFaultOfFile Fails known order end first))
    ⊎ (IsSoundFile known order end × (first.reason ≡ fault.reason) × (first.input ≡ fault.input)
    × IfSome known (λ all. first.place ≤ length all))

-- an input was read to its end, as a file whose versions have this order
abbrev pub IsReadAs : Order → InputRest → Type 0
IsReadAs order c = (c.failure ≡ None) × IsAcceptedAs order c.bytes

-- the fault of the file that is open in the place of a fault, or the same fault if none is
abbrev pub FindsFirst : {F : Type 0} → (F → Type 0) → (F → Option (List ℕ)) → Option (Option (Bor F × EndRule)) → Fault
    → Fault → Type 0
FindsFirst fails bytes None fault first = first ≡ fault
FindsFirst fails bytes (Some None) fault first = first ≡ fault
FindsFirst fails bytes (Some (Some (f, end))) fault first =
    IsFaultIfSound (fails f.now) (bytes f.now) Any end fault first

-- why the file of an input that is read in this order isn't read to its end
abbrev pub StopsIn : Order → InputRest → Fault → Type 0
StopsIn Sorted = StopsOpening 0
StopsIn Any = StopsLoading 0

-- the size of a file with these bytes isn't known, or the file is too long
abbrev pub IsSizeFault : Type 0 → Option (List ℕ) → Fault → Type 0
IsSizeFault Fails known fault = (Fails × (fault.reason ≡ ReadFault) × (fault.place ≡ 0))
    ⊎ IfSome known (λ all. (2 ^ 62 ≤ length all) × (fault.place ≡ 2 ^ 62) × (fault.reason ≡ TooLong))

-- The fault is one of a file whose versions must have this order, and whose end isn't looked at. A sorted file has its
-- first fault. A file of any order has some fault: a read failed, or the bytes aren't accepted, if they are known.
abbrev pub IsFaultIn : Order → (Fails : Type 0) → Option (List ℕ) → Fault → Type 0
IsFaultIn Sorted Fails known fault =
    IsFailedRead Fails known fault ⊎ IfSome known (λ all. IsVerdict (verdict_sorted all) all fault)
IsFaultIn Any Fails known fault = (Fails × (fault.reason ≡ ReadFault)) ⊎ IfSome known (λ all. IsAccepted all → ⊥)

-- ---- the fault of the output
-- an output took this number of bytes
abbrev pub HasTaken : Change → ℕ → Type 0
HasTaken change count = (taken : List ℕ) × (length taken ≡ count) × Appends change taken

-- The fault is that of the output, whose number is this: it has failed, after it took as many bytes as the place says;
-- or `Long` is true of what was to be written.
abbrev pub IsOutputFault : ℕ → Change → Type 0 → Fault → Type 0
IsOutputFault number change Long fault =
    ((fault.input ≡ number) × (fault.reason ≡ WriteFault) × (change.failed ≡ true) × HasTaken change fault.place)
    ⊎ ((fault ≡ too_long_fault number) × Long)

-- An output took this number of bytes, and holds them; or it was cut back after it took them.
abbrev pub HasTakenUpTo : {O : Type 0} → Ghosts O → (can_cut : Bool) → O → O → ℕ → Type 0
HasTakenUpTo {O = O} output can_cut before after count = HasTaken (change_of output before after) count
    ⊎ ((can_cut ≡ true) × ((full : O) × (output.failed full ≡ true) × HasTaken (change_of output before full) count
    × ((kept : ℕ) × IsCutBack (output.holds full) (output.holds after) kept)))

-- The fault is that of the output, whose number is this and which has failed: after it took as many bytes as the place
-- says; or at 0, when it was to be cut back.
abbrev pub IsWriteRefusal : {O : Type 0} → Ghosts O → (can_cut : Bool) → ℕ → O → O → Fault → Type 0
IsWriteRefusal output can_cut number before after fault =
    (fault.input ≡ number) × (fault.reason ≡ WriteFault) × (output.failed after ≡ true)
    × (HasTakenUpTo output can_cut before after fault.place ⊎ ((can_cut ≡ true) × (fault.place ≡ 0)))

-- what an output might hold before it may hold after, and nothing more
abbrev pub NothingStands : {O : Type 0} → Ghosts O → O → O → Type 0
NothingStands output before after = IsAppended (output.holds before) (output.holds after) []

-- ---- ways
-- no file may be split
abbrev pub AreSettled : List FileWay → Type 0
AreSettled ways = list.All (λ way. way.may_be_split ≡ false) ways

-- the file of this number may be split
abbrev pub MayBeSplit : List FileWay → ℕ → Type 0
MayBeSplit ways file = (way : FileWay) × (slice_get ways file ≡ Some way) × (way.may_be_split ≡ true)

-- a file that may be split isn't sorted, or what a turn was to write is too long: this fault doesn't decide the job
abbrev pub LeavesOpen : List FileWay → Fault → Type 0
LeavesOpen ways fault = ((fault.reason ≡ Unsorted) × MayBeSplit ways fault.input)
    ⊎ ((fault.reason ≡ TooLong) × (fault.input ≡ length ways))

-- a turn that is refused with this fault decides the job: no file may be split, or the fault leaves nothing open
abbrev pub DecidesJob : List FileWay → Fault → Type 0
DecidesJob ways fault = AreSettled ways ⊎ (LeavesOpen ways fault → ⊥)

-- a regular file of a job is accepted, if its bytes are known
abbrev pub AreSound : {F R : Type 0} → (F → Option (List ℕ)) → JobFile F R → Type 0
AreSound bytes (File f end) = IsSoundFile (bytes f.now) Any end
AreSound bytes (Stream r end) = Unit {0}

module _ {F R : Type 0} (fails : F → Type 0) (bytes : F → Option (List ℕ)) (can : R → InputRest → Type 0) where
  -- a stream gave something that is refused with this reason at this place
  abbrev pub IsFaultOfStream : Order → R → EndRule → Fault → Type 0
  IsFaultOfStream order r end fault = GivesOne (can r) (λ c. (input : ℕ)
      × ((source_of input (InOrder order, by_rule end c)).refusal ≡ Some (record fault { input = input })))

  -- The fault is one of this file, which must have this order and end as its rule says: its first one.
  abbrev pub IsFaultByRule : Order → JobFile F R → Fault → Type 0
  IsFaultByRule order (File f end) fault = IsFaultOfFile (fails f.now) (bytes f.now) order end fault
  IsFaultByRule order (Stream r end) fault = IsFaultOfStream order r end fault

  -- the fault has the number of one of these files, and is a fault of that file
  abbrev pub IsFaultAmongByRule : Order → List (JobFile F R) → Fault → Type 0
  IsFaultAmongByRule order files fault =
      (file : JobFile F R) × (slice_get files fault.input ≡ Some file) × IsFaultByRule order file fault

  -- memory ran out, or the fault is one of this file, whatever its number
  abbrev pub IsRefusedByRule : Order → JobFile F R → Fault → Type 0
  IsRefusedByRule order file fault = (fault ≡ memory_fault) ⊎ IsFaultByRule order file fault

  -- memory ran out, or the fault is one of these files, each of which has to end as its rule says
  abbrev pub AreRefusedByRule : Order → List (JobFile F R) → Fault → Type 0
  AreRefusedByRule order files fault = (fault ≡ memory_fault) ⊎ IsFaultAmongByRule order files fault

  -- the fault is one of this file, which must have this order and whose end isn't looked at
  abbrev pub IsFaultOf : Order → JobFile F R → Fault → Type 0
  IsFaultOf order (File f end) fault = IsFaultIn order (fails f.now) (bytes f.now) fault
  IsFaultOf order (Stream r end) fault = IsFaultOfStream order r end fault

  -- the fault has the number of one of these files, and is a fault of that file
  abbrev pub IsFaultAmong : Order → List (JobFile F R) → Fault → Type 0
  IsFaultAmong order files fault =
      (file : JobFile F R) × (slice_get files fault.input ≡ Some file) × IsFaultOf order file fault

  -- memory ran out, or the fault is one of this file, whatever its number
  abbrev pub IsRefusedFile : Order → JobFile F R → Fault → Type 0
  IsRefusedFile order file fault = (fault ≡ memory_fault) ⊎ IsFaultOf order file fault

  -- memory ran out, or the fault is one of these files
  abbrev pub AreRefused : Order → List (JobFile F R) → Fault → Type 0
  AreRefused order files fault = (fault ≡ memory_fault) ⊎ IsFaultAmong order files fault

  -- ---- good files
  -- A file that no job refuses: no read of it fails, its bytes are known, and they are a file that holds this set, in
  -- the order that is required. A stream gives such a file, which ends as its rule says, whatever it gives.
  abbrev pub IsGood : Order → JobFile F R → VersionSet → Type 0
  IsGood order (File f end) held =
      (fails f.now → ⊥) × ((all : List ℕ) × (bytes f.now ≡ Some all) × HoldsAs order all held)
  IsGood order (Stream r end) held = (c : InputRest) → can r c → GivesAs (InOrder order, by_rule end c) held

  -- if each file is good, a front of the one spelling of the selection of the union of the files' sets was appended
  abbrev pub IsCutIfGood : FilesJob → List (JobFile F R) → Change → Fault → Type 0
  IsCutIfGood job files change fault = (held : List VersionSet) → Pairwise (IsGood job.order) files held
      → CutShort (length files) change (spell job.format (selection_of job.selection (union_of held))) fault

  -- if each file is good, the one spelling of the selection of the union of the files' sets has 2^62 bytes or more
  abbrev pub IsLong : FilesJob → List (JobFile F R) → Type 0
  IsLong job files = (held : List VersionSet) → Pairwise (IsGood job.order) files held
      → 2 ^ 62 ≤ length (spell job.format (selection_of job.selection (union_of held)))

  -- ---- the job
  -- A later read of this file, of which each unit was read before, may be refused with this fault: a read fails, or the
  -- file's bytes aren't known.
  abbrev pub FailsLater : JobFile F R → Fault → Type 0
  FailsLater (File f end) fault = (fails f.now × (fault.reason ≡ ReadFault)) ⊎ (bytes f.now ≡ None)
  FailsLater (Stream r end) fault = ⊥

  -- What is left of a job over files of any order that was refused. If the output can be cut back, nothing that the
  -- job wrote; or cutting it back failed. If it can't, nothing was written before the fault of a file or of a stream;
  -- or a later read of a file failed.
  pub record Stands {O : Type 0} (output : Ghosts O) (can_cut : Bool) (files : List (JobFile F R)) (before after : O)
      (fault : Fault) : Type 0 where
    pub cut_back : can_cut ≡ true → NothingStands output before after ⊎ (fault ≡ write_fault (length files) 0)
    pub unwritten : can_cut ≡ false → (fault ≡ memory_fault → ⊥) → (file : JobFile F R)
        → slice_get files fault.input ≡ Some file → NothingStands output before after ⊎ FailsLater file fault

  -- Why a job over these files was refused: memory ran out, one of the files has a fault among `Among`, the output has
  -- failed, or what was to be written is too long. If all files are good and end as their rules say, and nothing that
  -- was written is removed, a front of the file that was to be written was appended.
  pub record RefusesJobAs (Among : Fault → Type 0) {O : Type 0} (output : Ghosts O) (can_cut : Bool) (job : FilesJob)
      (files : List (JobFile F R)) (before after : O) (fault : Fault) : Type 0 where
    pub why : (fault ≡ memory_fault) ⊎ Among fault
        ⊎ IsWriteRefusal output can_cut (length files) before after fault
        ⊎ ((fault ≡ too_long_fault (length files)) × IsLong job files)
    pub cut : (job.order ≡ Sorted) ⊎ (can_cut ≡ false) → list.All (EndsByRule bytes) files
        → IsCutIfGood job files (change_of output before after) fault
    pub stands : job.order ≡ Any → Stands output can_cut files before after fault

  -- why a job was refused: one of the files has this first fault, or as above
  abbrev pub RefusesFilesJob : {O : Type 0} → Ghosts O → Bool → FilesJob → List (JobFile F R) → O → O → Fault → Type 0
  RefusesFilesJob output can_cut job files before after fault =
      RefusesJobAs (IsFaultAmongByRule job.order files) output can_cut job files before after fault

  -- why a job over files of any order was refused: one of the files has some fault, or as above
  abbrev pub RefusesAnyOrder : {O : Type 0} → Ghosts O → Bool → FilesJob → List (JobFile F R) → O → O → Fault → Type 0
  RefusesAnyOrder output can_cut job files before after fault =
      RefusesJobAs (IsFaultAmong Any files) output can_cut job files before after fault

  -- ---- one turn
  -- the fault is one of this file; or the file may be split, and isn't sorted
  abbrev pub IsFaultInWay : Order → JobFile F R → FileWay → Fault → Type 0
  IsFaultInWay order file way fault =
      IsFaultOf order file fault ⊎ ((way.may_be_split ≡ true) × (fault.reason ≡ Unsorted))

  -- The fault has the number of one of these files, and is a fault of that file, which is read in its way. A file that
  -- is read as a whole before anything is written was refused before that.
  pub record IsFaultInWays (order : Order) (files : List (JobFile F R)) (ways : List FileWay) (Unwritten : Type 0)
      (fault : Fault) : Type 0 where
    pub file : JobFile F R
    pub way : FileWay
    pub file_is : slice_get files fault.input ≡ Some file
    pub way_is : slice_get ways fault.input ≡ Some way
    pub fault_is : IsFaultInWay order file way fault
    pub unwritten : (way.read_as ≡ InOrder Sorted) ⊎ Unwritten

  -- why a turn was refused, as for the job; a file that may be split may be out of order
  pub record RefusesTurn {O : Type 0} (output : Ghosts O) (job : FilesJob) (files : List (JobFile F R))
      (ways : List FileWay) (before after : O) (fault : Fault) : Type 0 where
    pub why : (fault ≡ memory_fault) ⊎ IsFaultInWays job.order files ways (after ≡ before) fault
        ⊎ IsOutputFault (length files) (change_of output before after) (AreSettled ways → IsLong job files) fault
    pub cut : AreSettled ways → IsCutIfGood job files (change_of output before after) fault
