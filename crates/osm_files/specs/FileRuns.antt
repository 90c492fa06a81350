-- The runs that are found in a file: own rules of this project.
use Rattle.std.specs.Prelude.{◌≡◌, ◌⊎◌, ℕ, Bool, not, ◌||◌, List, length, Option, Some, None}
use Rattle.std.specs.Prelude.{IfSome, Result, Ok, Err}
use Rattle.osm_model.specs.Data.{VersionData}
use Rattle.osm_model.specs.VersionSet.{VersionSet}
use Rattle.osm_files.specs.declared.fault.Fault.{Fault}
use Rattle.osm_files.specs.declared.reason.Reason.TheVariants.{Unsorted, ReadFault}
use Rattle.osm_files.specs.declared.sorted_run.SortedRun.{SortedRun}
use Rattle.osm_files.specs.Fault.{memory_fault}
use Rattle.osm_files.specs.Held.{Holds, HoldsSorted}
use Rattle.osm_files.specs.Input.{InputRest}
use Rattle.osm_files.specs.SortedRun.{run_bytes, offset_in_file, is_reset}
use Rattle.osm_files.specs.Stream.{verdict_at, SourceRest}
use Rattle.osm_files.specs.Verdict.{verdict_sorted}

-- the source can give a list that ends without a refusal
abbrev pub EndsWhole : {S : Type 0} → (S → SourceRest VersionData Fault → Type 0) → S → Type 0
EndsWhole can s = (still : SourceRest VersionData Fault) × can s still × (still.refusal ≡ None)

-- the fault is out of memory, or the source can give a list that ends with it as its refusal
abbrev pub StopsSource : {S : Type 0} → (S → SourceRest VersionData Fault → Type 0) → S → Fault → Type 0
StopsSource can s fault = (fault ≡ memory_fault)
    ⊎ ((still : SourceRest VersionData Fault) × can s still × (still.refusal ≡ Some fault))

-- an input gives a sorted file, and then its end
abbrev pub GivesSortedFile : InputRest → Type 0
GivesSortedFile c = (c.failure ≡ None) × ((held : VersionSet) × HoldsSorted c.bytes held)

-- the bytes of the run of this file are a sorted file
abbrev pub IsSortedRun : List ℕ → SortedRun → Type 0
IsSortedRun file run = (held : VersionSet) × HoldsSorted (run_bytes run file) held

-- if the bytes of a file are known, and the file has `size` bytes, the bytes have this property
abbrev pub IfWhole : Option (List ℕ) → ℕ → (List ℕ → Type 0) → Type 0
IfWhole known size P = IfSome known (λ all. length all ≡ size → P all)

-- the bytes are a file that is accepted, sorted or not
abbrev pub IsAccepted : List ℕ → Type 0
IsAccepted bytes = (held : VersionSet) × Holds bytes held

-- the bytes of the run of this file are accepted, sorted or not
abbrev pub IsAcceptedRun : List ℕ → SortedRun → Type 0
IsAcceptedRun file run = IsAccepted (run_bytes run file)

-- if the bytes of the run of this file are accepted, they are a sorted file
abbrev pub IsSortedIfAccepted : List ℕ → SortedRun → Type 0
IsSortedIfAccepted file run = IsAcceptedRun file run → IsSortedRun file run

-- the first version whose key is below the key of the version before it begins at this offset of the bytes
abbrev pub IsFirstUnsorted : List ℕ → ℕ → Type 0
IsFirstUnsorted bytes offset = verdict_sorted bytes ≡ Some (verdict_at offset Unsorted)

-- the first version of the run whose key is below the key of the version before it begins at this offset of the file
abbrev pub IsFirstUnsortedIn : List ℕ → SortedRun → ℕ → Type 0
IsFirstUnsortedIn file run offset =
    (place : ℕ) × IsFirstUnsorted (run_bytes run file) place × (offset ≡ offset_in_file run place)

-- the fault is out of memory; or reads of the file may fail, and the fault is that one did
abbrev pub IsReadFailure : Type 0 → Fault → Type 0
IsReadFailure Fails fault = (fault ≡ memory_fault) ⊎ (Fails × (fault.reason ≡ ReadFault))

-- the fault is out of memory, or that the file can't be read; or the bytes aren't accepted as a file
abbrev pub IsRefusalOf : Type 0 → List ℕ → Fault → Type 0
IsRefusalOf Fails bytes fault = IsReadFailure Fails fault ⊎ (IsAccepted bytes → ⊥)

-- The result of reading a run of this file: none if the run is a sorted file, or the offset of its first version that
-- is out of order, or a refusal of the run.
abbrev pub IsOrderOf : Type 0 → List ℕ → SortedRun → Result (Option ℕ) Fault → Type 0
IsOrderOf Fails file run (Ok None) = IsSortedRun file run
IsOrderOf Fails file run (Ok (Some offset)) = IsFirstUnsortedIn file run offset
IsOrderOf Fails file run (Err fault) = IsRefusalOf Fails (run_bytes run file) fault

-- has the run, with this first byte, no bytes but those of the file, and are they OPL?
abbrev pub is_lines : SortedRun → Option ℕ → Bool
is_lines run first = not (run.lacks_header || (run.lacks_end || is_reset first))
