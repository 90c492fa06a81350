-- Where the order of a run of a file breaks: own rules of this project.
use Rattle.std.specs.Prelude.{◌≡◌, ◌⊎◌, ℕ, Bool, true, false, ◌||◌, List, slice_get, Option, Some, None}
use Rattle.std.specs.Prelude.{Result, Ok, Err}
use Rattle.osm_files.specs.declared.fault.Fault.{Fault}
use Rattle.osm_files.specs.declared.sorted_run.SortedRun.{SortedRun}
use Rattle.osm_files.specs.FileRuns.{IsSortedRun, IsSortedIfAccepted, IsFirstUnsortedIn, IsRefusalOf}
use Rattle.osm_files.specs.SetKey.{IsKeyedFile}
use Rattle.osm_files.specs.SortedRun.{run_bytes, is_reset, front_run}

-- the run is a sorted file, or an o5 file whose keys don't fall
abbrev pub IsSortedByKeys : List ℕ → SortedRun → Type 0
IsSortedByKeys file run = IsSortedRun file run ⊎ IsKeyedFile (run_bytes run file)

-- is the run of this file an o5 file?
abbrev pub starts_as_o5 : List ℕ → SortedRun → Bool
starts_as_o5 file run = run.lacks_header || is_reset (slice_get file run.start)

-- the run is an o5 file, and the keys of its data sets before the offset don't fall
abbrev pub SetsRiseTo : List ℕ → SortedRun → ℕ → Type 0
SetsRiseTo file run offset = (starts_as_o5 file run ≡ true)
    × IsKeyedFile (run_bytes (record (front_run false run offset) { lacks_end = true }) file)

-- The order of the run breaks at this offset: there is its first version that is out of order; or the lines before the
-- offset are a sorted file, if they are accepted; or the keys of the data sets before the offset don't fall.
abbrev pub BreaksAt : List ℕ → SortedRun → ℕ → Type 0
BreaksAt file run offset = IsFirstUnsortedIn file run offset
    ⊎ IsSortedIfAccepted file (front_run false run offset)
    ⊎ SetsRiseTo file run offset

-- The result of a search for the break of a run's order: none if the run is a sorted file as far as it is accepted, or
-- the offset of the break, or a refusal of the run.
abbrev pub IsBreakOf : Type 0 → List ℕ → SortedRun → Result (Option ℕ) Fault → Type 0
IsBreakOf Fails file run (Ok None) = IsSortedIfAccepted file run
IsBreakOf Fails file run (Ok (Some offset)) = BreaksAt file run offset
IsBreakOf Fails file run (Err fault) = IsRefusalOf Fails (run_bytes run file) fault
