-- The effect of calls of a sink on the versions put so far.
use Rattle.std.specs.Prelude.{◌≡◌, ℕ, List, ◌++◌, length, Result, Ok, Err}
use Rattle.std.specs.List.{AllByRecursion}
use Rattle.osm_model.specs.Data.{VersionData}
use Rattle.osm_files.specs.declared.fault.Fault.{Fault}
use Rattle.osm_files.specs.declared.format.Format.{Format}
use Rattle.osm_files.specs.declared.output.Output.{Ghosts}
use Rattle.osm_files.specs.Change.{change_of}
use Rattle.osm_files.specs.Spell.{spell_list}
use Rattle.osm_files.specs.Sink.{SinkState, Takes, HasPut, WritesFile}
use Rattle.osm_files.specs.SpellLaws.{Puts}
use Rattle.osm_merge.specs.Union.{capped_count}

-- a sink takes each of some versions, which are at most one in each use
abbrev pub TakesEach : List VersionData → SinkState → Type 0
TakesEach versions sink = AllByRecursion (λ v. Takes v sink) versions

-- a sink that has put some versions also puts the versions `more`
abbrev pub PutsMore : {O : Type 0} → Ghosts O → List VersionData → SinkState → SinkState → O → O
    → Result (Unit {0}) Fault → Type 0
PutsMore {O} output more old new mid now result =
    (format : Format) (number : ℕ) (put : List VersionData) (before : O)
    → HasPut format number put (change_of output before mid) old
    → Puts format number (put ++ more) (change_of output before now) new result

-- the result of a call without its value
abbrev pub outcome_of : {A : Type 0} → Result A Fault → Result (Unit {0}) Fault
outcome_of (Ok value) = Ok tt
outcome_of (Err fault) = Err fault

-- a count of the versions that were put also counts the versions `more`
abbrev pub CountsMore : List VersionData → ℕ → ℕ → Type 0
CountsMore more old new = (put : List VersionData) → old ≡ capped_count (length put) →
    new ≡ capped_count (length (put ++ more))

-- a sink that has put some versions also puts the versions `more`, and ends the file
abbrev pub EndsFile : {A O : Type 0} → Ghosts O → List VersionData → SinkState → O → O → Result A Fault → Type 0
EndsFile {O = O} output more old mid now result =
    (format : Format) (number : ℕ) (put : List VersionData) (before : O)
    → HasPut format number put (change_of output before mid) old
    → WritesFile number (change_of output before now) (spell_list format (put ++ more)) result
