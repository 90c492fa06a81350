-- The output of the commands that read all of their inputs first, and the reasons why the commands are refused: an own
-- rule of this project.
use Rattle.std.specs.Prelude.{◌≡◌, ◌⊎◌, Bool, true, false, List, length, map}
use Rattle.osm_model.specs.VersionSet.{VersionSet}
use Rattle.osm_model.specs.Pairwise.{Pairwise}
use Rattle.osm_files.specs.declared.fault.Fault.{Fault}
use Rattle.osm_files.specs.declared.format.Format.{Format}
use Rattle.osm_files.specs.Fault.{memory_fault}
use Rattle.osm_files.specs.Input.{InputRest}
use Rattle.osm_files.specs.declared.output.Output.{Ghosts}
use Rattle.osm_files.specs.Output.{Change}
use Rattle.osm_files.specs.Change.{change_of}
use Rattle.osm_files.specs.Spell.{spell}
use Rattle.osm_files.specs.Sink.{CutShort}
use Rattle.osm_merge.specs.declared.merge.Counts.{Counts}
use Rattle.osm_merge.specs.Selected.{snapshot, visible}
use Rattle.osm_mirror.specs.declared.run.files_job.Order.TheVariants.{Any}
use Rattle.osm_mirror.specs.declared.run.input.ReadAs.TheVariants.{InOrder}
use Rattle.osm_mirror.specs.run.Job.{union_of, IsJobBy}
use Rattle.osm_mirror.specs.run.Given.{GivesFile, IsUnread}

-- A command over these inputs, with this change of the output: each input gave a file, and the one spelling of the
-- choice from the union of their sets was appended. No comparison is counted.
abbrev pub IsWritten : (VersionSet → VersionSet) → List InputRest → Format → Change → Counts → Type 0
IsWritten choice = IsJobBy GivesFile choice (λ inputs given compared. compared ≡ 0)

-- Why a command was refused: memory ran out before anything was written; or an input can't be read, and nothing was
-- written; or all inputs are files, and a front of the one spelling of the choice from the union of their sets was
-- appended. If the output failed, the number of bytes of this front is the fault's `place`.
abbrev pub IsNotWritten : {O : Type 0} → Ghosts O → (VersionSet → VersionSet) → List InputRest → Format → O → O → Fault
    → Type 0
IsNotWritten output choice inputs format before after fault =
    ((fault ≡ memory_fault) × (after ≡ before))
    ⊎ (IsUnread 0 (map (λ c. (InOrder Any, c)) inputs) fault × (after ≡ before))
    ⊎ ((held : List VersionSet) × Pairwise GivesFile inputs held
    × CutShort (length inputs) (change_of output before after) (spell format (choice (union_of held))) fault)

-- the versions left once changes are applied: with history all versions, else the newest one of each object, if it
-- isn't a deletion
abbrev pub apply_result : Bool → VersionSet → VersionSet
apply_result true set = set
apply_result false set = visible (snapshot set)
