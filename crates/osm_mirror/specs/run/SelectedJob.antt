-- The output of a job over files, each read in its way, and the reasons why it is refused: an own rule of this project.
use Rattle.std.specs.Prelude.{◌≡◌, ◌⊎◌, List, length}
use Rattle.std.specs.List as list
use Rattle.osm_files.specs.declared.fault.Fault.{Fault}
use Rattle.osm_files.specs.declared.format.Format.{Format}
use Rattle.osm_files.specs.Fault.{memory_fault}
use Rattle.osm_files.specs.Input.{InputRest}
use Rattle.osm_files.specs.declared.output.Output.{Ghosts}
use Rattle.osm_files.specs.Output.{Change}
use Rattle.osm_files.specs.Change.{change_of}
use Rattle.osm_merge.specs.declared.merge.Counts.{Counts}
use Rattle.osm_merge.specs.declared.selection.Selection.{Selection}
use Rattle.osm_merge.specs.Selected.{selection_of}
use Rattle.osm_merge.specs.Merged as merged
use Rattle.osm_mirror.specs.declared.run.input.ReadAs.{ReadAs}
use Rattle.osm_mirror.specs.run.Given.{GivesAs, IsFileAs, sources, IsRead, IsUnread}
use Rattle.osm_mirror.specs.run.Job.{IsBoundedFor, IsJobBy, RefusesJobBy}

-- A job over these inputs, with this change of the output: each input was read in its way, and the one spelling of the
-- selection of the union of their sets was appended.
abbrev pub IsJob : Selection → List (ReadAs × InputRest) → Format → Change → Counts → Type 0
IsJob selection = IsJobBy GivesAs (selection_of selection) (IsBoundedFor selection)

-- Why a job was refused. Memory ran out before anything was written; or an input of any order can't be read, and
-- nothing was written; or all inputs of any order were read, and then the merge was refused. If nothing was written,
-- the output is unchanged.
abbrev pub IsJobRefused : {O : Type 0} → Ghosts O → Selection → List (ReadAs × InputRest) → Format → O → O → Fault →
    Type 0
IsJobRefused output selection inputs format before after fault =
    ((fault ≡ memory_fault) × (after ≡ before))
    ⊎ (IsUnread 0 inputs fault × (after ≡ before))
    ⊎ (list.All IsRead inputs
    × merged.IsRefusedAs selection (sources 0 inputs) format (length inputs) (change_of output before after) fault)

-- Why a job was refused, and the bytes that it wrote. If all inputs are files that can be read in their ways, these are
-- a front of the one spelling of the selection of the union of their sets.
abbrev pub RefusesJob : {O : Type 0} → Ghosts O → Selection → List (ReadAs × InputRest) → Format → O → O → Fault →
    Type 0
RefusesJob output selection inputs format before after fault =
    RefusesJobBy (IsJobRefused output selection inputs format before after fault) IsFileAs (selection_of selection)
    inputs format (change_of output before after) fault
