-- Inputs that report their bytes beforehand, and laws that state for them what a job states of some bytes.
use Rattle.std.specs.Prelude.{◌≡◌, List}
use Rattle.std.specs.List as list
use Rattle.osm_model.specs.VersionSet.{VersionSet}
use Rattle.osm_files.specs.declared.fault.Fault.{Fault}
use Rattle.osm_files.specs.declared.format.Format.{Format}
use Rattle.osm_files.specs.declared.output.Output.{Ghosts}
use Rattle.osm_files.specs.Change.{change_of}
use Rattle.osm_files.specs.Input.{InputRest}
use Rattle.osm_merge.specs.declared.merge.Counts.{Counts}
use Rattle.osm_merge.specs.declared.selection.Selection.{Selection}
use Rattle.osm_merge.specs.Giving.{AllGive, SomeInputsGive}
use Rattle.osm_merge.specs.Merged.{WritesSet, HasBegun, HasBegunIn}
use Rattle.osm_merge.specs.Selected.{selection_of}
use Rattle.osm_merge.specs.ToCome.{VersionsToCome}
use Rattle.osm_merge.specs.Union.{union_given}
use Rattle.osm_mirror.specs.declared.run.input.InputFile.{InputFile}
use Rattle.osm_mirror.specs.declared.run.input.ReadAs.{ReadAs}
use Rattle.osm_mirror.specs.run.Given.{InputFileCanGive, GivesAs, sources}
use Rattle.osm_mirror.specs.run.Merge as merge
use Rattle.osm_mirror.specs.run.SelectedJob.{IsJob, RefusesJob}

-- an input reports these bytes: it can give nothing else
abbrev pub IsKnownToGive : {R C : Type 0} → (R → C → Type 0) → R → C → Type 0
IsKnownToGive {C = C} can input c = (given : C) → can input given → given ≡ c

-- each of these inputs reports its bytes
abbrev pub AllKnownToGive : {R C : Type 0} → (R → C → Type 0) → List R → List C → Type 0
AllKnownToGive can inputs all = AllGive (IsKnownToGive can) inputs all

-- if an input reports its bytes, they are a file that holds a set
abbrev pub IsFileIfKnown : {R C : Type 0} → (R → C → Type 0) → (C → VersionSet → Type 0) → R → Type 0
IsFileIfKnown {C = C} can gives input = (c : C) → IsKnownToGive can input c → (held : VersionSet) × gives c held

-- inputs that report their bytes can give nothing else
abbrev pub KnownIsGiven : {R C : Type 0} → (R → C → Type 0) → List R → Type 0
KnownIsGiven {C = C} can inputs = (known given : List C) → AllKnownToGive can inputs known → AllGive can inputs given →
    given ≡ known

-- a property of some bytes that the inputs can give is a property of the bytes that they report
abbrev pub HoldsOfKnown : {R C : Type 0} → (R → C → Type 0) → List R → (List C → Type 0) → Type 0
HoldsOfKnown {C = C} can inputs P = SomeInputsGive can inputs P → (all : List C) → AllKnownToGive can inputs all → P all

-- A job over inputs that may report their bytes. If it is done and all inputs report their bytes, `Done` holds of
-- these; if it is refused, `Refused` does. If it is done, each input that reports its bytes gives a set.
pub record IsJobOfKnown {R C : Type 0} (can : R → C → Type 0) (inputs : List R) (Gives : C → VersionSet → Type 0)
    (Done : List C → Counts → Type 0) (Refused : List C → Fault → Type 0) : Type 0 where
  pub done : (counts : Counts) → HoldsOfKnown can inputs (λ all. Done all counts)
  pub refused : (fault : Fault) → HoldsOfKnown can inputs (λ all. Refused all fault)
  pub files : (counts : Counts) → SomeInputsGive can inputs (λ all. Done all counts) →
      list.All (IsFileIfKnown can Gives) inputs

-- merges of inputs that may report their bytes
abbrev pub MergesOfKnown : {R O : Type 0} → (R → InputRest → Type 0) → Ghosts O → Type 0
MergesOfKnown {R = R} {O = O} can output = (inputs : List R) (format : Format) (before after : O) →
    IsJobOfKnown can inputs merge.GivesSorted
    (λ all. merge.IsMerged all format (change_of output before after))
    (λ all. merge.Refuses all format (change_of output before after))

-- jobs over inputs that may report their bytes
abbrev pub JobsOfKnown : {R O : Type 0} → (R → InputRest → Type 0) → Ghosts O → Type 0
JobsOfKnown {R = R} {O = O} can output = (selection : Selection) (inputs : List (InputFile R)) (format : Format)
    (before after : O) → IsJobOfKnown (InputFileCanGive can) inputs GivesAs
    (λ all. IsJob selection all format (change_of output before after))
    (λ all. RefusesJob output selection all format before after)

-- a merge wrote the file of a set
abbrev pub MergesWriteASet : {O : Type 0} → Ghosts O → Type 0
MergesWriteASet {O = O} output = (all : List InputRest) (format : Format) (before after : O) (counts : Counts) →
    merge.IsMerged all format (change_of output before after) counts →
    WritesSet format (change_of output before after) counts

-- a job wrote the file of a set
abbrev pub JobsWriteASet : {O : Type 0} → Ghosts O → Type 0
JobsWriteASet {O = O} output = (selection : Selection) (all : List (ReadAs × InputRest)) (format : Format)
    (before after : O) (counts : Counts) → IsJob selection all format (change_of output before after) counts →
    WritesSet format (change_of output before after) counts

-- a merge that was refused wrote a front of the file of the union of what its inputs give
abbrev pub RefusedMergesHaveBegun : {O : Type 0} → Ghosts O → Type 0
RefusedMergesHaveBegun {O = O} output = (all : List InputRest) (format : Format) (before after : O) (fault : Fault) →
    merge.Refuses all format (change_of output before after) fault →
    (given : List VersionsToCome) × merge.AreGivenBy 0 all given × HasBegun given format (change_of output before after)

-- a job that was refused wrote a front of the file of the selection
abbrev pub RefusedJobsHaveBegun : {O : Type 0} → Ghosts O → Type 0
RefusedJobsHaveBegun {O = O} output = (selection : Selection) (all : List (ReadAs × InputRest)) (format : Format)
    (before after : O) (fault : Fault) → RefusesJob output selection all format before after fault →
    HasBegunIn (selection_of selection (union_given (sources 0 all))) format (change_of output before after)
