-- The output of a merge of files, and the reasons why it is refused: an own rule of this project.
use Rattle.std.specs.Prelude.{◌≡◌, ℕ, ◌+◌, None, List, [], ◌∷◌, length}
use Rattle.osm_model.specs.VersionSet.{VersionSet}
use Rattle.osm_files.specs.declared.fault.Fault.{Fault}
use Rattle.osm_files.specs.declared.format.Format.{Format}
use Rattle.osm_files.specs.Input.{InputRest}
use Rattle.osm_files.specs.Output.{Change}
use Rattle.osm_files.specs.Held.{HoldsSorted}
use Rattle.osm_files.specs.FirstFault.{IsGivenBy}
use Rattle.osm_merge.specs.declared.merge.Counts.{Counts}
use Rattle.osm_merge.specs.ToCome as source
use Rattle.osm_merge.specs.Merged as merged
use Rattle.osm_mirror.specs.run.Job.{IsJobBy, RefusesJobBy}

-- the input gives a sorted file that holds this set, and then its end
pub record GivesSorted (input : InputRest) (held : VersionSet) : Type 0 where
  pub unbroken : input.failure ≡ None
  pub file : HoldsSorted input.bytes held

-- A merge of these inputs, in this format, with this change of the output: each input gave a sorted file, and the one
-- spelling of the union of their sets was appended.
abbrev pub IsMerged : List InputRest → Format → Change → Counts → Type 0
IsMerged = IsJobBy GivesSorted (λ set. set) merged.IsBounded

-- the sources of these inputs give this, one for one; the inputs are numbered from `number` on
abbrev pub AreGivenBy : ℕ → List InputRest → List source.VersionsToCome → Type 0
AreGivenBy number [] [] = Unit {0}
AreGivenBy number [] (still ∷ given) = ⊥
AreGivenBy number (input ∷ inputs) [] = ⊥
AreGivenBy number (input ∷ inputs) (still ∷ given) =
    IsGivenBy number input still × AreGivenBy (number + 1) inputs given

-- Why a merge was refused. Memory ran out, the output failed or the file would be too long, and a front of the file was
-- appended. Or an input was refused, and the versions before its refusal were written.
abbrev pub IsRefused : List InputRest → Format → Change → Fault → Type 0
IsRefused inputs format change fault = (given : List source.VersionsToCome) × AreGivenBy 0 inputs given
    × merged.RefusesSources given format (length inputs) change fault

-- Why a merge was refused, and the bytes that it wrote. If all inputs are sorted files, these are a front of the one
-- spelling of the union of their sets.
abbrev pub Refuses : List InputRest → Format → Change → Fault → Type 0
Refuses inputs format change fault =
    RefusesJobBy (IsRefused inputs format change fault) GivesSorted (λ set. set) inputs format change fault
