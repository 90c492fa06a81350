-- The relation of a job over inputs: what it wrote and counted, and what it wrote if it was refused. An own rule of
-- this project.
use Rattle.std.specs.Prelude.{◌≡◌, ℕ, ◌+◌, List, [], ◌∷◌, length, fold, sum_by}
use Rattle.osm_model.specs.VersionSet.{VersionSet}
use Rattle.osm_model.specs.Sets.{size, empty, union}
use Rattle.osm_model.specs.Pairwise.{Pairwise}
use Rattle.osm_files.specs.declared.fault.Fault.{Fault}
use Rattle.osm_files.specs.declared.format.Format.{Format}
use Rattle.osm_files.specs.Output.{Change, Appends}
use Rattle.osm_files.specs.Spell.{spell}
use Rattle.osm_files.specs.Sink.{CutShort}
use Rattle.osm_merge.specs.declared.merge.Counts.{Counts}
use Rattle.osm_merge.specs.declared.selection.Selection.{Selection}
use Rattle.osm_merge.specs.Clashes.{clash_count}
use Rattle.osm_merge.specs.Merged as merged
use Rattle.osm_merge.specs.ToCome as source
use Rattle.osm_merge.specs.Union.{capped_count}

-- the union of sets
abbrev pub union_of : List VersionSet → VersionSet
union_of = fold union empty

-- the sources of the inputs, each by its number and input; the inputs are numbered from `number` on
abbrev pub sources_by : {I : Type 0} → (ℕ → I → source.VersionsToCome) → ℕ → List I → List source.VersionsToCome
sources_by one number [] = []
sources_by one number (input ∷ inputs) = one number input ∷ sources_by one (number + 1) inputs

-- the bounds of the count of comparisons, for a selection
abbrev pub IsBoundedFor : Selection → (inputs given compared : ℕ) → Type 0
IsBoundedFor selection inputs given compared =
    merged.IsBoundedFrom (merged.few_of selection given) inputs given compared

-- A job over these inputs, with this change of the output: each input gave a set, and the one spelling of the choice
-- from the union of these sets was appended. The clashes are those of the union, whatever is chosen. `Compared` is the
-- condition on the number of inputs, the number of versions in their sets, and the count of comparisons.
pub record IsJobBy {I : Type 0} (Gives : I → VersionSet → Type 0) (choice : VersionSet → VersionSet)
    (Compared : ℕ → ℕ → ℕ → Type 0) (inputs : List I) (format : Format) (change : Change) (counts : Counts) : Type 0
  where
    pub held : List VersionSet
    pub files : Pairwise Gives inputs held
    pub written : Appends change (spell format (choice (union_of held)))
    pub read_count : counts.read ≡ capped_count (sum_by size held)
    pub written_count : counts.written ≡ capped_count (size (choice (union_of held)))
    pub compared_count : Compared (length inputs) (sum_by size held) counts.compared
    pub clashes_count : counts.clashes ≡ capped_count (clash_count (union_of held))

-- If each input gives a set, a front of the one spelling of the choice from the union of these sets was appended. If
-- the output failed, the number of bytes of this front is the fault's `place`.
abbrev pub IsCutShort : {I : Type 0} → (I → VersionSet → Type 0) → (VersionSet → VersionSet) → List I → Format →
    Change → Fault → Type 0
IsCutShort Gives choice inputs format change fault =
    (held : List VersionSet) → Pairwise Gives inputs held
    → CutShort (length inputs) change (spell format (choice (union_of held))) fault

-- why a job was refused, and the bytes that it wrote
pub record RefusesJobBy {I : Type 0} (Why : Type 0) (Gives : I → VersionSet → Type 0)
    (choice : VersionSet → VersionSet) (inputs : List I) (format : Format) (change : Change) (fault : Fault) : Type 0
  where
    pub why : Why
    pub cut : IsCutShort Gives choice inputs format change fault
