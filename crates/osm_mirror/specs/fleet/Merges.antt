-- Merges of files that merges wrote: the ways of files from mirror to mirror. An own rule of this project.
use Rattle.std.specs.Prelude.{◌≡◌, ◌↔◌, ℕ, List, [], ◌∷◌, ◌++◌}
use Rattle.std.specs.List.{Contains}
use Rattle.osm_model.specs.VersionSet.{VersionSet}
use Rattle.osm_files.specs.declared.format.Format.{Format}
use Rattle.osm_files.specs.Held.{HoldsSorted}
use Rattle.osm_files.specs.Spell.{spell}
use Rattle.osm_mirror.specs.run.Job.{union_of}

-- The inputs of a merge, in sequence: each is a file, or the output of another merge of inputs of its own, in any
-- format.
pub data Inputs : Type 0 where
  none : Inputs
  file : List ℕ → Inputs → Inputs
  merged : Format → Inputs → Inputs → Inputs

-- the files that all these merges have as inputs in the end
abbrev pub files_of : Inputs → List (List ℕ)
files_of none = []
files_of (file bytes others) = bytes ∷ files_of others
files_of (merged format inputs others) = files_of inputs ++ files_of others

-- The inputs hold these sets, one for one, and each is a sorted file. A file that a merge wrote is the one spelling of
-- the union of the sets of that merge's inputs.
abbrev pub Hold : Inputs → List VersionSet → Type 0
Hold none [] = Unit {0}
Hold none (set ∷ held) = ⊥
Hold (file bytes others) [] = ⊥
Hold (file bytes others) (set ∷ held) = HoldsSorted bytes set × Hold others held
Hold (merged format inputs others) [] = ⊥
Hold (merged format inputs others) (set ∷ held) =
    ((below : List VersionSet) × Hold inputs below × HoldsSorted (spell format (union_of below)) set) × Hold others held

-- the two lists have the same files, in any order and with any repetitions
abbrev pub SameFiles : List (List ℕ) → List (List ℕ) → Type 0
SameFiles files others = (bytes : List ℕ) → Contains files bytes ↔ Contains others bytes

-- Merges of the same files write the same bytes: for any order of the files, any grouping of the merges, any formats,
-- and any number of repetitions.
abbrev pub MergesOfTheSameFiles : Type 0
MergesOfTheSameFiles =
    (inputs others : Inputs) (held sets : List VersionSet) → Hold inputs held → Hold others sets →
    SameFiles (files_of inputs) (files_of others)
    → (format : Format) → spell format (union_of held) ≡ spell format (union_of sets)
