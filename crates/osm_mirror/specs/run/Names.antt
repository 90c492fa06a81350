-- Lists of names of files, for `read_names`: an own rule of this project.
use Rattle.std.specs.Prelude.{◌≡◌, ◌⊎◌, ℕ, ◌+◌, ◌<◌, ◌==◌, Bool, true, false, List, [], ◌∷◌, ◌++◌, length, map}
use Rattle.std.specs.Borrow.{Bor}
use Rattle.std.specs.List.{slice_split, All}
use Rattle.osm_mirror.specs.declared.run.names.NamesFault.{NamesFault}
use Rattle.osm_mirror.specs.declared.run.names.NamesFault.TheVariants.{NoNames, EmptyName, NotEnded, Memory}

-- the texts between the NULs of a list, in their order; after a NUL at the end there is an empty one
abbrev pub between_nuls : List ℕ → List (List ℕ)
between_nuls list = slice_split (λ b. b == 0) list

-- texts as lists of their bytes
abbrev pub texts_of : List (Bor (List ℕ)) → List (List ℕ)
texts_of texts = map (λ text. text.now) texts

-- a list is ended by NUL if the last text between its NULs is empty, and there is another one
abbrev pub IsEnded : List (List ℕ) → Type 0
IsEnded texts = (names : List (List ℕ)) × (texts ≡ names ++ [] ∷ [])

-- The names of a list with these texts between its NULs: there is at least one, and none is empty. They are all texts
-- but the empty one after the last NUL. If that NUL is missing, which it may unless `must_end` is set, they are all.
pub record AreNames (must_end : Bool) (texts names : List (List ℕ)) : Type 0 where
  pub some : 0 < length names
  pub full : All (λ name. 0 < length name) names
  pub all : (texts ≡ names ++ [] ∷ []) ⊎ ((must_end ≡ false) × (texts ≡ names))

-- a list spells names: the names are the texts between its NULs, in their order
abbrev pub SpellsNames : Bool → List ℕ → List (List ℕ) → Type 0
SpellsNames must_end list names = AreNames must_end (between_nuls list) names

-- Why a list with these texts between its NULs is refused: it has no byte; or its last NUL is missing; or the name with
-- a number, from 1, is empty and all names before it aren't.
abbrev pub IsTextsFault : Bool → List (List ℕ) → NamesFault → Type 0
IsTextsFault must_end texts NoNames = texts ≡ [] ∷ []
IsTextsFault must_end texts NotEnded = (must_end ≡ true) × (IsEnded texts → ⊥)
IsTextsFault must_end texts (EmptyName number) = (before after : List (List ℕ))
    × (texts ≡ before ++ [] ∷ after) × (number ≡ length before + 1) × (0 < length after)
    × All (λ name. 0 < length name) before × (must_end ≡ true → IsEnded texts)
IsTextsFault must_end texts Memory = ⊥

abbrev pub IsNamesFault : Bool → List ℕ → NamesFault → Type 0
IsNamesFault must_end list fault = IsTextsFault must_end (between_nuls list) fault
