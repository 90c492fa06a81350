-- The set that a file holds, and whether the file is sorted.
use Rattle.std.specs.Prelude.{◌≡◌, ℕ, ◌<◌, ◌^◌, List, length}
use Rattle.std.specs.List.Sorted.{IsSorted}
use Rattle.osm_model.specs.Data.{VersionData}
use Rattle.osm_model.specs.Order.{version_cmp, key_cmp}
use Rattle.osm_model.specs.VersionSet.{VersionSet}
use Rattle.osm_model.specs.Sets.{from_list}
use Rattle.osm_files.specs.Opl.{OplFile}
use Rattle.osm_files.specs.O5.{O5File}
use Rattle.osm_files.specs.Units.{FileStateData, InOpl, BeforeHeader, InSegment, PastEnd, start_of}

-- the bytes are a file that spells these versions, by the grammar of this start
abbrev pub IsFileOf : FileStateData → List ℕ → List VersionData → Type 0
IsFileOf InOpl = OplFile
IsFileOf BeforeHeader = O5File
IsFileOf (InSegment s) = λ bytes versions. ⊥
IsFileOf PastEnd = λ bytes versions. ⊥

-- the bytes are a file of the grammar that their first byte determines, and spell these versions
abbrev pub IsFile : List ℕ → List VersionData → Type 0
IsFile bytes versions = IsFileOf (start_of bytes) bytes versions

-- The file is accepted and holds this set: it has fewer than 2^62 bytes and spells a list of versions whose members are
-- those of the set.
pub record Holds (bytes : List ℕ) (held : VersionSet) : Type 0 where
  pub short : length bytes < 2 ^ 62
  pub versions : List VersionData
  pub file : IsFile bytes versions
  pub members : held ≡ from_list {R = version_cmp} versions

-- The file is accepted and sorted, and holds this set: also, no version's key is below the key of the version before
-- it.
pub record HoldsSorted (bytes : List ℕ) (held : VersionSet) : Type 0 where
  pub short : length bytes < 2 ^ 62
  pub versions : List VersionData
  pub file : IsFile bytes versions
  pub sorted : IsSorted key_cmp versions
  pub members : held ≡ from_list {R = version_cmp} versions
