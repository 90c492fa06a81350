-- Laws of the definitions: bytes spell at most one list of versions, and spell one exactly if they have no verdict.
use Rattle.std.specs.Prelude.{◌≡◌, ℕ, ◌<◌, ◌^◌, List, length, None, Some}
use Rattle.std.specs.List.Sorted.{IsSorted}
use Rattle.osm_model.specs.Data.{VersionData}
use Rattle.osm_model.specs.Order.{key_cmp}
use Rattle.osm_files.specs.declared.reason.Reason.TheVariants.{Unsorted}
use Rattle.osm_files.specs.Held.{IsFile}
use Rattle.osm_files.specs.Stream.{Verdict}
use Rattle.osm_files.specs.Verdict.{file_units, versions_of, verdict, verdict_sorted}

-- a file spells at most one list of versions
abbrev pub OneList : Type 0
OneList = (bytes : List ℕ) (versions others : List VersionData) → IsFile bytes versions → IsFile bytes others →
    versions ≡ others

-- the bytes of a file have no verdict, and the versions of their units are those that the file spells
abbrev pub FilesAreRead : Type 0
FilesAreRead = (bytes : List ℕ) (versions : List VersionData) → length bytes < 2 ^ 62 → IsFile bytes versions →
    (verdict bytes ≡ None) × (versions_of (file_units bytes).list ≡ versions)

-- bytes without a verdict are a file, shorter than 2^62 bytes, that spells the versions of its units
abbrev pub AcceptedWithoutVerdict : Type 0
AcceptedWithoutVerdict = (bytes : List ℕ) → verdict bytes ≡ None →
    (length bytes < 2 ^ 62) × IsFile bytes (versions_of (file_units bytes).list)

-- a sorted file has no verdict on its order
abbrev pub SortedFilesAreRead : Type 0
SortedFilesAreRead = (bytes : List ℕ) (versions : List VersionData) → length bytes < 2 ^ 62 → IsFile bytes versions →
    IsSorted key_cmp versions → verdict_sorted bytes ≡ None

-- bytes without a verdict on their order have none at all, and the versions of their units are sorted
abbrev pub SortedWithoutVerdict : Type 0
SortedWithoutVerdict = (bytes : List ℕ) → verdict_sorted bytes ≡ None →
    (verdict bytes ≡ None) × IsSorted key_cmp (versions_of (file_units bytes).list)

-- if the verdict on order isn't Unsorted, the verdict is the same
abbrev pub VerdictWithoutOrder : Type 0
VerdictWithoutOrder = (bytes : List ℕ) (v : Verdict) → verdict_sorted bytes ≡ Some v → (v.reason ≡ Unsorted → ⊥) →
    verdict bytes ≡ Some v
