-- The output, the result and the counts of a merge of sources.
use Rattle.std.specs.Prelude.{◌≡◌, ◌⊎◌, ℕ, ◌+◌, ◌-◌, ◌*◌, ◌^◌, ◌<◌, ◌≤◌, not, if◌then◌else◌, List, [], ◌∷◌, length}
use Rattle.std.specs.Prelude.{take, Option, Some, None}
use Rattle.std.specs.List as list
use Rattle.std.specs.List.{filter}
use Rattle.std.specs.Ordering.{is_gt}
use Rattle.osm_model.specs.Data.{VersionData}
use Rattle.osm_model.specs.Order.{version_cmp}
use Rattle.osm_model.specs.VersionSet.{VersionSet}
use Rattle.osm_model.specs.Sets.{to_list, size}
use Rattle.osm_files.specs.declared.fault.Fault.{Fault}
use Rattle.osm_files.specs.declared.format.Format.{Format}
use Rattle.osm_files.specs.Output.{Change, Appends}
use Rattle.osm_files.specs.Spell.{open_file_bytes, spell}
use Rattle.osm_files.specs.Sink.{CutShort}
use Rattle.osm_merge.specs.declared.merge.Counts.{Counts}
use Rattle.osm_merge.specs.declared.selection.Selection.{Selection}
use Rattle.osm_merge.specs.declared.selection.Selection.TheVariants.{All}
use Rattle.osm_merge.specs.Clashes.{clash_count}
use Rattle.osm_merge.specs.Selected.{selection_of}
use Rattle.osm_merge.specs.Pass.{put_of, passing_versions, passes_all}
use Rattle.osm_merge.specs.ToCome.{VersionsToCome, rest_at}
use Rattle.osm_merge.specs.Union.{versions_of, union_given, capped_count}

-- The bounds of `compared`, for k sources that gave n versions: at most k - 1 + n * (depth + 1), for the least depth
-- with k up to 2^depth, and for each greater one; and at least `few`. For no source it is 0.
pub record IsBoundedFrom (few sources given compared : ℕ) : Type 0 where
  pub most : (depth : ℕ) → sources ≤ 2 ^ depth → compared ≤ (sources - 1) + given * (depth + 1)
  pub least : capped_count few ≤ compared

-- The bounds of `compared` if no version is excluded. It is at least n - 1, since each version but the first is
-- compared with the pending one, or a game has found it equal to a version taken before.
abbrev pub IsBounded : (sources given compared : ℕ) → Type 0
IsBounded sources given compared = IsBoundedFrom (given - 1) sources given compared

-- the lower bound of `compared`: n - 1, or 0 if versions may be excluded, since then perhaps none is compared with the
-- pending one
abbrev pub few_of : Selection → ℕ → ℕ
few_of selection given = if passes_all selection then given - 1 else 0

-- A merge of sources with the rests `all`, which changed the output by `change`: each source is whole, and the file of
-- the selection of the union was appended.
pub record IsMergedAs (selection : Selection) (all : List VersionsToCome) (format : Format) (change : Change)
    (counts : Counts) : Type 0 where
  pub whole : list.All (λ c. c.refusal ≡ None) all
  pub appended : Appends change (spell format (selection_of selection (union_given all)))
  pub read : counts.read ≡ capped_count (length (versions_of all))
  pub written : counts.written ≡ capped_count (size (selection_of selection (union_given all)))
  pub compared :
      let given = length (versions_of all) in
      IsBoundedFrom (few_of selection given) (length all) given counts.compared
  pub clashes : counts.clashes ≡ capped_count (clash_count (union_given all))

-- a merge that selects all versions: the file of the union was appended
abbrev pub MergesSources : List VersionsToCome → Format → Change → Counts → Type 0
MergesSources = IsMergedAs All

-- The output is the one file of a set, with as many versions as were counted.
pub record WritesSet (format : Format) (change : Change) (counts : Counts) : Type 0 where
  pub set : VersionSet
  pub appended : Appends change (spell format set)
  pub written : counts.written ≡ capped_count (size set)

-- the last version of a list
abbrev pub last_version : List VersionData → Option VersionData
last_version [] = None
last_version (v ∷ []) = Some v
last_version (v ∷ w ∷ ws) = last_version (w ∷ ws)

-- the versions that are not greater than the last one of a source; none if it gives none
abbrev pub versions_up_to : Option VersionData → List VersionData → List VersionData
versions_up_to None versions = []
versions_up_to (Some last) versions = filter (λ v. not (is_gt (version_cmp v last))) versions

-- the output of some versions before a fault: nothing for no versions, else their file up to the mark of its end
abbrev pub written_so_far : Format → List VersionData → List ℕ
written_so_far format [] = []
written_so_far format (v ∷ versions) = open_file_bytes format (v ∷ versions)

-- The output if a source is refused after its version `last`, and `versions` are those of the union: the file, up to
-- the mark of its end, of the versions that are put once the versions up to `last` are met. If the source gives no
-- version, the output is nothing.
abbrev pub written_before : Selection → Format → Option VersionData → List VersionData → List ℕ
written_before All format last versions = written_so_far format (versions_up_to last versions)
written_before selection format None versions = []
written_before selection format (Some last) versions =
    open_file_bytes format (put_of selection (passing_versions selection (versions_up_to (Some last) versions)))

-- The fault is that of a source. The bytes `written` were appended, which depend on that source's last version and on
-- the versions of the union.
pub record IsSourceFaultBy (written : Option VersionData → List VersionData → List ℕ) (all : List VersionsToCome)
    (change : Change) (fault : Fault) : Type 0 where
  pub index : ℕ
  pub within : index < length all
  pub refusal : (rest_at all index).refusal ≡ Some fault
  pub appended : Appends change (written (last_version (rest_at all index).list) (to_list (union_given all)))

-- Why a merge that is to write a set was refused. Either memory ran out, the output failed or the file of the set has
-- 2^62 bytes or more, and a front of that file was written. Or a source is refused, and the bytes `written` were.
abbrev pub IsRefusedBy : VersionSet → (Option VersionData → List VersionData → List ℕ) → List VersionsToCome → Format →
    ℕ → Change → Fault → Type 0
IsRefusedBy set written all format output change fault =
    CutShort output change (spell format set) fault ⊎ IsSourceFaultBy written all change fault

-- why a merge was refused that writes a selection
abbrev pub IsRefusedAs : Selection → List VersionsToCome → Format → ℕ → Change → Fault → Type 0
IsRefusedAs selection all format =
    IsRefusedBy (selection_of selection (union_given all)) (written_before selection format) all format

-- why a merge was refused that selects all versions: those up to the refused source's last version were written
abbrev pub RefusesSources : List VersionsToCome → Format → ℕ → Change → Fault → Type 0
RefusesSources all format =
    IsRefusedBy (union_given all) (λ last versions. written_so_far format (versions_up_to last versions)) all format

-- the output still has the earlier bytes, and perhaps more bytes after them
abbrev pub Grows : Change → Type 0
Grows change = (bytes : List ℕ) × Appends change bytes

-- After any refusal a front of the file of a set was appended.
pub record HasBegunIn (set : VersionSet) (format : Format) (change : Change) : Type 0 where
  pub count : ℕ
  pub within : count ≤ length (spell format set)
  pub appended : Appends change (take count (spell format set))

-- a front of the file of the union was appended
abbrev pub HasBegun : List VersionsToCome → Format → Change → Type 0
HasBegun all = HasBegunIn (union_given all)
