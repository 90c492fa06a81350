-- The bytes that files give, each with the way in which its versions are read.
use Rattle.std.specs.Prelude.{◌≡◌, ◌⊎◌, ℕ, ◌+◌, List, [], ◌∷◌, Option, Some, None}
use Rattle.osm_model.specs.Data.{VersionData}
use Rattle.osm_model.specs.Order.{version_cmp}
use Rattle.osm_model.specs.VersionSet.{VersionSet}
use Rattle.osm_model.specs.Sets.{from_list}
use Rattle.osm_files.specs.declared.fault.Fault.{Fault}
use Rattle.osm_files.specs.Fault.{memory_fault}
use Rattle.osm_files.specs.declared.end_rule.EndRule.{EndRule}
use Rattle.osm_files.specs.declared.end_rule.EndRule.TheVariants as rule
use Rattle.osm_files.specs.EndRule.{by_rule}
use Rattle.osm_files.specs.Input.{InputRest, Explained, GivesOne}
use Rattle.osm_files.specs.Held.{Holds}
use Rattle.osm_files.specs.Groups.{sorted_source, set_given}
use Rattle.osm_files.specs.Position.{units_from, with_input}
use Rattle.osm_files.specs.Stream.{end_refused}
use Rattle.osm_files.specs.Verdict.{versions_of}
use Rattle.osm_merge.specs.ToCome as source
use Rattle.osm_mirror.specs.declared.run.files_job.Order.TheVariants.{Sorted, Any}
use Rattle.osm_mirror.specs.declared.run.input.InputFile.{InputFile}
use Rattle.osm_mirror.specs.declared.run.input.ReadAs.{ReadAs}
use Rattle.osm_mirror.specs.declared.run.input.ReadAs.TheVariants.{InOrder, Within}
use Rattle.osm_mirror.specs.declared.run.source.InputSource.{InputSource}
use Rattle.osm_mirror.specs.run.Merge.{GivesSorted}
use Rattle.osm_mirror.specs.run.Job.{sources_by}
use Rattle.osm_mirror.specs.run.SliceJob.{HasSlice, GivesSlice, given_slice}
use Rattle.osm_mirror.specs.run.SourceRest.{SourceCanGive}

-- the input gives a file that holds this set, in any order of its versions, and then its end
pub record GivesFile (input : InputRest) (held : VersionSet) : Type 0 where
  pub unbroken : input.failure ≡ None
  pub file : Holds input.bytes held

-- the input was read in its way, and gave this set
abbrev pub GivesAs : ReadAs × InputRest → VersionSet → Type 0
GivesAs (InOrder Sorted, c) = GivesSorted c
GivesAs (InOrder Any, c) = GivesFile c
GivesAs (Within span outside, c) = HasSlice span (outside, c)

-- The input is a file that can be read in its way, and gives this set. It differs from `GivesAs` for a file within a
-- span: the whole file is sorted, also above the span.
abbrev pub IsFileAs : ReadAs × InputRest → VersionSet → Type 0
IsFileAs (InOrder Sorted, c) = GivesSorted c
IsFileAs (InOrder Any, c) = GivesFile c
IsFileAs (Within span outside, c) = GivesSlice span (outside, c)

-- the reader of this file can give these bytes, which have to end as its rule says, and the file is to be read in this
-- way
abbrev pub InputFileCanGive : {R : Type 0} → (R → InputRest → Type 0) → InputFile R → ReadAs × InputRest → Type 0
InputFileCanGive can file input =
    (file.read_as ≡ input.0) × GivesOne (can file.reader) (λ given. input.1 ≡ by_rule file.end given)

-- something that the file can give, if `one` is what its reader can give
abbrev pub one_of_file : {R : Type 0} → (R → InputRest) → InputFile R → ReadAs × InputRest
one_of_file one file = (file.read_as, by_rule file.end (one file.reader))

-- a file that is read in this way, with this reader, and has to end as this rule says
abbrev pub file_by : {R : Type 0} → EndRule → ReadAs → R → InputFile R
file_by end how reader = record { reader = reader; read_as = how; end = end }

-- a file that may end after any byte
abbrev pub file_as : {R : Type 0} → ReadAs → R → InputFile R
file_as = file_by rule.Any

-- why the file of this input can't be read, whatever the order of its versions; none, if it can
abbrev pub refusal : ℕ → InputRest → Option Fault
refusal number c = (with_input number (units_from None 0 c)).refusal

-- the whole set of the versions that were read, or only the refusal of a file that can't be read
abbrev pub whole_or_refused : Option Fault → List VersionData → source.VersionsToCome
whole_or_refused None versions = set_given (from_list {R = version_cmp} versions)
whole_or_refused (Some fault) versions = end_refused fault

-- the source of an input that was read to its end first
unfoldable pub held_source : ℕ → InputRest → source.VersionsToCome
held_source number c = let units = with_input number (units_from None 0 c) in
    whole_or_refused units.refusal (versions_of units.list)

-- the source of an input: the key groups of a sorted file, or those within a span; or the set of a file of any order,
-- which was read to its end
abbrev pub source_of : ℕ → ReadAs × InputRest → source.VersionsToCome
source_of number (InOrder Sorted, c) = sorted_source number c
source_of number (InOrder Any, c) = held_source number c
source_of number (Within span outside, c) = given_slice span number (outside, c)

-- the sources of the inputs, which are numbered from `number` on
abbrev pub sources : ℕ → List (ReadAs × InputRest) → List source.VersionsToCome
sources = sources_by source_of

-- an input of any order gives a file; for any other there is no condition
abbrev pub IsRead : ReadAs × InputRest → Type 0
IsRead (InOrder Sorted, c) = Unit {0}
IsRead (InOrder Any, c) = (held : VersionSet) × GivesFile c held
IsRead (Within span outside, c) = Unit {0}

-- A source of this file, which is the input of this number, was opened. For all that the source can give, the file
-- could give bytes whose source gives the same. An input of any order is a file.
abbrev pub IsOpened : {R : Type 0} → (R → InputRest → Type 0) → ℕ → InputFile R → InputSource R → Type 0
IsOpened can number file source = Explained (InputFileCanGive can file) (SourceCanGive can source)
    (λ input still. (still ≡ source_of number input) × IsRead input)

-- the sources are those of these files, one for one; the files are numbered from `number` on
abbrev pub AreOpened : {R : Type 0} → (R → InputRest → Type 0) → ℕ → List (InputFile R) → List (InputSource R) → Type 0
AreOpened can number [] [] = Unit {0}
AreOpened can number [] (s ∷ opened) = ⊥
AreOpened can number (file ∷ files) [] = ⊥
AreOpened can number (file ∷ files) (s ∷ opened) = IsOpened can number file s × AreOpened can (number + 1) files opened

-- an input of any order can't be read for this reason
abbrev pub CannotBeRead : ℕ → ReadAs × InputRest → Fault → Type 0
CannotBeRead number (InOrder Sorted, c) fault = ⊥
CannotBeRead number (InOrder Any, c) fault = refusal number c ≡ Some fault
CannotBeRead number (Within span outside, c) fault = ⊥

-- one of the inputs of any order can't be read for this reason; the inputs are numbered from `number` on
abbrev pub IsUnread : ℕ → List (ReadAs × InputRest) → Fault → Type 0
IsUnread number [] fault = ⊥
IsUnread number (input ∷ inputs) fault = CannotBeRead number input fault ⊎ IsUnread (number + 1) inputs fault

-- why no source was opened of some inputs: memory ran out, or an input of any order can't be read
abbrev pub IsUnopened : ℕ → List (ReadAs × InputRest) → Fault → Type 0
IsUnopened number inputs fault = (fault ≡ memory_fault) ⊎ IsUnread number inputs fault
