-- The report of the check of a file: an own rule of this project.
use Rattle.std.specs.Prelude.{◌≡◌, ◌↔◌, ℕ, ◌+◌, Bool, false, IsTrue, List, [], ◌∷◌, length, Option, Some, None}
use Rattle.std.specs.Prelude.{if◌then◌else◌}
use Rattle.osm_model.specs.Data.{VersionData}
use Rattle.osm_model.specs.VersionSet.{VersionSet}
use Rattle.osm_model.specs.Sets.{size, to_list}
use Rattle.osm_files.specs.declared.format.Format.{Format}
use Rattle.osm_files.specs.Held.{HoldsSorted}
use Rattle.osm_files.specs.declared.end_rule.EndRule.{EndRule}
use Rattle.osm_files.specs.EndRule.{lacks_its_end, rule_of_file}
use Rattle.osm_files.specs.Input.{InputRest, whole_input}
use Rattle.osm_files.specs.Load.{format_of}
use Rattle.osm_merge.specs.ToCome as source
use Rattle.osm_merge.specs.Pass.{same_object}
use Rattle.osm_merge.specs.Selected.{snapshot}
use Rattle.osm_merge.specs.Union.{capped_count}
use Rattle.osm_mirror.specs.declared.run.check.CheckReport.{CheckReport}
use Rattle.osm_mirror.specs.declared.run.check.Checked.{Checked}
use Rattle.osm_mirror.specs.declared.run.check.Sizes.{Sizes}
use Rattle.osm_mirror.specs.declared.run.tally.Tally.{Tally}
use Rattle.osm_mirror.specs.run.Given.{GivesFile}
use Rattle.osm_mirror.specs.run.Tally.{Tallies}

-- the number of objects of which a set has versions: each has one newest version
abbrev pub object_count : VersionSet → ℕ
object_count set = size (snapshot set)

-- The input gives a file. The report has its format, the numbers of versions and of objects of its set, and whether it
-- is sorted.
pub record Reports (c : InputRest) (report : CheckReport) : Type 0 where
  pub held : VersionSet
  pub file : GivesFile c held
  pub format : report.format ≡ format_of c.bytes
  pub versions : report.versions ≡ capped_count (size held)
  pub objects : report.objects ≡ capped_count (object_count held)
  pub sorted : IsTrue report.sorted ↔ HoldsSorted c.bytes held

-- The input gives a file, and the tally is that of its set: each version counts once.
pub record TalliesFile (c : InputRest) (tally : Tally) : Type 0 where
  pub held : VersionSet
  pub file : GivesFile c held
  pub tallied : Tallies (to_list held) tally

-- a file is checked: its report, and the tally of its versions
pub record IsChecked (c : InputRest) (checked : Checked) : Type 0 where
  pub report : Reports c checked.report
  pub tally : TalliesFile c checked.tally

-- a regular file of these bytes is checked, which end as its rule says
abbrev pub IsCheckedFile : EndRule → Checked → List ℕ → Type 0
IsCheckedFile end checked all =
    IsChecked (whole_input all) checked × (lacks_its_end (rule_of_file end) all ≡ false)

-- the report on a file of this format and these sizes, with its tally
abbrev pub checked_as : Format → Bool → Sizes → Checked
checked_as format sorted sizes = record {
  report = record { format = format; versions = sizes.versions; objects = sizes.objects; sorted = sorted };
  tally = sizes.tally;
}

-- 1 if a version is of another object than the version before it, or is the first version; else 0
abbrev pub new_objects : Option VersionData → VersionData → ℕ
new_objects None v = 1
new_objects (Some last) v = if same_object last v then 0 else 1

-- the number of objects that begin in a list of versions, after the version `last`
abbrev pub objects_after : Option VersionData → List VersionData → ℕ
objects_after last [] = 0
objects_after last (v ∷ versions) = new_objects last v + objects_after (Some v) versions

-- a source ends without a refusal, and the sizes are those of the versions that it gives
pub record IsCounted (still : source.VersionsToCome) (sizes : Sizes) : Type 0 where
  pub whole : still.refusal ≡ None
  pub versions : sizes.versions ≡ capped_count (length still.list)
  pub objects : sizes.objects ≡ capped_count (objects_after None still.list)
  pub tally : Tallies still.list sizes.tally
