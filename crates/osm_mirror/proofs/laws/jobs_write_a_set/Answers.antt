use Rattle.osm_files.specs.Change.{change_of}
use Rattle.osm_merge.specs.Merged.{IsBounded}
use Rattle.osm_merge.specs.Selected.{selection_of}
use Rattle.osm_mirror.specs.run.Given.{GivesAs}
use Rattle.osm_mirror.specs.run.Merge.{GivesSorted}
use Rattle.osm_mirror.specs.run.Job.{IsBoundedFor}
use Rattle.osm_mirror.proofs.run_laws.KnownLaws.{writes_set}
use Rattle.osm_mirror.proofs.laws.jobs_write_a_set.Goals as goal

pub returns-clause-merges : goal.returns-clause-merges
returns-clause-merges g c = λ all format before after counts.
    writes_set GivesSorted (λ set. set) IsBounded all format (change_of g.W.Output before after) counts

pub returns-clause-jobs : goal.returns-clause-jobs
returns-clause-jobs g c = λ selection all format before after counts.
    writes_set GivesAs (selection_of selection) (IsBoundedFor selection) all format (change_of g.W.Output before after) counts
