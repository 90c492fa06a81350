use Rattle.std.proofs.Common.{◌≡◌, List, ◌++◌, take}
use Rattle.osm_model.specs.Pairwise.{Pairwise}
use Rattle.osm_files.specs.FileInput.{FileInputCanGive}
use Rattle.osm_mirror.specs.declared.run.input.InputFile.{InputFile}
use Rattle.osm_mirror.specs.run.FilesJob.{OpensRun}
use Rattle.osm_mirror.proofs.run.files_turn.push_runs.Given as goal

abbrev pub invariant-runs : goal.invariant-runs
invariant-runs g l = (added : List (InputFile _)) × (l.inputs.items ≡ l.fn.inputs.items ++ added)
    × Pairwise (OpensRun (FileInputCanGive g.F.ReadAt.fails g.F.ReadAt.bytes g.R.Input.can_give) (g.F.ReadAt.fails l.file)
    (g.F.ReadAt.bytes l.file) l.way.size l.way.read_as) added (take l.index l.way.runs.items)
