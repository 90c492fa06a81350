use Rattle.std.proofs.Common.{map}
use Rattle.osm_files.specs.FileInput.{FileInputCanGive}
use Rattle.osm_mirror.specs.run.FilesJob.{OpensFiles}
use Rattle.osm_mirror.proofs.run.files_turn.open_files.Given as goal

abbrev pub invariant-files : goal.invariant-files
invariant-files g l =
    (goal.iterator-files g).can_next l.file-iterator ×
    (goal.iterator-files g).is_finite l.file-iterator ×
    OpensFiles g.F.ReadAt.fails g.F.ReadAt.bytes g.R.Input.can_give
    (FileInputCanGive g.F.ReadAt.fails g.F.ReadAt.bytes g.R.Input.can_give)
    (map (λ p. p.0) l.yielded) (map (λ p. p.1.now) l.yielded) l.inputs.items
