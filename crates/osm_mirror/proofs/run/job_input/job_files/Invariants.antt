use Rattle.std.specs.Vec.Iter.{into_iter_items}
use Rattle.osm_mirror.proofs.run_laws.JobInputLaws.{SoFar}
use Rattle.osm_mirror.proofs.run.job_input.job_files.Given as goal

abbrev pub invariant-inputs : goal.invariant-inputs
invariant-inputs g l = SoFar l.inputs l.index l.fn.streams.items (into_iter_items l.streams) l.files.items
