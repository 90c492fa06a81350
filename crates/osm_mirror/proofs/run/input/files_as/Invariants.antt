use Rattle.std.proofs.Common.{◌≡◌, map}
use Rattle.osm_mirror.specs.run.Given.{file_as}
use Rattle.osm_mirror.proofs.run.input.files_as.Given as goal

abbrev pub invariant-inputs : goal.invariant-inputs
invariant-inputs g l = l.files.items ≡ map (file_as l.read_as) l.yielded
