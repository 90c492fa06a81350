use Rattle.std.proofs.Common.{◌≡◌, map, take, Some}
use Rattle.osm_mirror.proofs.run.job_input.regular_files.Given as goal

abbrev pub invariant-inputs : goal.invariant-inputs
invariant-inputs g l = map (λ input. input.regular) (take l.index l.inputs) ≡ map (λ file. Some file.now) l.files.items
