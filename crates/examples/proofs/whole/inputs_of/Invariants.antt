use Rattle.std.proofs.Common.{◌≡◌, map, take}
use Rattle.examples.proofs.whole.inputs_of.Given as goal

abbrev pub invariant-loop-file : goal.invariant-loop-file
invariant-loop-file l = l.inputs.items ≡ map (λ f. f.now) (take l.file-index l.files)
