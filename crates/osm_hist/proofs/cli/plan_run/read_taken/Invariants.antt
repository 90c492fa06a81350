use Rattle.std.proofs.Common.{◌≡◌, length}
use Rattle.osm_hist.proofs.cli.plan_run.read_taken.Given as goal

abbrev pub invariant-steps : goal.invariant-steps
invariant-steps g l = length l.indices.items ≡ l.step-index
