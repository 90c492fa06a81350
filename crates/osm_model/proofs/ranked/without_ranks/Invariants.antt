use Rattle.std.proofs.Common.{◌≡◌}
use Rattle.osm_model.proofs.ranked.without_ranks.Given as goal

abbrev pub invariant-loop-version : goal.invariant-loop-version
invariant-loop-version l = l.versions.items ≡ l.yielded
