use Rattle.std.proofs.Common.{◌-◌, length}
use Rattle.osm_model.proofs.RawLaws.{IsPlainTo}
use Rattle.osm_model.proofs.escape.raw_length.Given as goal

abbrev pub invariant-characters : goal.invariant-characters
invariant-characters l = IsPlainTo l.text l.length

abbrev pub decreases-characters : goal.decreases-characters
decreases-characters l = length l.text - l.length
