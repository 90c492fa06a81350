use Rattle.std.proofs.Common.{◌≡◌, ℕ, ◌<◌, [], length, get_or}
use Rattle.osm_mirror.specs.run.Names.{texts_of}
use Rattle.osm_mirror.proofs.run.names.first_empty.Given as goal

abbrev pub invariant-texts : goal.invariant-texts
invariant-texts l = (k : ℕ) → k < l.index → 0 < length (get_or (texts_of l.texts) k [])
