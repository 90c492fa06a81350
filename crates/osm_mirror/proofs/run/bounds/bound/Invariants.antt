use Rattle.osm_mirror.proofs.run_laws.BoundSearch.{Search}
use Rattle.osm_mirror.proofs.run.bounds.bound.Given as goal

abbrev pub invariant-found : goal.invariant-found
invariant-found l = Search l.number l.count l.found l.index l.before l.below l.last
