use Rattle.std.proofs.Common.{rules}
use Rattle.osm_mirror.proofs.run.request.read_moment.Goals as goal

pub returns : goal.returns
returns c = search rules
