use Rattle.std.proofs.Common.{rules, append_assoc}
use Rattle.osm_model.proofs.AppendLaws.{line-parts}
use Rattle.osm_model.proofs.version.Version.append_line.Goals as goal

pub returns-clause-appended : goal.returns-clause-appended
returns-clause-appended c = rw (line-parts c.args.self.now) (search (rules, append_assoc))
