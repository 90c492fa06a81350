use Rattle.std.proofs.Common.{◌≡◌, sym, rules}
use Rattle.osm_model.proofs.VersionLaws.{equal_of_same}
use Rattle.osm_model.proofs.version.VersionOrd.cmp.Goals as goal

pub returns-then-is_same : goal.returns-then-is_same
returns-then-is_same c =
    let same : c.args.self.now ≡ c.args.other.now = search rules in
    sym (equal_of_same c.args.self.now c.args.other.now same)
