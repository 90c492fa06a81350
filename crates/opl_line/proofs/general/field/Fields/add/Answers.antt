use Rattle.std.proofs.Common.{◌<◌, get_or, length, rules}
use Rattle.std.proofs.lemmas.Str.{IsCharBoundary-after_ascii}
use Rattle.opl_line.proofs.general.field.Fields.add.Goals as goal

pub range_from-requires : goal.range_from-requires
range_from-requires c =
    let some : 0 < length c.args.field.now = search rules in
    let ascii : get_or c.args.field.now 0 0 < 128 = search rules in
    λ _. IsCharBoundary-after_ascii c.args.field.now 0 c.utf8.field some ascii
