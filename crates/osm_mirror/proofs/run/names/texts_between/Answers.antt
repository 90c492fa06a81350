use Rattle.std.proofs.Common.{lit<, ap, ◌∙◌}
use Rattle.std.proofs.lemmas.Iterator.Consumers.{map_from_collect}
use Rattle.std.proofs.lemmas.Iterator.Splits.{YieldsList-from_str_split}
use Rattle.osm_mirror.proofs.run.names.texts_between.Goals as goal

pub returns-clause-texts : goal.returns-clause-texts
returns-clause-texts c =
    let split = YieldsList-from_str_split 0 c.args.list.now
    (lit< tt) c.split.ensures.text c.split.ensures.has_more c.split.ensures.pattern in
    map_from_collect _ c.collect.ensures.ran split
