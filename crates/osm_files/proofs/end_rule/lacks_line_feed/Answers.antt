use Rattle.osm_files.proofs.EndRuleLaws.{look}
use Rattle.osm_files.proofs.end_rule.lacks_line_feed.Goals as goal

pub returns-clause-lacks : goal.returns-clause-lacks
returns-clause-lacks g c =
    look (g.F.ReadAt.bytes c.args.file.now) c.in_ok-size.field-0 c.saturating_sub-last.result c.in_ok-first_byte.first_byte
    c.in_ok-last_byte.last_byte c.lacks_by_ends.result c.lacks_by_ends.ensures c.saturating_sub-last.ensures
    c.in_ok-size.ensures.bytes c.in_ok-first_byte.ensures.byte c.in_ok-last_byte.ensures.byte
