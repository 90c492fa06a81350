use Rattle.std.proofs.Common.{◌∙◌, sym}
use Rattle.opl_line.specs.Delimiter.{is_line_end}
use Rattle.osm_files.proofs.SearchLaws.{none_after, some_after}
use Rattle.osm_files.proofs.unit.find_end_after.Goals as goal

pub returns-in-None : goal.returns-in-None
returns-in-None c = none_after is_line_end c.args.bytes.now c.args.searched c.requires.within c.requires.none
    (sym c.find_line_end.ensures ∙ c.in-None.is)

pub returns-in-Some : goal.returns-in-Some
returns-in-Some c = some_after is_line_end c.args.bytes.now c.args.searched c.requires.within c.requires.none c.in-Some.end
    (sym c.find_line_end.ensures ∙ c.in-Some.is)
