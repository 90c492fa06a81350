use Rattle.std.proofs.Common.{◌∙◌, sym}
use Rattle.osm_files.proofs.UnitSteps.{no_line, line_read, line_refused}
use Rattle.osm_files.proofs.unit.read_line_unit.Goals as goal

pub returns-in_default : goal.returns-in_default
returns-in_default c = no_line c.args.bytes.now (sym c.find_end_after.ensures ∙ c.in_default.is)

pub returns-in-Ok : goal.returns-in-Ok
returns-in-Ok c = line_read c.args.bytes.now c.in-Some.end
    (sym c.find_end_after.ensures ∙ c.in-Some.is) c.in-Ok.version c.in-Ok.ensures.reading

pub returns-in-Err : goal.returns-in-Err
returns-in-Err c = line_refused c.args.bytes.now c.in-Some.end
    (sym c.find_end_after.ensures ∙ c.in-Some.is) c.in-Err.reason c.from.result c.from.ensures c.in-Err.ensures.reading
