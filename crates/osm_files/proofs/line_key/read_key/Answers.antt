use Rattle.osm_files.proofs.LineKeyLaws.{whole_key}
use Rattle.osm_files.proofs.line_key.read_key.Goals as goal

pub returns-in-Ok-Some : goal.returns-in-Ok-Some
returns-in-Ok-Some c =
    whole_key c.args.line.now c.in-Ok-Some.version c.of-key.result (rw c.in-Ok-Some.field-0-is at c.in-Ok-Some.ensures.spelled)
    c.of-key.ensures
