use Rattle.std.proofs.Common.{rules}
use Rattle.osm_model.proofs.EscapeLaws.{escape_char-raw, escape_char-other}
use Rattle.osm_model.proofs.put.put_escaped.Goals as goal

pub returns-then-is_raw-clause-written : goal.returns-then-is_raw-clause-written
returns-then-is_raw-clause-written c = rw (escape_char-raw c.args.c (search rules)) (search rules)

pub returns-else-is_raw-clause-written : goal.returns-else-is_raw-clause-written
returns-else-is_raw-clause-written c = rw (escape_char-other c.args.c (search rules)) (search rules)
