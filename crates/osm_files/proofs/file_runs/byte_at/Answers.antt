use Rattle.std.proofs.Common.{arith, rules}
use Rattle.osm_files.proofs.ByteLaws.{none_at, one_at}
use Rattle.osm_files.proofs.file_runs.byte_at.Goals as goal

pub returns-in-Ok-eq0-clause-byte : goal.returns-in-Ok-eq0-clause-byte
returns-in-Ok-eq0-clause-byte g c =
    none_at (g.F.ReadAt.bytes c.args.file.now) c.args.offset (c.in-Ok-eq0.ensures.end (search rules) (omega arith))

pub returns-in-Ok-clause-byte : goal.returns-in-Ok-clause-byte
returns-in-Ok-clause-byte g c =
    one_at (g.F.ReadAt.bytes c.args.file.now) c.args.offset c.in-Ok.field-0 c.read_at.new.buffer (search rules) (omega arith)
    c.in-Ok.ensures.bytes
