use Rattle.std.proofs.Common.{arith, length-append}
use Rattle.o5_codec.specs.Encoder.{spelled_set}
use Rattle.osm_files.proofs.SpellSteps.{set_has_bytes}
use Rattle.osm_files.proofs.sink.UnitWriter.append.Goals as goal

pub returns-in-Ok-clause-some : goal.returns-in-Ok-clause-some
returns-in-Ok-clause-some c =
    let w = c.in-DataSets.encoder.written in
    let v = c.args.v.now in
    rw c.in-Ok.ensures.bytes (omega (arith, length-append c.args.bytes.now.items (spelled_set w v), set_has_bytes w v))
