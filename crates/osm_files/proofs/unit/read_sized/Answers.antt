use Rattle.std.proofs.Common.{◌∙◌, sym, arith}
use Rattle.osm_files.specs.Units.{InSegment}
use Rattle.osm_files.proofs.UnitSteps.{size_refused, content_refused}
use Rattle.osm_files.proofs.unit.read_sized.Goals as goal

pub returns-in-Err-clause-found : goal.returns-in-Err-clause-found
returns-in-Err-clause-found c =
    size_refused c.args.decoder.now.segment c.args.type_byte c.args.bytes.now (InSegment c.args.decoder.now.segment)
    (sym c.is_ended.ensures ∙ c.if-not-is_ended.false) c.in-Err.reason c.from.result c.in-Err.ensures.value c.from.ensures

pub returns-in-Err-read_content-clause-found : goal.returns-in-Err-read_content-clause-found
returns-in-Err-read_content-clause-found c =
    content_refused c.args.decoder.now.segment c.args.type_byte c.args.bytes.now (InSegment c.args.decoder.now.segment)
    (sym c.is_ended.ensures ∙ c.if-not-is_ended.false) c.in-Ok.read.0 c.in-Ok.read.1.now c.in-Err-read_content.reason
    c.in-Ok.ensures.value
    (omega (arith, c.if-size-rest.false)) c.in-Err-read_content.ensures
