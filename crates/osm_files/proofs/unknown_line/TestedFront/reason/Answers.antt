use Rattle.std.proofs.Common.{subst}
use Rattle.osm_files.specs.UnknownLine.{IsTested}
use Rattle.osm_files.proofs.UnknownLineLaws.{reason_utf8, reason_faulty, reason_never}
use Rattle.osm_files.proofs.unknown_line.TestedFront.reason.Goals as goal

pub returns-in-Ok : goal.returns-in-Ok
returns-in-Ok c front before =
    reason_utf8 front c.args.rest.now (subst (λ t. IsTested t front) c.in-Utf8.is before) c.in-Ok.ensures.cases.1

pub returns-in-Err : goal.returns-in-Err
returns-in-Err c front before =
    reason_faulty front c.args.rest.now (subst (λ t. IsTested t front) c.in-Utf8.is before) c.in-Err.ensures.cases.0

pub returns-in-NotUtf8 : goal.returns-in-NotUtf8
returns-in-NotUtf8 c front before = reason_never front c.args.rest.now (subst (λ t. IsTested t front) c.in-NotUtf8.is before)
