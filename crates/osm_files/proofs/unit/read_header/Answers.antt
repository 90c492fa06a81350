use Rattle.std.proofs.Common.{◌∙◌, ◌≤◌, sym, inr, length, arith}
use Rattle.osm_files.proofs.UnitSteps.{bad_header}
use Rattle.osm_files.proofs.unit.read_header.Goals as goal

pub returns-then-not-is_header : goal.returns-then-not-is_header
returns-then-not-is_header c =
    let long : 7 ≤ length c.args.bytes.now = omega (arith, c.if-bytes-lt-HEADER_LENGTH.false) in
    inr (7, bad_header c.args.bytes.now long (sym c.is_header.ensures ∙ c.if-not-is_header.true))
