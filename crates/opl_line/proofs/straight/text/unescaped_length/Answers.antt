use Rattle.std.proofs.Common.{◌≡◌, Some, None, not, position, rules}
use Rattle.osm_model.specs.Escape.{is_raw_byte}
use Rattle.opl_line.proofs.PlainLaws.{passing_before, passing_throughout}
use Rattle.opl_line.proofs.straight.text.unescaped_length.Goals as goal

pub returns-in-Some-clause-raw : goal.returns-in-Some-clause-raw
returns-in-Some-clause-raw c =
    let found : position (λ b. not (is_raw_byte b)) c.args.bytes.now ≡ Some c.in-Some.end = search rules in
    passing_before is_raw_byte c.args.bytes.now c.in-Some.end found

pub returns-in-None-clause-raw : goal.returns-in-None-clause-raw
returns-in-None-clause-raw c =
    let none : position (λ b. not (is_raw_byte b)) c.args.bytes.now ≡ None = search rules in
    passing_throughout is_raw_byte c.args.bytes.now none
