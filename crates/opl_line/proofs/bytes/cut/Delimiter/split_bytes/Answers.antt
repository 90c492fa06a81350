use Rattle.std.proofs.Common.{◌≡◌, ◌+◌, Some, None, rules, ap, position}
use Rattle.std.proofs.lemmas.List.{take_rest}
use Rattle.opl_line.specs.Delimiter.{is_end}
use Rattle.opl_line.proofs.CutLaws.{split_at, split_nowhere}
use Rattle.opl_line.proofs.bytes.cut.Delimiter.split_bytes.Goals as goal

pub returns-in-Some-clause-first : goal.returns-in-Some-clause-first
returns-in-Some-clause-first c =
    let found : position (is_end c.args.self) c.args.bytes.now ≡ Some c.in-Some.end = search rules in
    let split = (split_at (is_end c.args.self) c.args.bytes.now c.in-Some.end found).split in
    rw split (search rules)

pub returns-in-Some-clause-rest : goal.returns-in-Some-clause-rest
returns-in-Some-clause-rest c =
    let found : position (is_end c.args.self) c.args.bytes.now ≡ Some c.in-Some.end = search rules in
    let split = (split_at (is_end c.args.self) c.args.bytes.now c.in-Some.end found).split in
    rw split (ap (λ rest. Some rest) (take_rest c.args.bytes.now (c.in-Some.end + 1)))

pub returns-in-None-clause-first : goal.returns-in-None-clause-first
returns-in-None-clause-first c =
    let found : position (is_end c.args.self) c.args.bytes.now ≡ None = search rules in
    rw (split_nowhere (is_end c.args.self) c.args.bytes.now found) (search rules)

pub returns-in-None-clause-rest : goal.returns-in-None-clause-rest
returns-in-None-clause-rest c =
    let found : position (is_end c.args.self) c.args.bytes.now ≡ None = search rules in
    rw (split_nowhere (is_end c.args.self) c.args.bytes.now found) (search rules)
