use Rattle.std.proofs.Common.{◌≡◌, Some, None, rules, position}
use Rattle.opl_line.specs.Delimiter.{is_end}
use Rattle.opl_line.proofs.CutLaws.{cut_split, split_at, split_nowhere, cut_before, cut_rest}
use Rattle.opl_line.proofs.bytes.cut.Delimiter.split.Goals as goal

pub range-requires-clause-end_boundary : goal.range-requires-clause-end_boundary
range-requires-clause-end_boundary c =
    let found : position (is_end c.args.self) c.args.text.now ≡ Some c.in-Some.end = search rules in
    cut_before c.args.self c.args.text.now c.in-Some.end found

pub range_from-requires : goal.range_from-requires
range_from-requires c =
    let found : position (is_end c.args.self) c.args.text.now ≡ Some c.in-Some.end = search rules in
    let there = cut_rest c.args.self c.args.text.now c.in-Some.end c.utf8.text found in
    λ _. there

pub returns-in-Some-clause-first : goal.returns-in-Some-clause-first
returns-in-Some-clause-first c =
    let found : position (is_end c.args.self) c.args.text.now ≡ Some c.in-Some.end = search rules in
    let split = (split_at (is_end c.args.self) c.args.text.now c.in-Some.end found).split in
    rw split (search rules)

pub returns-in-Some-clause-rest : goal.returns-in-Some-clause-rest
returns-in-Some-clause-rest c =
    let found : position (is_end c.args.self) c.args.text.now ≡ Some c.in-Some.end = search rules in
    let split = (split_at (is_end c.args.self) c.args.text.now c.in-Some.end found).split in
    rw split (search rules)

pub returns-in-Some-clause-pieces : goal.returns-in-Some-clause-pieces
returns-in-Some-clause-pieces c =
    let found : position (is_end c.args.self) c.args.text.now ≡ Some c.in-Some.end = search rules in
    let split = (split_at (is_end c.args.self) c.args.text.now c.in-Some.end found).split in
    rw (cut_split (is_end c.args.self) c.args.text.now, split) (search rules)

pub returns-in-None-clause-first : goal.returns-in-None-clause-first
returns-in-None-clause-first c =
    let found : position (is_end c.args.self) c.args.text.now ≡ None = search rules in
    rw (split_nowhere (is_end c.args.self) c.args.text.now found) (search rules)

pub returns-in-None-clause-rest : goal.returns-in-None-clause-rest
returns-in-None-clause-rest c =
    let found : position (is_end c.args.self) c.args.text.now ≡ None = search rules in
    rw (split_nowhere (is_end c.args.self) c.args.text.now found) (search rules)

pub returns-in-None-clause-pieces : goal.returns-in-None-clause-pieces
returns-in-None-clause-pieces c =
    let found : position (is_end c.args.self) c.args.text.now ≡ None = search rules in
    rw (cut_split (is_end c.args.self) c.args.text.now, split_nowhere (is_end c.args.self) c.args.text.now found) (search rules)
