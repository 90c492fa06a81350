use Rattle.std.proofs.Common.{◌≡◌, ◌<◌, Some, None, false, eqb, get_or, take, position, rules, arith}
use Rattle.std.proofs.lemmas.Bool.Decides.{nat_tests}
use Rattle.std.proofs.lemmas.Str.{IsCharBoundary-after_ascii}
use Rattle.opl_line.proofs.RawLaws.{is_other, raw_end, percent_ends, other_ends, all_raw}
use Rattle.opl_line.proofs.general.text.split_accepted.Goals as goal

pub returns-in_default-clause-parts : goal.returns-in_default-clause-parts
returns-in_default-clause-parts c =
    let none : position is_other c.args.text.now ≡ None = search rules in
    all_raw c.args.text.now none

pub returns-then-bytes-end-ne37-clause-parts : goal.returns-then-bytes-end-ne37-clause-parts
returns-then-bytes-end-ne37-clause-parts c =
    let found : position is_other c.args.text.now ≡ Some c.in-Some.end = search rules in
    let apart : eqb (get_or c.args.text.now c.in-Some.end 0) 37 ≡ false = grind (arith, nat_tests) in
    other_ends c.args.text.now c.in-Some.end (raw_end c.args.text.now c.in-Some.end found) apart

pub range_from-requires : goal.range_from-requires
range_from-requires c =
    let found : position is_other c.args.text.now ≡ Some c.in-Some.end = search rules in
    let low : get_or c.args.text.now c.in-Some.end 0 < 128 = search rules in
    let there = IsCharBoundary-after_ascii c.args.text.now c.in-Some.end c.utf8.text
    (raw_end c.args.text.now c.in-Some.end found).within low in
    λ _. there

pub returns-clause-parts : goal.returns-clause-parts
returns-clause-parts c =
    let found : position is_other c.args.text.now ≡ Some c.in-Some.end = search rules in
    let here : get_or c.args.text.now c.in-Some.end 0 ≡ 37 = search rules in
    let end = raw_end c.args.text.now c.in-Some.end found in
    let split = percent_ends c.args.text.now c.in-Some.end end here in
    let front : c.range.result.now ≡ take c.in-Some.end c.args.text.now = search rules in
    (rw front end.raw, rw split (search rules))
