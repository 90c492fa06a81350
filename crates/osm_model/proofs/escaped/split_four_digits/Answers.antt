use Rattle.std.proofs.Common.{◌≡◌, ◌+◌, ◌*◌, ◌≤◌, ◌<◌, rules}
use Rattle.osm_model.proofs.EscapeLaws.{four_digits_back}
use Rattle.osm_model.proofs.escaped.split_four_digits.Goals as goal

pub returns-clause-text : goal.returns-clause-text
returns-clause-text c =
    let first = c.in_ok-first.first in
    let second = c.in_ok-second.second in
    let third = c.in_ok-third.third in
    let fourth = c.in_ok-fourth.fourth in
    let code : c.in_ok-from_u32.field-0 ≡ 0x1000 * first + 0x100 * second + 0x10 * third + fourth = search rules in
    let character = c.in_ok-from_u32.field-0 in
    let range : (0x600 ≤ character) × (character < 0x1_0000) = search rules in
    four_digits_back c.args.bytes.now first second third fourth c.in_ok-from_u32.field-0 c.in-37.len_at_least (search rules, search rules)
    c.in_ok-first.ensures c.in_ok-second.ensures c.in_ok-third.ensures c.in_ok-fourth.ensures code range.0 range.1
