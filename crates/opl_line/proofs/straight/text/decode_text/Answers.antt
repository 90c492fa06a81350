use Rattle.std.proofs.Common.{length, length-append, ap, ◌∙◌, arith, rules}
use Rattle.opl_line.proofs.StraightTextLaws.{IsReadTo, read_raw, read_appended}
use Rattle.opl_line.proofs.straight.text.decode_text.Goals as goal

pub returns-then-is_empty-clause-text : goal.returns-then-is_empty-clause-text
returns-then-is_empty-clause-text c =
    let text = c.push_str.new.self in
    let parts = c.split_raw.result in
    (read_raw c.args.bytes.now c.escapes.text c.escapes.rest.now parts.0.now parts.1.now text c.escapes.invariant c.split_raw.ensures.raw
    c.split_raw.ensures.text (search rules)).spelled

pub returns-then-is_empty-clause-valid : goal.returns-then-is_empty-clause-valid
returns-then-is_empty-clause-valid c =
    let text = c.push_str.new.self in
    let parts = c.split_raw.result in
    (read_raw c.args.bytes.now c.escapes.text c.escapes.rest.now parts.0.now parts.1.now text c.escapes.invariant c.split_raw.ensures.raw
    c.split_raw.ensures.text (search rules)).valid

pub escapes-smaller : goal.escapes-smaller
escapes-smaller c =
    let parts = c.split_raw.result in
    let front = ap length c.split_raw.ensures.text ∙ length-append parts.0.now parts.1.now in
    omega (arith, front, c.in_ok-rest.ensures.shorter)

pub escapes-preserved : goal.escapes-preserved
escapes-preserved c =
    let text = c.push_str.new.self in
    let parts = c.split_raw.result in
    let raw : IsReadTo c.args.bytes.now text parts.1.now =
    read_raw c.args.bytes.now c.escapes.text c.escapes.rest.now parts.0.now parts.1.now text c.escapes.invariant c.split_raw.ensures.raw
    c.split_raw.ensures.text (search rules) in
    read_appended c.args.bytes.now text parts.1.now c.in_ok-rest.rest.now c.push_escapes.new.text raw
    c.in_ok-rest.ensures.read
