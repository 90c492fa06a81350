use Rattle.std.proofs.Common.{◌≡◌, ◌++◌, take, ap, ◌∙◌, rules}
use Rattle.std.specs.Str.{chars}
use Rattle.std.specs.Char.{encode_utf8}
use Rattle.opl_line.proofs.StraightTextLaws.{append_run, append_one, shorter_by_one}
use Rattle.opl_line.proofs.straight.text.push_escapes.Goals as goal

pub returns-then-count-gt0-clause-read : goal.returns-then-count-gt0-clause-read
returns-then-count-gt0-clause-read c =
    let run = take c.decode_run-count.result.0 c.decode_run-count.new.buffer in
    let text : c.push_str.new.self ≡ c.args.text.now ++ chars c.from_utf8_unchecked-run.result.now = search rules in
    let same : c.from_utf8_unchecked-run.result.now ≡ run = search rules in
    append_run c.args.bytes.now c.args.text.now run c.decode_run-count.result.1.now c.push_str.new.self c.decode_run-count.ensures.run
    (text ∙ ap (λ t. c.args.text.now ++ chars t) same)

pub returns-clause-read : goal.returns-clause-read
returns-clause-read c =
    let text : c.push_str-2.new.self ≡ c.args.text.now ++ chars (encode_utf8 c.in_ok-character.character) = search rules in
    append_one c.args.bytes.now c.args.text.now c.in_ok-character.after.now c.push_str-2.new.self c.in_ok-character.character
    c.in_ok-character.ensures.text c.in_ok-character.ensures.valid text

pub returns-clause-shorter : goal.returns-clause-shorter
returns-clause-shorter c = shorter_by_one c.args.bytes.now c.in_ok-character.after.now c.in_ok-character.character
    c.in_ok-character.ensures.text
