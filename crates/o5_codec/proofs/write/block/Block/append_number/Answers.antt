use Rattle.std.proofs.Common.{◌<◌, ◌+◌, ◌/◌, ◌%◌, ◌∙◌, sym, refl, arith, rules, length, slice_set}
use Rattle.o5_codec.specs.Block.{filled_bytes}
use Rattle.o5_codec.proofs.ShortestSteps.{write_begin, write_more, write_last, fill_more}
use Rattle.o5_codec.proofs.write.block.Block.append_number.Goals as goal

pub returns-then-number-lt128 : goal.returns-then-number-lt128
returns-then-number-lt128 c =
    let bytes = c.args.self.now.bytes in
    let end = c.args.self.now.end in
    let n = c.args.number in
    let inside : end < length bytes = search rules in
    fill_more bytes _ end (end + 1) n refl refl inside
    ∙ sym (write_last _ _ _ _ _ (write_begin (filled_bytes c.args.self.now) n) (omega arith) c.if-number-lt128.true)

pub returns-then-two-lt128 : goal.returns-then-two-lt128
returns-then-two-lt128 c =
    let bytes = c.args.self.now.bytes in
    let end = c.args.self.now.end in
    let n = c.args.number in
    let one = slice_set bytes end (n % 128 + 128) in
    let inside : end < length bytes = search rules in
    let inside_one : end + 1 < length one = search rules in
    let w1 = write_more _ _ _ _ _ (write_begin (filled_bytes c.args.self.now) n) (omega arith) (omega (arith, c.if-number-lt128.false)) in
    fill_more one _ (end + 1) (end + 2) (n / 128) (omega arith)
    (fill_more bytes _ end (end + 1) (n % 128 + 128) refl refl inside) inside_one
    ∙ sym (write_last _ _ _ _ _ w1 (omega arith) c.if-two-lt128.true)

pub returns-then-three-lt128 : goal.returns-then-three-lt128
returns-then-three-lt128 c =
    let bytes = c.args.self.now.bytes in
    let end = c.args.self.now.end in
    let n = c.args.number in
    let one = slice_set bytes end (n % 128 + 128) in
    let two = slice_set one (end + 1) (n / 128 % 128 + 128) in
    let inside : end < length bytes = search rules in
    let inside_one : end + 1 < length one = search rules in
    let inside_two : end + 2 < length two = search rules in
    let w1 = write_more _ _ _ _ _ (write_begin (filled_bytes c.args.self.now) n) (omega arith) (omega (arith, c.if-number-lt128.false)) in
    let w2 = write_more _ _ _ _ _ w1 (omega arith) (omega (arith, c.if-two-lt128.false)) in
    fill_more two _ (end + 2) (end + 3) (n / 128 / 128) (omega arith)
    (fill_more one _ (end + 1) (end + 2) (n / 128 % 128 + 128) (omega arith)
    (fill_more bytes _ end (end + 1) (n % 128 + 128) refl refl inside) inside_one) inside_two
    ∙ sym (write_last _ _ _ _ _ w2 (omega arith) c.if-three-lt128.true)

pub returns : goal.returns
returns c =
    let bytes = c.args.self.now.bytes in
    let end = c.args.self.now.end in
    let n = c.args.number in
    let one = slice_set bytes end (n % 128 + 128) in
    let two = slice_set one (end + 1) (n / 128 % 128 + 128) in
    let three = slice_set two (end + 2) (n / 128 / 128 % 128 + 128) in
    let inside : end < length bytes = search rules in
    let inside_one : end + 1 < length one = search rules in
    let inside_two : end + 2 < length two = search rules in
    let inside_three : end + 3 < length three = search rules in
    let w1 = write_more _ _ _ _ _ (write_begin (filled_bytes c.args.self.now) n) (omega arith) (omega (arith, c.if-number-lt128.false)) in
    let w2 = write_more _ _ _ _ _ w1 (omega arith) (omega (arith, c.if-two-lt128.false)) in
    let w3 = write_more _ _ _ _ _ w2 (omega arith) (omega (arith, c.if-three-lt128.false)) in
    fill_more three _ (end + 3) (end + 4) (n / 128 / 128 / 128) (omega arith)
    (fill_more two _ (end + 2) (end + 3) (n / 128 / 128 % 128 + 128) (omega arith)
    (fill_more one _ (end + 1) (end + 2) (n / 128 % 128 + 128) (omega arith)
    (fill_more bytes _ end (end + 1) (n % 128 + 128) refl refl inside) inside_one) inside_two) inside_three
    ∙ sym (write_last _ _ _ _ _ w3 (omega arith) (omega (arith, c.if-number.false)))
