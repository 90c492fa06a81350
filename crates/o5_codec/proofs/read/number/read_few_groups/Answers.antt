use Rattle.std.proofs.Common.{arith}
use Rattle.o5_codec.proofs.ItemSteps.{some_by_test}
use Rattle.o5_codec.proofs.NumberSteps.{read_begin, read_more, read_sum}
use Rattle.o5_codec.proofs.read.number.read_few_groups.Goals as goal

pub returns-then-bytes-lt128-clause-value : goal.returns-then-bytes-lt128-clause-value
returns-then-bytes-lt128-clause-value c =
    let some = some_by_test c.args.bytes.now c.if-is_empty.ensures in
    read_sum c.args.bytes.now 0 _ _ c.from-one.result _ (read_begin c.args.bytes.now) c.from-one.ensures (omega arith) (omega (arith, some))
    (omega (arith, c.if-bytes-lt128.true)) (omega arith) (omega arith)

pub returns-then-bytes-lt128-2-clause-value : goal.returns-then-bytes-lt128-2-clause-value
returns-then-bytes-lt128-2-clause-value c =
    let r1 = read_more c.args.bytes.now 0 _ _ c.from-one.result (read_begin c.args.bytes.now) c.from-one.ensures (omega arith) (omega arith)
    (omega (arith, c.if-bytes-lt128.false)) (omega (arith, c.type_inv.bytes 0)) in
    read_sum c.args.bytes.now 1 _ _ c.from.result _ r1 c.from.ensures (omega arith) (omega arith) (omega (arith, c.if-bytes-lt128-2.true))
    (omega arith) (omega arith)

pub returns-then-bytes-lt128-3-clause-value : goal.returns-then-bytes-lt128-3-clause-value
returns-then-bytes-lt128-3-clause-value c =
    let r1 = read_more c.args.bytes.now 0 _ _ c.from-one.result (read_begin c.args.bytes.now) c.from-one.ensures (omega arith) (omega arith)
    (omega (arith, c.if-bytes-lt128.false)) (omega (arith, c.type_inv.bytes 0)) in
    let r2 = read_more c.args.bytes.now 1 _ _ c.from.result r1 c.from.ensures (omega arith) (omega arith)
    (omega (arith, c.if-bytes-lt128-2.false)) (omega (arith, c.type_inv.bytes 1)) in
    read_sum c.args.bytes.now 2 _ _ c.from-2.result _ r2 c.from-2.ensures (omega arith) (omega arith)
    (omega (arith, c.if-bytes-lt128-3.true)) (omega arith) (omega arith)

pub returns-then-bytes-lt128-4-clause-value : goal.returns-then-bytes-lt128-4-clause-value
returns-then-bytes-lt128-4-clause-value c =
    let r1 = read_more c.args.bytes.now 0 _ _ c.from-one.result (read_begin c.args.bytes.now) c.from-one.ensures (omega arith) (omega arith)
    (omega (arith, c.if-bytes-lt128.false)) (omega (arith, c.type_inv.bytes 0)) in
    let r2 = read_more c.args.bytes.now 1 _ _ c.from.result r1 c.from.ensures (omega arith) (omega arith)
    (omega (arith, c.if-bytes-lt128-2.false)) (omega (arith, c.type_inv.bytes 1)) in
    let r3 = read_more c.args.bytes.now 2 _ _ c.from-2.result r2 c.from-2.ensures (omega arith) (omega arith)
    (omega (arith, c.if-bytes-lt128-3.false)) (omega (arith, c.type_inv.bytes 2)) in
    read_sum c.args.bytes.now 3 _ _ c.from-3.result _ r3 c.from-3.ensures (omega arith) (omega arith)
    (omega (arith, c.if-bytes-lt128-4.true)) (omega arith) (omega arith)

pub returns-then-bytes-lt128-5-clause-value : goal.returns-then-bytes-lt128-5-clause-value
returns-then-bytes-lt128-5-clause-value c =
    let r1 = read_more c.args.bytes.now 0 _ _ c.from-one.result (read_begin c.args.bytes.now) c.from-one.ensures (omega arith) (omega arith)
    (omega (arith, c.if-bytes-lt128.false)) (omega (arith, c.type_inv.bytes 0)) in
    let r2 = read_more c.args.bytes.now 1 _ _ c.from.result r1 c.from.ensures (omega arith) (omega arith)
    (omega (arith, c.if-bytes-lt128-2.false)) (omega (arith, c.type_inv.bytes 1)) in
    let r3 = read_more c.args.bytes.now 2 _ _ c.from-2.result r2 c.from-2.ensures (omega arith) (omega arith)
    (omega (arith, c.if-bytes-lt128-3.false)) (omega (arith, c.type_inv.bytes 2)) in
    let r4 = read_more c.args.bytes.now 3 _ _ c.from-3.result r3 c.from-3.ensures (omega arith) (omega arith)
    (omega (arith, c.if-bytes-lt128-4.false)) (omega (arith, c.type_inv.bytes 3)) in
    read_sum c.args.bytes.now 4 _ _ c.from-4.result _ r4 c.from-4.ensures (omega arith) (omega arith)
    (omega (arith, c.if-bytes-lt128-5.true)) (omega arith) (omega arith)
