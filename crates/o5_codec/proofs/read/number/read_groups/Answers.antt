use Rattle.std.proofs.Common.{◌≡◌, ◌*◌, ◌≤◌, ◌^◌, arith}
use Rattle.o5_codec.proofs.NumberSteps.{read_none, read_end, read_more, read_over, weight_fits, read_to_nine}
use Rattle.o5_codec.proofs.read.number.read_groups.Goals as goal

pub returns-then-i-bytes-clause-value : goal.returns-then-i-bytes-clause-value
returns-then-i-bytes-clause-value c = read_none _ _ _ _ c.loop-i.invariant (omega arith) c.if-i-bytes.true

pub returns-then-byte-lt128-clause-value : goal.returns-then-byte-lt128-clause-value
returns-then-byte-lt128-clause-value c = read_end _ _ _ _ _ c.loop-i.invariant c.from-byte.ensures (omega arith)
    (omega arith) c.if-byte-lt128.true
    (let h = weight_fits _ _ _ _ c.loop-i.invariant (omega arith) in
    let p : c.from-byte.result * c.loop-i.weight ≤ 127 * c.loop-i.weight = grind arith in omega arith)

pub overflow_mul-weight : goal.overflow_mul-weight
overflow_mul-weight c = let h = weight_fits _ _ _ _ c.loop-i.invariant (omega arith) in omega arith

pub loop-i-preserved : goal.loop-i-preserved
loop-i-preserved c = read_more _ _ _ _ _ c.loop-i.invariant c.from-byte.ensures c.loop-i-test.true (omega arith) c.if-byte-lt128.false
    (omega (arith, c.type_inv.bytes c.loop-i.i))

pub returns-then-bytes-eq9-clause-value : goal.returns-then-bytes-eq9-clause-value
returns-then-bytes-eq9-clause-value c = read_none _ _ _ _ c.loop-i.invariant (omega arith) (omega arith)

pub returns-then-last-gt1-clause-value : goal.returns-then-last-gt1-clause-value
returns-then-last-gt1-clause-value c =
    read_over _ _ _ _ _ (read_to_nine _ _ _ _ c.loop-i.invariant (omega arith)) c.from-last.ensures (omega arith)
    (omega arith) c.if-last-gt1.true

pub returns-clause-value : goal.returns-clause-value
returns-clause-value c =
    let r = read_to_nine _ _ _ _ c.loop-i.invariant (omega arith) in
    let p : c.loop-i.weight ≡ 128 ^ 9 = r.power in
    let q : c.from-last.result * c.loop-i.weight ≤ c.loop-i.weight = grind arith in
    read_end _ _ _ _ _ r c.from-last.ensures (omega arith) (omega arith) (omega arith) (omega (arith, r.below))
