use Rattle.std.proofs.Common.{◌≡◌, ◌+◌, ◌<◌, ◌≤◌, true, get_or, length, rules, subst, arith}
use Rattle.std.proofs.lemmas.Simd.{run_in_chunk_stops}
use Rattle.opl_line.proofs.CutLaws.{NoneBelow, first_at, first_nowhere}
use Rattle.opl_line.proofs.ScanLaws.{none_before, none_of_all}
use Rattle.opl_line.proofs.bytes.scan.find.Goals as goal

pub returns-then-run : goal.returns-then-run
returns-then-run g c =
    let n = g.row.LANES in
    let p = g.C.ByteClass.has c.args.class in
    let room : c.lanes.seen + n ≤ length c.args.bytes.now = omega arith in
    let few : c.run-run.result < n = omega arith in
    first_at p c.args.bytes.now (c.lanes.seen + c.run-run.result) (omega arith)
    (none_before p n c.args.bytes.now c.lanes.seen c.run-run.result room c.run-run.ensures c.lanes.invariant.none)
    (run_in_chunk_stops p c.args.bytes.now c.lanes.seen n c.run-run.result 0 room c.run-run.ensures few)

pub lanes-preserved : goal.lanes-preserved
lanes-preserved g c =
    let n = g.row.LANES in
    let p = g.C.ByteClass.has c.args.class in
    let room : c.lanes.seen + n ≤ length c.args.bytes.now = omega arith in
    let whole : n ≤ c.run-run.result = omega arith in
    record {
      within = room;
      none =
          none_of_all p n c.args.bytes.now c.lanes.seen c.run-run.result room c.run-run.ensures c.lanes.invariant.none whole;
    }

pub returns-then-contains : goal.returns-then-contains
returns-then-contains g c =
    let p = g.C.ByteClass.has c.args.class in
    let here : p (get_or c.args.bytes.now c.rest.index 0) ≡ true = search rules in
    first_at p c.args.bytes.now c.rest.index (omega arith) c.rest.invariant here

pub returns : goal.returns
returns g c =
    let p = g.C.ByteClass.has c.args.class in
    let whole : c.rest.index ≡ length c.args.bytes.now = omega arith in
    first_nowhere p c.args.bytes.now (subst (NoneBelow p c.args.bytes.now) whole c.rest.invariant)
