use Rattle.std.proofs.lemmas.Simd.{length-chunk}
use Rattle.std.specs.Simd.Lanes.{chunk}
use Rattle.opl_line.proofs.ScanLaws.{no_mark, lowest_mark}
use Rattle.opl_line.proofs.bytes.scan.run.Goals as goal

pub returns-then-marks-eq0 : goal.returns-then-marks-eq0
returns-then-marks-eq0 g c =
    let n = g.row.LANES in
    let v = chunk c.args.from n c.args.bytes.now in
    let long = length-chunk c.args.from n c.args.bytes.now c.requires.within in
    no_mark (g.C.ByteClass.has c.args.class) n v long c.marks-marks.result c.marks-marks.ensures c.if-marks-eq0.true

pub returns-else-marks-eq0 : goal.returns-else-marks-eq0
returns-else-marks-eq0 g c =
    let n = g.row.LANES in
    let v = chunk c.args.from n c.args.bytes.now in
    let long = length-chunk c.args.from n c.args.bytes.now c.requires.within in
    lowest_mark (g.C.ByteClass.has c.args.class) n v long c.requires.few c.marks-marks.result c.marks-marks.ensures c.if-marks-eq0.false
