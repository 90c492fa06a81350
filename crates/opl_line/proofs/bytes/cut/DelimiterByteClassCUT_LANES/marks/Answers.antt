use Rattle.std.proofs.Common.{arith}
use Rattle.std.proofs.lemmas.Simd.{length-chunk}
use Rattle.std.specs.Simd.Lanes.{chunk}
use Rattle.opl_line.specs.Delimiter.{is_end}
use Rattle.opl_line.proofs.LaneLaws.{two_marked}
use Rattle.opl_line.proofs.bytes.cut.DelimiterByteClassCUT_LANES.marks.Goals as goal

pub returns : goal.returns
returns c =
    two_marked (is_end c.args.self) c.ends-one.result.0 c.ends-one.result.1 c.ends-one.ensures 16 (omega arith)
    (chunk c.args.from 16 c.args.bytes.now)
    (length-chunk c.args.from 16 c.args.bytes.now c.requires)
