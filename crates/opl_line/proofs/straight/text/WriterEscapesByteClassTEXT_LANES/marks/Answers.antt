use Rattle.std.proofs.Common.{arith}
use Rattle.std.proofs.lemmas.Simd.{length-chunk}
use Rattle.std.specs.Simd.Lanes.{chunk}
use Rattle.opl_line.proofs.PlainLaws.{odd_marked}
use Rattle.opl_line.proofs.straight.text.WriterEscapesByteClassTEXT_LANES.marks.Goals as goal

pub returns : goal.returns
returns c = odd_marked 16 (omega arith) (chunk c.args.from 16 c.args.bytes.now) (length-chunk c.args.from 16 c.args.bytes.now c.requires)
