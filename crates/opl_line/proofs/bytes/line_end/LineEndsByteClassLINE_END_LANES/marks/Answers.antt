use Rattle.std.proofs.Common.{arith, refl}
use Rattle.std.proofs.lemmas.Simd.{length-chunk}
use Rattle.std.specs.Simd.Lanes.{chunk}
use Rattle.opl_line.specs.Delimiter.{is_line_end}
use Rattle.opl_line.proofs.LaneLaws.{two_marked}
use Rattle.opl_line.proofs.bytes.line_end.LineEndsByteClassLINE_END_LANES.marks.Goals as goal

pub returns : goal.returns
returns c = two_marked is_line_end 10 13 (λ _. refl) 64 (omega arith) (chunk c.args.from 64 c.args.bytes.now)
    (length-chunk c.args.from 64 c.args.bytes.now c.requires)
