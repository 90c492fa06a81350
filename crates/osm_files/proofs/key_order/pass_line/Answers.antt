use Rattle.std.proofs.Common.{arith}
use Rattle.osm_files.proofs.LongLineLaws.{comment_passed_in}
use Rattle.osm_files.proofs.key_order.pass_line.Goals as goal

pub returns-clause-passed : goal.returns-clause-passed
returns-clause-passed g c =
    comment_passed_in (g.F.ReadAt.bytes c.args.file.now) c.args.offset c.args.end c.in_ok-next.next c.clamp.result c.args.front.now
    c.requires.some c.requires.begun c.if-front-ne35.false c.in_ok-next.ensures.start
    (λ low high. omega (arith, c.clamp.ensures, low, high))
