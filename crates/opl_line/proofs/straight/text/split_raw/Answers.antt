use Rattle.std.proofs.Common.{take, drop, arith, length-drop, subst}
use Rattle.std.proofs.lemmas.List.{take_rest}
use Rattle.opl_line.specs.Straight.{AreRaw}
use Rattle.opl_line.proofs.StraightTextLaws.{raw_next, raw_utf8}
use Rattle.opl_line.proofs.straight.text.split_raw.Goals as goal

pub characters-preserved : goal.characters-preserved
characters-preserved c =
    let text = c.args.text.now in
    let width = c.unescaped_width-width in
    let end = c.characters.end in
    let more : AreRaw (take width.result (drop end text)) =
    subst (λ t. AreRaw (take width.result t)) (take_rest text end) width.ensures.raw in
    (omega (arith, length-drop end text, width.ensures.within), raw_next text end width.result c.characters.invariant.1 more)

pub from_utf8_unchecked-raw-requires : goal.from_utf8_unchecked-raw-requires
from_utf8_unchecked-raw-requires c = raw_utf8 (take c.characters.end c.args.text.now) c.characters.invariant.1
