use Rattle.std.proofs.Common.{eqb, ◌+◌}
use Rattle.std.proofs.lemmas.Bool.{OnTrue_from, eqb-true}
use Rattle.std.proofs.lemmas.Simd.{length-chunk}
use lib.Lanes.{chunk}
use Rattle.opl_line.proofs.AsciiLaws.{AsciiBetween, highs, none_high, ascii_there}
use Rattle.opl_line.proofs.bytes.utf8.are_ascii.Goals as goal

pub returns : goal.returns
returns c =
    let bytes = c.args.bytes.now in
    let from = c.args.from in
    let v = chunk from 64 bytes in
    let long = length-chunk from 64 bytes c.requires in
    OnTrue_from (eqb (highs v long) 0) (AsciiBetween bytes from (from + 64))
    (λ none. ascii_there bytes from c.requires (none_high v long (eqb-true _ _ none)))
