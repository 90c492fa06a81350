use Rattle.std.proofs.Common.{◌≡◌, ◌+◌, ◌-◌, ◌<◌, ◌^◌, List, ℕ, subst, arith, take, drop, length, length-drop}
use Rattle.std.proofs.lemmas.List.{take_all}
use Rattle.osm_files.specs.Output.{Writes}
use Rattle.osm_files.specs.Change.{change_of}
use Rattle.osm_files.proofs.Appending.{writes_on}
use Rattle.osm_files.proofs.write.write_all.Goals as goal

pub returns-in-Ok-2-clause-wrote : goal.returns-in-Ok-2-clause-wrote
returns-in-Ok-2-clause-wrote g c =
    let bytes = c.args.bytes.now in
    let count = c.in-Ok.count in
    let rest : take (length bytes - count) (drop count bytes) ≡ drop count bytes =
    take_all _ _ (omega (arith, length-drop count bytes)) in
    let short : c.args.written + length bytes < 2 ^ 62 = omega arith in
    let written = λ (xs : List ℕ).
    Writes c.args.number (change_of g.W.Output c.write.new.self c.write_rest.new.out) (c.args.written + count) xs c.write_rest.result in
    writes_on g.W.Output c.args.out.now c.write.new.self c.write_rest.new.out c.args.number c.args.written count bytes c.write_rest.result
    c.in-Ok.ensures.within short c.in-Ok.ensures.taken (subst written rest c.write_rest.ensures.wrote)
