use Rattle.std.proofs.Common.{◌≡◌, ℕ, ◌<◌, [], length, get_or, arith, below_more, rules}
use Rattle.std.proofs.lemmas.Bool.Decides.{nat_tests}
use Rattle.std.proofs.lemmas.List.{get_or-map}
use Rattle.osm_mirror.specs.run.Names.{texts_of}
use Rattle.osm_mirror.proofs.run.names.first_empty.Goals as goal

pub texts-preserved : goal.texts-preserved
texts-preserved c =
    let there : 0 < length (get_or c.args.texts.now c.texts.index (record { ref_ptr = (0, 0); now = [] })).now = grind (arith, nat_tests) in
    let same = get_or-map (λ text. text.now) c.args.texts.now c.texts.index (record { ref_ptr = (0, 0); now = [] }) []
    c.texts-test.true in
    below_more _ _ c.texts.invariant (rw same there)
