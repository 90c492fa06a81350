use Rattle.std.proofs.Common.{inr, refl, rules, ap, sym, ◌∙◌, Some}
use Rattle.std.proofs.lemmas.Option.{slice_get-get_or}
use Rattle.osm_mirror.proofs.run.job_input.regular_files.Goals as goal

pub returns-in-None-clause-refused : goal.returns-in-None-clause-refused
returns-in-None-clause-refused g c =
    let input = c.index-inputs-index.result in
    let there = slice_get-get_or c.args.inputs.now c.inputs.index input c.inputs-test.true ∙ ap Some (sym c.index-inputs-index.is) in
    rw c.failed.ensures (inr (refl, input, there, search rules))
