use Rattle.std.proofs.Common.{inr, sym, ◌∙◌}
use Rattle.std.proofs.lemmas.Bool.{false≢true}
use Rattle.std.proofs.lemmas.Result.{IfErr-at_err}
use Rattle.osm_mirror.proofs.run.files_job.try_turn.Goals as goal

pub returns-else-leaves_open-clause-refused : goal.returns-else-leaves_open-clause-refused
returns-else-leaves_open-clause-refused g c =
    IfErr-at_err _ c.in-Err.is c.in_ok-counts.ensures.decided
    (inr (λ left. false≢true (sym c.if-leaves_open.false ∙ c.leaves_open.ensures.1 left)))
