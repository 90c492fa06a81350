use Rattle.osm_mirror.proofs.run_laws.KnownLaws.{merges_begun, jobs_begun}
use Rattle.osm_mirror.proofs.laws.refused_jobs_have_begun.Goals as goal

pub returns-clause-merges : goal.returns-clause-merges
returns-clause-merges g c = merges_begun g.W.Output

pub returns-clause-jobs : goal.returns-clause-jobs
returns-clause-jobs g c = jobs_begun g.W.Output
