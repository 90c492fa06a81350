use Rattle.std.proofs.Common.{rules, ◌≡◌, ◌∙◌, [], ◌∷◌, ◌++◌, ap, refl}
use Rattle.osm_mirror.proofs.run.shard_job.way_within.Goals as goal

pub returns-clause-way : goal.returns-clause-way
returns-clause-way g c =
    let run = c.in_ok-extent.extent.run in
    let nothing : c.new-runs.result.items ≡ [] = search rules in
    rw c.in-Some.is (
      c.in_ok-extent.extent,
      c.in_ok-extent.ensures.extent,
      record { runs = c.in_ok-push.ensures.items ∙ ap (λ xs. xs ++ run ∷ []) nothing; size = refl; read_as = refl },
    )
