use Rattle.std.proofs.Common.{rules, ◌≡◌, ◌∙◌, ◌*◌, ◌/◌, max, List, arith, ap, subst}
use Rattle.std.specs.List.Sorted.{IsPermutation}
use Rattle.std.proofs.lemmas.List.Sorted.{answers_always, ranks_by, sum_by-IsPermutation}
use Rattle.osm_model.specs.Order.{object_order_total}
use Rattle.osm_mirror.specs.declared.run.bounds.Found.{Found}
use Rattle.osm_mirror.specs.run.Bounds.{step_of, found_in_all}
use Rattle.osm_mirror.proofs.run_laws.BoundLaws.{lt}
use Rattle.osm_mirror.proofs.run_laws.ProbeLaws.{all_weight}
use Rattle.osm_mirror.proofs.run.bounds.find_objects.Goals as goal

pub returns-clause-ascend : goal.returns-clause-ascend
returns-clause-ascend g c =
    c.sort_unstable_by.ensures.sorted (λ x y. lt x.object y.object) (ranks_by object_order_total (λ f. f.object))
    (answers_always _ _ _ (λ f a r q k. search rules))

pub returns-clause-found : goal.returns-clause-found
returns-clause-found g c all have =
    let found : List Found = c.in_ok-found.found.items in
    let sorted : List Found = c.sort_unstable_by.new.self.items in
    let total = c.in_ok-total_size.ensures.total all have in
    let step : c.max-step.result ≡ step_of c.args.count all =
    c.max-step.ensures ∙ ap (λ t. max (t / (16 * c.args.count)) 1) total in
    let is : found ≡ found_in_all (step_of c.args.count all) all =
    c.in_ok-found.ensures.found all have ∙ ap (λ s. found_in_all s all) step in
    let moved : IsPermutation (found_in_all (step_of c.args.count all) all) sorted =
    subst (λ (xs : List Found). IsPermutation xs sorted) is c.sort_unstable_by.ensures.permutation in
    let same = sum_by-IsPermutation (λ f. f.weight) (found_in_all (step_of c.args.count all) all) sorted moved in
    let most = all_weight (step_of c.args.count all) all in (
      moved,
      omega (arith, same, most, total, c.in_ok-total_size.ensures.short),
    )

pub returns-clause-short : goal.returns-clause-short
returns-clause-short g c all have =
    let total = c.in_ok-total_size.ensures.total all have in
    omega (arith, total, c.in_ok-total_size.ensures.short)
