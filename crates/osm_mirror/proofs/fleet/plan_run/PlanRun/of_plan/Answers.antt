use Rattle.std.proofs.Common.{◌≡◌, ◌∙◌, ℕ, List, [], ◌∷◌, length, map, sym, ap, subst}
use Rattle.std.proofs.lemmas.List.{length-map}
use Rattle.std.specs.Borrow.{Bor}
use Rattle.std.specs.List.{All}
use Rattle.std.proofs.lemmas.List.Elements.{All-nil, All-cons, All-head, All-tail}
use Rattle.osm_mirror.specs.declared.fleet.event.MirrorEvent.TheVariants.{Take, Pass, Restart}
use Rattle.osm_mirror.specs.fleet.Mirror.{new_mirror}
use Rattle.osm_mirror.specs.fleet.Event.{Step, IsWithin, event_of, events_of}
use Rattle.osm_mirror.proofs.fleet.plan_run.PlanRun.of_plan.Goals as goal

event_within : (count : ℕ) (step : Step) (file : Bor (List ℕ)) → IsWithin count step → IsWithin count (event_of step file)
event_within count (Take m name) file within = within
event_within count (Pass from to format) file within = within
event_within count (Restart m format) file within = within

-- events name the mirrors that their steps name
events_within : (count : ℕ) (steps : List Step) (files : List (Bor (List ℕ))) → All (IsWithin count) steps
    → All (IsWithin count) (events_of steps files)
events_within count [] files within = All-nil (IsWithin count)
events_within count (s ∷ steps) [] within = All-nil (IsWithin count)
events_within count (s ∷ steps) (f ∷ files) within =
    All-cons (IsWithin count) (event_of s f) (events_of steps files) (event_within count s f (All-head (IsWithin count) s steps within))
    (events_within count steps files (All-tail (IsWithin count) s steps within))

pub run-requires : goal.run-requires
run-requires c =
    let plan = c.args.plan.now in
    let count = length c.in_ok-fleet.fleet in
    let same : count ≡ length plan.mirrors.items =
    ap length c.in_ok-fleet.ensures ∙ length-map _ new_mirror ∙ ap length c.as_slice.ensures.value in
    let named = subst (λ n. All (IsWithin n) plan.steps.items) (sym same) c.requires.named.steps in
    let steps = subst (All (IsWithin count)) (sym c.as_slice-2.ensures.value) named in
    subst (All (IsWithin count)) (sym (c.as_slice-3.ensures.value ∙ c.in_ok-events.ensures))
    (events_within count c.as_slice-2.result.now c.args.files.now steps)
