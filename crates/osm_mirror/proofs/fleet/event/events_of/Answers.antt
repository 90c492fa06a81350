use Rattle.std.proofs.Common.{◌≡◌, ◌∙◌, ◌+◌, ◌<◌, ℕ, List, [], ◌∷◌, ◌++◌, length, take, get_or, refl, sym, ap, arith, length-take-le}
use Rattle.std.proofs.lemmas.List.{take_more}
use Rattle.std.specs.Borrow.{Bor}
use Rattle.osm_files.proofs.SinkLaws.{front_at}
use Rattle.osm_mirror.specs.fleet.Event.{Event, Step, event_of, events_of}
use Rattle.osm_mirror.proofs.fleet.event.events_of.Goals as goal

-- the event of one more step comes last
events_more : (steps : List Step) (files : List (Bor (List ℕ))) (step : Step) (file : Bor (List ℕ)) → length steps ≡ length files
    → events_of (steps ++ step ∷ []) (files ++ file ∷ []) ≡ events_of steps files ++ event_of step file ∷ []
events_more [] [] step file same = refl
events_more [] (f ∷ files) step file same = absurd (omega (arith, same))
events_more (s ∷ steps) [] step file same = absurd (omega (arith, same))
events_more (s ∷ steps) (f ∷ files) step file same =
    ap (λ events. event_of s f ∷ events) (events_more steps files step file (omega (arith, same)))

pub steps-preserved : goal.steps-preserved
steps-preserved c =
    let steps = c.args.steps.now in
    let files = c.args.files.now in
    let index = c.steps.index in
    let step = c.index-steps-index.result in
    let nothing : Bor (List ℕ) = record { ref_ptr = (0, 0); now = [] } in
    let file = get_or files index nothing in
    let within = c.steps-test.true in
    let in_files : index < length files = omega (arith, within, c.requires) in
    let same : length (take index steps) ≡ length (take index files) =
    length-take-le index steps (omega (arith, within)) ∙ sym (length-take-le index files (omega (arith, in_files))) in
    let step_at : take (index + 1) steps ≡ take index steps ++ step ∷ [] = front_at steps index step within c.index-steps-index.is in
    let file_at : take (index + 1) files ≡ take index files ++ file ∷ [] = take_more files index nothing in_files in
    c.in_ok-push.ensures.items ∙ ap (λ (es : List Event). es ++ c.event_of.result ∷ []) c.steps.invariant
    ∙ ap (λ e. events_of (take index steps) (take index files) ++ e ∷ []) c.event_of.ensures
    ∙ sym (events_more (take index steps) (take index files) step file same)
    ∙ sym (ap (λ (ss : List Step). events_of ss (take index files ++ file ∷ [])) step_at)
    ∙ sym (ap (λ (fs : List (Bor (List ℕ))). events_of (take (index + 1) steps) fs) file_at)
