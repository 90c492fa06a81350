use Rattle.std.proofs.Common.{sym, subst}
use Rattle.osm_files.specs.Source.{SourceSteps}
use Rattle.osm_mirror.specs.declared.run.source.InputSource.{InputSource}
use Rattle.osm_mirror.specs.declared.run.source.InputSource.TheVariants.{Streamed, Held, Sliced}
use Rattle.osm_mirror.specs.run.SourceRest.{SourceCanGive}
use Rattle.osm_mirror.proofs.run.source.InputSourceSource.next.Goals as goal

pub returns-in-Streamed-clause-step : goal.returns-in-Streamed-clause-step
returns-in-Streamed-clause-step g c =
    subst (λ (s : InputSource _). SourceSteps (SourceCanGive g.R.Input.can_give) s c.next.result (Streamed c.next.new.self))
    (sym c.in-Streamed.is) c.next.ensures.step

pub returns-in-Held-clause-step : goal.returns-in-Held-clause-step
returns-in-Held-clause-step g c =
    subst (λ (s : InputSource _). SourceSteps (SourceCanGive g.R.Input.can_give) s c.next-in-Held.result (Held c.next-in-Held.new.self))
    (sym c.in-Held.is) c.next-in-Held.ensures.step

pub returns-in-Sliced-clause-step : goal.returns-in-Sliced-clause-step
returns-in-Sliced-clause-step g c =
    subst (λ (s : InputSource _). SourceSteps (SourceCanGive g.R.Input.can_give) s c.next-in-Sliced.result
    (Sliced c.next-in-Sliced.new.self))
    (sym c.in-Sliced.is) c.next-in-Sliced.ensures.step
