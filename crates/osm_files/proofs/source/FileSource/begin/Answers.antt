use Rattle.std.proofs.Common.{◌∙◌, ap, sym, subst, Ok, Some}
use Rattle.osm_files.specs.Groups.{FileSourceData, BeginsOn}
use Rattle.osm_files.proofs.SourceSteps.{open_source, begins_held}
use Rattle.osm_files.proofs.source.FileSource.begin.Goals as goal

pub invariant_of-self : goal.invariant_of-self
invariant_of-self g c = open_source g.R.Input.can_give c.self.inside.units c.take.new.self _
    (ap (λ v. v.ready) c.self.view_is ∙ c.requires.nothing)

pub invariant_of-self-in-None : goal.invariant_of-self-in-None
invariant_of-self-in-None g c = open_source g.R.Input.can_give c.begin_next.new.units c.take.new.self _
    (ap (λ v. v.ready) c.self.view_is ∙ c.requires.nothing)

pub returns-in-Some-clause-begins : goal.returns-in-Some-clause-begins
returns-in-Some-clause-begins g c =
    subst (λ (s : FileSourceData _). BeginsOn g.R.Input.can_give s.units s.group (Ok (Some c.in-Some.first)) c.self.inside.units)
    c.self.view_is
    (begins_held g.R.Input.can_give c.self.inside.units c.self.inside.pending c.in-Some.first (sym c.in-Some.ensures.value))
