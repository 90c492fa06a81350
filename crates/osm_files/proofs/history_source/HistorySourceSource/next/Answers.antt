use Rattle.std.proofs.Common.{sym, refl, subst, Some, Ok}
use Rattle.std.specs.Vec.Iter.{into_iter_items}
use Rattle.osm_model.specs.Data.{VersionData}
use Rattle.osm_files.specs.declared.fault.Fault.{Fault}
use Rattle.osm_files.specs.Groups.{set_given}
use Rattle.osm_files.specs.Source.{SourceStep}
use Rattle.osm_files.specs.Stream.{SourceRest}
use Rattle.osm_files.proofs.GivenLaws.{given_rises, given_step, given_fewer}
use Rattle.osm_files.proofs.history_source.HistorySourceSource.next.Goals as goal

pub invariant_of-self : goal.invariant_of-self
invariant_of-self c = given_rises c.args.self.now (into_iter_items c.self.inside.versions) _ c.self.view_is c.self.invariant c.next.result
    c.next.ensures.items

pub returns-clause-step : goal.returns-clause-step
returns-clause-step c = λ later is.
    let before = set_given c.args.self.now in (
      before,
      refl,
      subst (λ (s : SourceRest VersionData Fault). SourceStep (Some before) (Ok c.next.result) (Some s)) (sym is) (
          given_step c.args.self.now (into_iter_items c.self.inside.versions)
          (into_iter_items c.next.new.self) c.self.view_is c.self.invariant c.next.result _ c.next.ensures.items
          c.self.inside.versions.rest.ok.0 c.next.ensures.variant),
    )

pub returns-clause-fewer : goal.returns-clause-fewer
returns-clause-fewer c = given_fewer c.args.self.now (into_iter_items c.self.inside.versions)
    (into_iter_items c.next.new.self) c.self.view_is c.self.invariant c.next.result c.next.ensures.items
