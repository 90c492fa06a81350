use Rattle.std.proofs.Common.{List, sym, ◌∙◌, subst, refl, option_to_list, IfSome, Ok, Some}
use Rattle.std.specs.Vec.Iter.{into_iter_items}
use Rattle.osm_model.specs.Data.{VersionData}
use Rattle.osm_files.specs.Position.{with_rest, units_or_failed}
use Rattle.osm_files.specs.Source.{Ascends, SourceStep, SourceSteps}
use Rattle.osm_files.specs.Groups.{FileSourceData, FileCanGive, FileSteps, still_with_ready, source_data}
use Rattle.osm_files.proofs.GroupLaws.{gives_ready}
use Rattle.osm_files.proofs.RiseLaws.{ready_rises, file_step}
use Rattle.osm_files.proofs.source.FileSourceSource.next.Goals as goal

pub invariant_of-self : goal.invariant_of-self
invariant_of-self g c = (
  λ d k.
      let s = c.self.inside in
      ready_rises s.units.input (units_or_failed (with_rest s.units d)) (option_to_list s.pending)
      (into_iter_items c.next.new.self) c.in-Some.version
      (subst (λ (xs : List VersionData). IfSome (still_with_ready s.units.input (units_or_failed (with_rest s.units d))
      (option_to_list s.pending) xs)
      Ascends) c.in-Some.ensures.items (c.self.invariant.0 d k)),
  λ failed. let none = sym c.in-Some.ensures.items ∙ c.self.invariant.1 failed in absurd cc,
)

pub returns-in-Some-clause-step : goal.returns-in-Some-clause-step
returns-in-Some-clause-step g c =
    let s = c.self.inside in
    let here = source_data s.units (option_to_list s.pending) (into_iter_items s.ready) in
    let next = source_data s.units (option_to_list s.pending) (into_iter_items c.next.new.self) in
    subst (λ (x : FileSourceData _). SourceSteps (FileCanGive g.R.Input.can_give) x (Ok (Some c.in-Some.version)) next) c.self.view_is
    (file_step g.R.Input.can_give here next (Ok (Some c.in-Some.version)) c.self.invariant.0 refl
    (λ d k. (
      d,
      k,
      subst (λ (xs : List VersionData). SourceStep (still_with_ready s.units.input (units_or_failed (with_rest s.units d))
          (option_to_list s.pending) xs)
          (Ok (Some c.in-Some.version)) (still_with_ready s.units.input (units_or_failed (with_rest s.units d)) (option_to_list s.pending)
          (into_iter_items c.next.new.self))) (sym c.in-Some.ensures.items)
          (gives_ready s.units.input (units_or_failed (with_rest s.units d)) (option_to_list s.pending)
          (into_iter_items c.next.new.self) c.in-Some.version),
    )))

pub returns-in-None-clause-step : goal.returns-in-None-clause-step
returns-in-None-clause-step g c =
    let s = c.self.inside in
    let here = source_data s.units (option_to_list s.pending) (into_iter_items s.ready) in
    let next = c.next_group.new.self in
    subst (λ (x : FileSourceData _). SourceSteps (FileCanGive g.R.Input.can_give) x c.next_group.result next) c.self.view_is
    (file_step g.R.Input.can_give here next c.next_group.result c.self.invariant.0 c.next_group.ensures.input
    (subst (λ (xs : List VersionData). FileSteps g.R.Input.can_give
    (source_data s.units (option_to_list s.pending) xs) c.next_group.result next) (sym c.in-None.ensures.items) c.next_group.ensures.step))
