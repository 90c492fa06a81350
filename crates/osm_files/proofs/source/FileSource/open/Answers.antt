use Rattle.std.proofs.Common.{◌≡◌, ◌∙◌, ap, sym, subst, IfSome, None, Some, Err}
use Rattle.std.specs.Vec.Iter.{into_iter_items}
use Rattle.osm_files.specs.EndRule.{new_test, by_rule}
use Rattle.osm_files.specs.Groups.{sorted_source}
use Rattle.osm_files.specs.Input.{InputRest}
use Rattle.osm_files.specs.Load.{format_of, StopsOpening}
use Rattle.osm_files.specs.Position.{Position, KnownPosition, with_rest, rest_of_bytes, units_or_failed}
use Rattle.osm_files.specs.Source.{SourceStep}
use Rattle.osm_files.specs.Stream.{Placed}
use Rattle.osm_files.proofs.EndedLaws.{rest_by_rule}
use Rattle.osm_files.proofs.RiseLaws.{source_opens_known, opens_refused}
use Rattle.osm_files.proofs.SourceSteps.{open_source}
use Rattle.osm_files.proofs.source.FileSource.open.Goals as goal

pub invariant_of-result : goal.invariant_of-result
invariant_of-result g c = open_source g.R.Input.can_give c.format.new.self None _ (c.into_iter-ready.ensures.rest ∙ c.new.ensures.items)

pub returns-in-Ok-clause-opened : goal.returns-in-Ok-clause-opened
returns-in-Ok-clause-opened g c = λ later h.
    let y = c.in-Ok.ensures.shown h.0 h.1 in
    let known = source_opens_known (new_test c.args.end) (with_rest c.new-units.result y.0) (with_rest c.format.new.self h.0)
    (into_iter_items c.into_iter-ready.result) c.args.input (Some y.0) (ap (λ v. with_rest v y.0) c.new-units.ensures) y.2.0
    (c.into_iter-ready.ensures.rest ∙ c.new.ensures.items) in
    let same : Some later ≡ Some (sorted_source c.args.input (by_rule c.args.end y.0)) =
    sym h.2 ∙ known ∙ ap (λ d. Some (sorted_source c.args.input d)) (rest_by_rule c.args.end y.0) in (
      y.0,
      subst (λ (v : Position _). g.R.Input.can_give v.rest y.0) c.new-units.ensures y.1,
      (
        subst (λ (v : Position _). IfSome (rest_of_bytes (with_rest v y.0)) (λ x. c.in-Ok.format ≡ format_of x.bytes))
            c.new-units.ensures y.2.1,
        cc,
      ),
    )

pub returns-in-Err-clause-refused : goal.returns-in-Err-clause-refused
returns-in-Err-clause-refused g c =
    let later = g.R.Input.one c.format.new.self.rest in
    let y = c.in-Err.ensures.refused later (g.R.Input.possible c.format.new.self.rest) in (
      y.0,
      subst (λ (v : Position _). g.R.Input.can_give v.rest y.0) c.new-units.ensures y.1,
      subst (λ (d : InputRest). StopsOpening c.args.input d c.in-Err.fault) (rest_by_rule c.args.end y.0)
          (opens_refused (new_test c.args.end) c.args.input (Some y.0) c.in-Err.fault (units_or_failed (with_rest c.format.new.self later))
          (subst (λ (p : KnownPosition). SourceStep {A = Placed} (units_or_failed p) (Err c.in-Err.fault)
          (units_or_failed (with_rest c.format.new.self later)))
          (ap (λ v. with_rest v y.0) c.new-units.ensures) y.2)),
    )
