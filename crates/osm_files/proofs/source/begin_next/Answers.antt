use Rattle.std.proofs.Common.{[], Ok, Err, None, Some}
use Rattle.osm_files.specs.Groups.{BeginsGroup}
use Rattle.osm_files.specs.Position.{units_or_failed}
use Rattle.osm_files.specs.Source.{SourceStep}
use Rattle.osm_files.specs.Stream.{Placed}
use Rattle.osm_files.proofs.GroupLaws.{first_begins, none_begins, refused_begins}
use Rattle.osm_files.proofs.ReaderLaws.{weaker_step}
use Rattle.osm_files.proofs.source.begin_next.Goals as goal

pub returns-in-Err-clause-begins : goal.returns-in-Err-clause-begins
returns-in-Err-clause-begins g c =
    let input = c.args.units.now.input in
    weaker_step g.R.Input.can_give c.args.units.now c.next.new.self
    (λ p q. SourceStep {A = Placed} (units_or_failed p) (Err c.in-Err.fault) (units_or_failed q))
    (λ p q. BeginsGroup input (units_or_failed p) [] (Err c.in-Err.fault) (units_or_failed q))
    (λ a b h. refused_begins input (units_or_failed a) (units_or_failed b) c.in-Err.fault h) c.in-Err.ensures.step

pub returns-in-Ok-None-clause-begins : goal.returns-in-Ok-None-clause-begins
returns-in-Ok-None-clause-begins g c =
    let input = c.args.units.now.input in
    weaker_step g.R.Input.can_give c.args.units.now c.next.new.self
    (λ p q. SourceStep {A = Placed} (units_or_failed p) (Ok None) (units_or_failed q))
    (λ p q. BeginsGroup input (units_or_failed p) [] (Ok None) (units_or_failed q))
    (λ a b h. none_begins input (units_or_failed a) (units_or_failed b) h) (rw c.in-Ok-None.field-0-is at c.in-Ok-None.ensures.step)

pub returns-in-Ok-Some-clause-begins : goal.returns-in-Ok-Some-clause-begins
returns-in-Ok-Some-clause-begins g c =
    let input = c.args.units.now.input in
    let u = c.in-Ok-Some.unit in
    weaker_step g.R.Input.can_give c.args.units.now c.next.new.self
    (λ p q. SourceStep {A = Placed} (units_or_failed p) (Ok (Some u)) (units_or_failed q))
    (λ p q. BeginsGroup input (units_or_failed p) [] (Ok (Some u.version)) (units_or_failed q))
    (λ a b h. first_begins input (units_or_failed a) (units_or_failed b) u h) (rw c.in-Ok-Some.field-0-is at c.in-Ok-Some.ensures.step)
