use Rattle.std.proofs.Common.{◌≡◌, ◌∙◌, ◌+◌, ◌++◌, refl, ap, subst, [], length, Ok, Err}
use Rattle.osm_files.specs.Fault.{fault_at}
use Rattle.osm_files.specs.Input.{whole_input, broken_input, Gave}
use Rattle.osm_files.specs.EndRule.{test_after}
use Rattle.osm_files.specs.Position.{Position}
use Rattle.osm_files.specs.declared.reason.Reason.TheVariants.{ReadFault}
use Rattle.osm_files.proofs.ReaderLaws.{fill_ended, fill_stopped, fill_more, took}
use Rattle.osm_files.proofs.reading.Reading.fill.Goals as goal

pub returns-in-Ok-eq0-clause-on : goal.returns-in-Ok-eq0-clause-on
returns-in-Ok-eq0-clause-on g c =
    let can = g.R.Input.can_give in
    let is = c.self.view_is in
    let more = c.in-Ok-eq0.ensures.gave in
    let none : c.read_more.result ≡ Ok 0 = rw c.in-Ok-eq0.field-0-test at c.in-Ok-eq0.is in
    fill_ended can c.args.self.now _ more.0 c.requires refl (ap (λ v. v.input) is) (ap (λ v. v.offset) is) (ap (λ v. v.stage) is)
    (ap (λ v. v.end) is)
    (ap (λ v. v.failed) is) (more.2 ∙ ap (λ v. v.held ++ more.0) is) (more.3 ∙ c.in-Ok-eq0.field-0-test)
    (subst (λ (v : Position _). can v.rest (whole_input [])) is (c.read_more.ensures.end none))

pub returns-in-Err-clause-stops : goal.returns-in-Err-clause-stops
returns-in-Err-clause-stops g c =
    let can = g.R.Input.can_give in
    let is = c.self.view_is in
    let broken : c.in-Err.reason ≡ ReadFault → c.read_more.result ≡ Err ReadFault = λ e. rw e at c.in-Err.is in
    fill_stopped can c.args.self.now (g.R.Input.one c.args.self.now.rest) c.in-Err.reason c.refuse.result
    (g.R.Input.possible c.args.self.now.rest) c.in-Err.ensures.reason
    (λ e. subst (λ (v : Position _). can v.rest (broken_input [])) is (c.read_more.ensures.broken (broken e)))
    c.requires
    (c.refuse.ensures.fault ∙ ap (λ n. fault_at c.self.inside.input (c.self.inside.offset + n) c.in-Err.reason) c.len-held.ensures
    ∙ (λ i. fault_at ((is i).input) ((is i).offset + length ((is i).held)) c.in-Err.reason))

pub returns-in-Ok-clause-on : goal.returns-in-Ok-clause-on
returns-in-Ok-clause-on g c =
    let can = g.R.Input.can_give in
    let is = c.self.view_is in
    let more = c.in-Ok.ensures.gave in
    let given = took more.0 c.self.inside.read_buffer c.as_slice.result.now c.len-held.result (c.as_slice.ensures ∙ more.2)
    c.len-held.ensures in
    fill_more can c.args.self.now _ more.0 c.requires (ap (λ v. v.ended) is ∙ c.requires) (ap (λ v. v.input) is) (ap (λ v. v.offset) is)
    (ap (λ v. v.stage) is) (c.after-self-inside.ensures ∙ (λ i. test_after ((is i).end) (given i))) (ap (λ v. v.failed) is)
    (more.2 ∙ ap (λ v. v.held ++ more.0) is)
    (subst (λ (v : Position _). Gave can v.rest c.read_more.new.reader more.0) is more.1)
