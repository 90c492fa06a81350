use Rattle.std.proofs.Common.{◌∙◌, ap, arith, length, Ok}
use Rattle.osm_files.specs.Fault.{fault_at}
use Rattle.osm_files.specs.Position.{with_rest, units_or_failed}
use Rattle.osm_files.specs.Source.{SourceStep}
use Rattle.osm_files.proofs.ReadingLaws.{last_gives, last_further, last_refuses}
use Rattle.osm_files.proofs.ReaderLaws.{unread, refused_ever}
use Rattle.osm_files.proofs.reading.Reading.finish_last.Goals as goal

pub returns-in-Ok-clause-step : goal.returns-in-Ok-clause-step
returns-in-Ok-clause-step g c =
    let p = c.args.self.now in
    unread g.R.Input.can_give p c.pass.new.self (λ a b. SourceStep (units_or_failed a) (Ok c.pass.result) (units_or_failed b))
    (ap (λ v. v.rest) c.pass.ensures.gone)
    (λ d. last_gives (with_rest p d) c.requires.nothing c.requires.bound
    c.requires.uncut c.requires.ended c.requires.good c.in-Ok.version
    c.len-size.result
    c.pass.result (with_rest c.pass.new.self d) c.in-Ok.ensures
    (c.len-size.ensures ∙ ap (λ v. length v.held) c.self.view_is) c.pass.ensures.gave
    (ap (λ v. with_rest v d) c.pass.ensures.gone))

pub returns-in-Ok-clause-fewer : goal.returns-in-Ok-clause-fewer
returns-in-Ok-clause-fewer g c = λ some.
    let p = c.args.self.now in
    let further = last_further (with_rest p (g.R.Input.one p.rest)) c.requires.nothing c.requires.bound
    c.requires.uncut c.requires.ended c.in-Ok.version
    c.len-size.result c.pass.result c.in-Ok.ensures
    (c.len-size.ensures ∙ ap (λ v. length v.held) c.self.view_is) c.pass.ensures.gave some in
    omega (arith, further, c.requires.bound, ap (λ v. v.offset) c.pass.ensures.gone)

pub returns-in-Err-clause-step : goal.returns-in-Err-clause-step
returns-in-Err-clause-step g c =
    let p = c.args.self.now in
    let one = g.R.Input.one p.rest in
    let is = c.refuse-in-Err.ensures.fault ∙ ap (λ n. fault_at p.input n c.in-Err.reason) (ap (λ v. v.offset) c.refuse.view_is) in
    refused_ever g.R.Input.can_give p c.refuse-in-Err.new.self c.refuse-in-Err.result one (g.R.Input.possible p.rest) c.requires.good
    (ap (λ v. v.failed) c.refuse-in-Err.ensures.failed)
    (last_refuses (with_rest p one) c.requires.nothing c.requires.bound
    c.requires.uncut c.requires.ended c.in-Err.reason c.refuse-in-Err.result
    c.in-Err.ensures is)
