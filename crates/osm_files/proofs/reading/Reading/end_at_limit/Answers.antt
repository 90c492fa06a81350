use Rattle.std.proofs.Common.{◌≡◌, ◌∙◌, ◌+◌, ◌<◌, ◌^◌, refl, sym, inr, ap, subst, arith, [], Ok, length, take, length-take, append-nil}
use Rattle.osm_files.specs.Fault.{too_long_fault, fault_at}
use Rattle.osm_files.specs.Input.{whole_input, broken_input}
use Rattle.osm_files.specs.Position.{Position}
use Rattle.osm_files.specs.declared.reason.Reason.TheVariants.{ReadFault}
use Rattle.osm_files.proofs.ReaderLaws.{fill_ended, fill_stopped, fill_limit}
use Rattle.osm_files.proofs.reading.Reading.end_at_limit.Goals as goal

pub returns-in-Ok-eq0-clause-on : goal.returns-in-Ok-eq0-clause-on
returns-in-Ok-eq0-clause-on g c =
    let can = g.R.Input.can_give in
    let is = c.self.view_is in
    let none : c.read.result ≡ Ok 0 = rw c.in-Ok-eq0.field-0-test at c.in-Ok-eq0.is in
    fill_ended can c.args.self.now _ [] c.requires.unended refl (ap (λ v. v.input) is) (ap (λ v. v.offset) is) (ap (λ v. v.stage) is)
    (ap (λ v. v.end) is)
    (ap (λ v. v.failed) is) (ap (λ v. v.held) is ∙ sym (append-nil c.args.self.now.held)) refl
    (subst (λ (v : Position _). can v.rest (whole_input [])) is (c.read.ensures.end none (omega arith)))

pub returns-in-Ok-clause-stops : goal.returns-in-Ok-clause-stops
returns-in-Ok-clause-stops g c =
    let can = g.R.Input.can_give in
    let p = c.args.self.now in
    let is = c.self.view_is in
    let front = take c.in-Ok.field-0 c.read.new.buffer in
    let later = g.R.Input.one c.read.new.self in
    let before = c.in-Ok.ensures.bytes later (g.R.Input.possible c.read.new.self) in
    let some : 0 < length front = omega (
      arith,
      c.in-Ok.field-0-test,
      c.in-Ok.ensures.within,
      length-take c.in-Ok.field-0 c.read.new.buffer,
      c.read.auto.buffer,
    ) in
    let full : p.offset + length p.held + 1 ≡ 2 ^ 62 = omega (arith, c.requires.offset, c.requires.limit) in
    fill_limit can p later before.0 front c.refuse.result
    (subst (λ (v : Position _). can v.rest before.0) is before.1) before.2 some c.requires.unended full
    (c.refuse.ensures.fault ∙ ap (λ (v : Position _). too_long_fault v.input) is)

pub returns-in-Err-clause-stops : goal.returns-in-Err-clause-stops
returns-in-Err-clause-stops g c =
    let can = g.R.Input.can_give in
    let p = c.args.self.now in
    let is = c.self.view_is in
    fill_stopped can p (g.R.Input.one p.rest) ReadFault c.refuse-in-Err.result (g.R.Input.possible p.rest) (inr refl)
    (λ e. subst (λ (v : Position _). can v.rest (broken_input [])) is c.in-Err.ensures.broken) c.requires.unended
    (c.refuse-in-Err.ensures.fault ∙ (λ i. fault_at ((is i).input) (c.requires.offset i) ReadFault))
