use Rattle.std.proofs.Common.{◌≡◌, ◌<◌, ◌^◌, IfOk, rules, sym, ◌∙◌, subst, Result, ℕ}
use Rattle.std.specs.Option.{ok_or}
use Rattle.opl_line.specs.declared.reason.OplReason.{OplReason}
use Rattle.opl_line.specs.declared.reason.OplReason.TheVariants.{BadCoordinate}
use Rattle.opl_line.specs.Number.{value_of}
use Rattle.opl_line.proofs.NumberLaws.{short_numeral, short_below}
use Rattle.opl_line.proofs.number.read_short_numeral.Goals as goal

pub returns-clause-value : goal.returns-clause-value
returns-clause-value c =
    let known : c.ok_or.result ≡ ok_or (value_of c.args.digits.now) BadCoordinate = search rules in
    known ∙ short_numeral c.args.digits.now c.args.most c.if-digits-most.false

pub returns-clause-bound : goal.returns-clause-bound
returns-clause-bound c =
    let known : c.ok_or.result ≡ ok_or (value_of c.args.digits.now) BadCoordinate = search rules in
    let P : Result ℕ OplReason → Type 0 = λ r. IfOk r (λ n. n < 10 ^ c.args.most) in
    subst P (sym (known ∙ short_numeral c.args.digits.now c.args.most c.if-digits-most.false)) (short_below c.args.digits.now c.args.most)
