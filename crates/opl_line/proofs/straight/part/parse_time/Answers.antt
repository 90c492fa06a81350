use Rattle.std.proofs.Common.{◌≡◌, ◌++◌, take, Ok, rules, sym, ap, ◌∙◌}
use Rattle.std.proofs.lemmas.List.{take-append-drop, take_rest}
use Rattle.opl_line.specs.Time.{reading_time}
use Rattle.opl_line.proofs.StraightTimeLaws.{time_canonical, no_time}
use Rattle.opl_line.proofs.straight.part.parse_time.Goals as goal

pub returns-then-text-lt-TIME_LENGTH-clause-text : goal.returns-then-text-lt-TIME_LENGTH-clause-text
returns-then-text-lt-TIME_LENGTH-clause-text c = sym (ap (λ t. t ++ c.args.text.now) no_time)

pub returns-in-Err-clause-text : goal.returns-in-Err-clause-text
returns-in-Err-clause-text c = sym (ap (λ t. t ++ c.args.text.now) no_time)

pub returns-in-Ok-clause-text : goal.returns-in-Ok-clause-text
returns-in-Ok-clause-text c =
    let text = c.args.text.now in
    let read : reading_time (take 20 text) ≡ Ok c.from.result = search rules in
    sym (take-append-drop 20 text) ∙ (λ i. (time_canonical (take 20 text) c.from.result read).spelled i ++ sym (take_rest text 20) i)

pub returns-in-Ok-clause-range : goal.returns-in-Ok-clause-range
returns-in-Ok-clause-range c =
    let read : reading_time (take 20 c.args.text.now) ≡ Ok c.from.result = search rules in
    (time_canonical (take 20 c.args.text.now) c.from.result read).range
