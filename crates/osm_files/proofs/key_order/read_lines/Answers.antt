use Rattle.std.proofs.Common.{◌+◌, refl, sym, ap, ◌∙◌, subst, take, position, Ok, Err}
use Rattle.std.proofs.lemmas.List.{take_rest}
use Rattle.opl_line.specs.Delimiter.{is_line_end}
use Rattle.osm_files.specs.declared.key_order.RisingLines.{RisingLines}
use Rattle.osm_files.specs.KeyOrder.{StepsOver, EndsLines}
use Rattle.osm_files.proofs.KeyOrderLaws.{nothing_read, read_on, stops_at, ends_there}
use Rattle.osm_files.proofs.key_order.read_lines.Goals as goal

pub lines-init : goal.lines-init
lines-init c = nothing_read c.args.window.now c.args.lines.last

pub returns-in_default-clause-read : goal.returns-in_default-clause-read
returns-in_default-clause-read c =
    let window = c.args.window.now in
    let rest = take_rest window c.lines.read in
    let lines : RisingLines = record { end = c.args.lines.end + c.lines.read; last = c.lines.last } in
    ends_there window c.args.lines.last c.lines.read c.lines.last c.lines.invariant c.args.lines refl
    (c.args.lines.end + c.lines.read) refl (sym (ap (position is_line_end) rest) ∙ sym c.find_line_end.ensures ∙ c.in_default.is)
    c.args.is_last c.end_lines.result
    (subst (λ xs. EndsLines xs lines c.args.is_last c.end_lines.result) rest c.end_lines.ensures.read)

pub returns-in-Err-clause-read : goal.returns-in-Err-clause-read
returns-in-Err-clause-read c =
    let window = c.args.window.now in
    let rest = take_rest window c.lines.read in
    stops_at window c.args.lines.last c.lines.read c.lines.last c.lines.invariant c.args.lines refl
    (c.args.lines.end + c.lines.read) refl c.args.is_last c.in-Some.size c.in-Err.why
    (sym (ap (position is_line_end) rest) ∙ sym c.find_line_end.ensures ∙ c.in-Some.is)
    (subst (λ xs. StepsOver c.lines.last (take c.in-Some.size xs) (Err c.in-Err.why)) rest c.in-Err.ensures)

pub lines-preserved : goal.lines-preserved
lines-preserved c =
    let window = c.args.window.now in
    let rest = take_rest window c.lines.read in
    read_on window c.args.lines.last c.lines.read c.lines.last c.lines.invariant c.in-Some.size c.in-Ok.next
    (sym (ap (position is_line_end) rest) ∙ sym c.find_line_end.ensures ∙ c.in-Some.is)
    (subst (λ xs. StepsOver c.lines.last (take c.in-Some.size xs) (Ok c.in-Ok.next)) rest c.in-Ok.ensures)
