use Rattle.std.proofs.Common.{sym, ap, ◌∙◌}
use Rattle.opl_line.specs.Delimiter.{is_line_end}
use Rattle.opl_line.proofs.CutLaws.{split_at, split_nowhere}
use Rattle.osm_files.proofs.lines.first_line.Goals as goal

pub returns-in-Some : goal.returns-in-Some
returns-in-Some c =
    let at = split_at is_line_end c.args.bytes.now c.in-Some.size (sym c.find_line_end.ensures ∙ c.in-Some.is) in
    sym (ap (λ s. s.0) at.split)

pub returns-in-None : goal.returns-in-None
returns-in-None c =
    sym (ap (λ s. s.0) (split_nowhere is_line_end c.args.bytes.now (sym c.find_line_end.ensures ∙ c.in-None.is)))
