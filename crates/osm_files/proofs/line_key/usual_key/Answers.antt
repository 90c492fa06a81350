use Rattle.std.proofs.Common.{sym, ◌∙◌}
use Rattle.osm_files.proofs.LineKeyLaws.{usual_line}
use Rattle.osm_files.proofs.line_key.usual_key.Goals as goal

pub returns-then-is_field_end : goal.returns-then-is_field_end
returns-then-is_field_end c =
    usual_line c.in_ok-key.key c.args.line.now c.in_ok-key.rest.now c.in_ok-key.ensures
    (sym c.is_field_end.ensures ∙ c.if-is_field_end.true)
