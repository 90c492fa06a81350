use Rattle.std.proofs.Common.{refl, sym, ◌∙◌}
use Rattle.osm_model.proofs.CursorLaws.{text_more}
use Rattle.osm_model.proofs.line_bytes.emit_text.Goals as goal

pub returns : goal.returns
returns c =
    let bytes = sym c.chars-characters.ensures.rest ∙ c.in_ok-first.ensures.steps.0 in
    rw c.as_str.ensures (text_more c.args.text.now _ c.args.text.now _ _ c.utf8.text refl bytes c.set_escaped.ensures)
