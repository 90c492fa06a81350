use Rattle.std.proofs.Common.{ap, eqb, length, ◌∙◌}
use Rattle.osm_model.proofs.TextLaws.{empty_bytes, empty_by_length}
use Rattle.osm_model.proofs.text.Text.is_empty.Goals as goal

pub returns : goal.returns
returns c = c.is_empty.ensures ∙ ap (λ bytes. eqb (length bytes) 0) c.as_str.ensures.bytes ∙ empty_by_length _ ∙ empty_bytes c.args.self.now
