use Rattle.osm_model.proofs.TextLaws.{text_bytes}
use Rattle.osm_model.proofs.text.Text.from_string.Goals as goal

pub returns-clause-bytes : goal.returns-clause-bytes
returns-clause-bytes c = text_bytes c.args.string
