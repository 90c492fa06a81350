use Rattle.std.proofs.Common.{ap, ◌∙◌}
use Rattle.std.specs.Str.{chars, encode_utf8_all}
use Rattle.std.proofs.lemmas.Str.{encodes-chars}
use Rattle.osm_model.proofs.text.Text.from_raw.Goals as goal

pub returns-in-Ok-clause-bytes : goal.returns-in-Ok-clause-bytes
returns-in-Ok-clause-bytes c =
    ap (λ bytes. encode_utf8_all (chars bytes)) (c.new.ensures ∙ c.in-Ok.ensures.ok) ∙ encodes-chars _ c.utf8.characters
