use Rattle.osm_model.proofs.TextLaws.{short_text}
use Rattle.osm_model.proofs.text.Text.has_memory.Goals as goal

pub returns-in_default : goal.returns-in_default
returns-in_default c =
    short_text _ _ _ c.as_str-bytes.utf8 c.as_str-bytes.ensures.bytes c.self.view_is c.as_str-bytes.ensures.short c.in_default.not-Heap
