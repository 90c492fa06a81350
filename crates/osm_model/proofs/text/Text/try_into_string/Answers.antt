use Rattle.std.proofs.Common.{sym}
use Rattle.osm_model.proofs.TextLaws.{text_bytes, short_text}
use Rattle.osm_model.proofs.text.Text.try_into_string.Goals as goal

pub returns-in-Heap-clause-bytes : goal.returns-in-Heap-clause-bytes
returns-in-Heap-clause-bytes c = rw (← c.self.view_is, c.in-Heap.is) (sym (text_bytes c.in-Heap.string))

pub returns-in_default : goal.returns-in_default
returns-in_default c =
    let bytes = c.as_str-bytes in
    record {
      bytes = tt;
      text = c.self.view_is;
      short = short_text _ _ _ bytes.utf8 bytes.ensures.bytes c.self.view_is bytes.ensures.short c.in_default.not-Heap;
    }
