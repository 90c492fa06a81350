-- The bytes of a text, in any storage.
use Rattle.std.specs.Prelude.{ℕ, Bool, true, false, List, string_bytes}
use Rattle.osm_model.specs.declared.text.Storage.{Storage}
use Rattle.osm_model.specs.declared.text.Storage.TheVariants.{InlineRaw, Inline, Heap}

abbrev pub bytes_of : Storage → List ℕ
bytes_of (InlineRaw plain) = plain.string.bytes
bytes_of (Inline string) = string.bytes
bytes_of (Heap string) = string_bytes string

-- whether the bytes have memory of their own
abbrev pub is_heap : Storage → Bool
is_heap (InlineRaw plain) = false
is_heap (Inline string) = false
is_heap (Heap string) = true
