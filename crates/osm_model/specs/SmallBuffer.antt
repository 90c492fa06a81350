-- The remaining bytes of a `SmallBuffer`.
use Rattle.std.specs.Prelude.{ℕ, List, drop}
use Rattle.osm_model.specs.declared.small_buffer.SmallBuffer.{SmallBuffer}

-- the bytes from `start` on
abbrev pub bytes_left : SmallBuffer → List ℕ
bytes_left small_buffer = drop small_buffer.start small_buffer.bytes
