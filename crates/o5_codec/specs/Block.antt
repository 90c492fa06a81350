-- The bytes of a block.
use Rattle.std.specs.Prelude.{ℕ, List, take}
use Rattle.o5_codec.specs.declared.write.block.Block.{Block}

-- the bytes that are filled
abbrev pub filled_bytes : Block → List ℕ
filled_bytes block = take block.end block.bytes
