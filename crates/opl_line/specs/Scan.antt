-- A search for bytes of a class, many at a time.
use Rattle.std.specs.Prelude.{ℕ, Bool, List, map}
use Rattle.std.specs.Simd.Lanes.{mask_l}

-- a number with a bit for each byte, the lowest for the first; the bit is set if the byte is of the class
abbrev pub marks_of : (ℕ → Bool) → List ℕ → ℕ
marks_of has bytes = mask_l (map has bytes)
