-- Numbers in a base: the OPL manual has decimal and hexadecimal ones.
use Rattle.std.specs.Prelude.{ℕ, zero, suc, ◌-◌, List, ◌++◌, map, length, replicate, codes}
use Rattle.std.specs.Int.Digits.{digits_of}
use Rattle.std.specs.Char.{digit_char}

-- a number's digits in a base, letters in lower case, with no leading zero; 0 is `0`
unfoldable pub numeral : ℕ → ℕ → List ℕ
numeral base zero = codes "0"
numeral base (suc n) = map digit_char (digits_of base (suc n))

-- a text with zeros in front, up to a width
unfoldable pub pad_zeros : ℕ → List ℕ → List ℕ
pad_zeros width text = replicate (width - length text) 48 ++ text
