-- Decimal numbers, as the OPL manual has them.
use Rattle.std.specs.Prelude.{ℕ, ℤ, pos, negsuc, unsigned_abs, List, [], ◌++◌, codes}
use Rattle.osm_model.specs.Numeral.{numeral}

-- a number in decimal, with no leading zero
unfoldable pub number_text : ℕ → List ℕ
number_text n = numeral 10 n

-- a minus sign if the integer is below 0
abbrev pub sign_text : ℤ → List ℕ
sign_text (pos n) = []
sign_text (negsuc n) = codes "-"

-- an integer in decimal
unfoldable pub integer_text : ℤ → List ℕ
integer_text z = sign_text z ++ number_text (unsigned_abs z)
