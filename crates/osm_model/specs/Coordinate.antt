-- Coordinates in degrees, as the OPL manual has them. One rule is this project's own: the decimals don't end with a
-- zero.
use Rattle.std.specs.Prelude.{ℕ, ℤ, unsigned_abs, ◌/◌, ◌%◌, ◌==◌, List, [], ◌∷◌, ◌++◌, if◌then◌else◌}
use Rattle.osm_model.specs.Numeral.{pad_zeros}
use Rattle.osm_model.specs.Decimal.{number_text, sign_text}

-- a digit before other digits; a zero without a digit after it is left out
abbrev pub digit_before : ℕ → List ℕ → List ℕ
digit_before d [] = if d == 48 then [] else (d ∷ [])
digit_before d (e ∷ es) = d ∷ e ∷ es

-- digits without the zeros at their end
unfoldable pub without_last_zeros : List ℕ → List ℕ
without_last_zeros [] = []
without_last_zeros (d ∷ ds) = digit_before d (without_last_zeros ds)

-- a part of a degree, in units of 10^-7 degree: a point and decimals, or nothing if it is 0
unfoldable pub fraction_text : ℕ → List ℕ
fraction_text units = if units == 0 then [] else (46 ∷ without_last_zeros (pad_zeros 7 (number_text units)))

-- degrees, in units of 10^-7 degree
unfoldable pub degrees_text : ℕ → List ℕ
degrees_text units = number_text (units / 10_000_000) ++ fraction_text (units % 10_000_000)

-- a coordinate, in units of 10^-7 degree
unfoldable pub coordinate_text : ℤ → List ℕ
coordinate_text z = sign_text z ++ degrees_text (unsigned_abs z)
