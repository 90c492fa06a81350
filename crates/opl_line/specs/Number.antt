-- Numbers in OPL lines, as the OPL manual has them. This project's own rules are: leading zeros are accepted, and the
-- form of coordinates.
use Rattle.std.specs.Prelude.{ℕ, ℤ, pos, neg_ℤ, ◌+◌, ◌-◌, ◌*◌, ◌^◌, Bool, false, not, ◌&&◌, ◌==◌, nat_le, List, [], ◌∷◌}
use Rattle.std.specs.Prelude.{length, fold, Option, Some, None, Result, Ok, Err, if◌then◌else◌}
use Rattle.std.specs.List.{list_all}
use Rattle.std.specs.Char.{is_ascii_digit}
use Rattle.opl_line.specs.declared.reason.OplReason.{OplReason}
use Rattle.opl_line.specs.declared.reason.OplReason.TheVariants.{BadNumber, OutOfRange, BadCoordinate}
use Rattle.opl_line.specs.Results.{and_then, as_value}
use Rattle.opl_line.specs.Delimiter.{split_first}

-- one decimal digit or more, and nothing else
abbrev pub is_numeral : List ℕ → Bool
is_numeral text = not (length text == 0) && list_all is_ascii_digit text

-- the number that the digits of a number and one more digit write
abbrev pub with_digit : ℕ → ℕ → ℕ
with_digit n digit = 10 * n + (digit - 48)

-- the number that decimal digits write
abbrev pub decimal_value : List ℕ → ℕ
decimal_value digits = fold with_digit 0 digits

-- the number that a numeral writes
abbrev pub value_of : List ℕ → Option ℕ
value_of text = if is_numeral text then Some (decimal_value text) else None

-- a number that is at most the bound
abbrev pub up_to : ℕ → ℕ → Result ℕ OplReason
up_to most n = if nat_le n most then Ok n else Err OutOfRange

-- one decimal digit or more, with a value of at most `most`
abbrev pub reading_number : ℕ → List ℕ → Result ℕ OplReason
reading_number most text = if is_numeral text then up_to most (decimal_value text) else Err BadNumber

-- a minus sign at the front
abbrev pub is_negative : List ℕ → Bool
is_negative [] = false
is_negative (b ∷ bs) = b == 45

-- the text after the minus sign, if there is one
abbrev pub without_sign : List ℕ → List ℕ
without_sign [] = []
without_sign (b ∷ bs) = if b == 45 then bs else (b ∷ bs)

abbrev pub with_sign : Bool → ℕ → ℤ
with_sign negative n = if negative then neg_ℤ (pos n) else pos n

-- an id: an integer from -4611686018427387903 to 4611686018427387903
abbrev pub reading_id : List ℕ → Result ℤ OplReason
reading_id text = as_value (with_sign (is_negative text)) (reading_number 4_611_686_018_427_387_903 (without_sign text))

-- 1 to `most` decimal digits
abbrev pub reading_short_numeral : ℕ → List ℕ → Result ℕ OplReason
reading_short_numeral most text = if is_numeral text && nat_le (length text) most then Ok (decimal_value text)
    else Err BadCoordinate

-- the value of decimals in units of 10^-7 degree
abbrev pub decimals_value : List ℕ → ℕ → ℕ
decimals_value decimals n = n * 10 ^ (7 - length decimals)

-- Units of 10^-7 degree: 1 to 3 digits of whole degrees, and 1 to 7 decimals if a point follows.
abbrev pub reading_degrees : List ℕ → Option (List ℕ) → Result ℕ OplReason
reading_degrees whole None = as_value (λ n. n * 10_000_000) (reading_short_numeral 3 whole)
reading_degrees whole (Some decimals) =
    and_then (reading_short_numeral 3 whole) (λ n.
    as_value (λ d. n * 10_000_000 + decimals_value decimals d) (reading_short_numeral 7 decimals))

-- the units with their sign, if their number has 32 bits
abbrev pub reading_units : Bool → ℕ → Result ℤ OplReason
reading_units negative n = if nat_le n (if negative then 2_147_483_648 else 2_147_483_647)
    then Ok (with_sign negative n)
    else Err OutOfRange

-- the whole degrees and the decimals of a coordinate without a sign
abbrev pub degree_parts : List ℕ → List ℕ × Option (List ℕ)
degree_parts = split_first (λ b. b == 46)

-- a coordinate: from -2147483648 to 2147483647 units of 10^-7 degree
abbrev pub reading_coordinate : List ℕ → Result ℤ OplReason
reading_coordinate text =
    let parts = degree_parts (without_sign text) in
    and_then (reading_degrees parts.0 parts.1) (reading_units (is_negative text))
