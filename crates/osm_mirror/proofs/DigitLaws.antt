-- Texts of decimal digits that are parsed.
use Rattle.std.proofs.Common.{◌≡◌, ℕ, ◌<◌, ◌^◌, true, ◌&&◌, List, [], ◌∷◌, refl, ap, arith, Result, Err}
use Rattle.std.proofs.lemmas.Result.{OkIff-at_err}
use Rattle.std.proofs.lemmas.Str.Parse.{IsNumeralModel, numerals_by_value, tells_all_ascii_digits, parse_digits}
use Rattle.std.specs.Char.{is_ascii_digit}
use Rattle.std.specs.List.{list_all}
use Rattle.std.specs.Str.{all_ascii_digits}
use Rattle.std.specs.Str.Parse.{digits_value, ParsesUnsigned}
use Rattle.osm_mirror.specs.Digits.{IsDecimal}

-- The two tests for decimal digits agree.
pub are_digits : (text : List ℕ) → list_all is_ascii_digit text ≡ all_ascii_digits text
are_digits [] = refl
are_digits (c ∷ cs) = ap (λ t. is_ascii_digit c && t) (are_digits cs)

-- digits write their decimal value
pub numerals : IsNumeralModel (λ ds. all_ascii_digits ds ≡ true) (digits_value 10)
numerals = numerals_by_value (λ ds. all_ascii_digits ds ≡ true) tells_all_ascii_digits

-- digits that can't be parsed spell no number below 2^64
pub parsed_none : {E : Type 0} → (text : List ℕ) (r : Result ℕ E) (e : E) → ParsesUnsigned 64 10 text r
    → all_ascii_digits text ≡ true → r ≡ Err e → (n : ℕ) → n < 2 ^ 64 → IsDecimal text n → ⊥
parsed_none text r e parsed digits is n small number =
    OkIff-at_err r _ _ e (parse_digits numerals 64 text r parsed digits) is (number.some, omega (arith, number.value))
