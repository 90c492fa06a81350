-- The tables of hexadecimal digits and of their values.
use Rattle.std.proofs.Common.{◌≡◌, ℕ, zero, suc, ◌-◌, ◌<◌, Bool, true, T, eqb, eqb→eq, eq-zero-or-pos, inl, inr, ◌&&◌, get_or, arith}
use Rattle.std.proofs.Common.{not, ltb, ◌||◌, subst, ap, ◌∙◌}
use lib.Ieee.Fits.{and_l, and_r}
use Rattle.std.proofs.lemmas.Bool.{lt-ltb}
use Rattle.std.specs.Char.{digit_char}
use Rattle.osm_model.specs.declared.escape.TheConstants.{HEX_DIGITS}
use Rattle.osm_model.specs.declared.escaped.TheConstants.{DIGIT_VALUES}

abbrev is_digit : ℕ → Bool
is_digit n = eqb (get_or HEX_DIGITS n 0) (digit_char n)

abbrev are_digits : ℕ → Bool
are_digits zero = true
are_digits (suc n) = is_digit n && are_digits n

digit_below : (n number : ℕ) → T (are_digits n) → number < n → T (is_digit number)
digit_below zero number t h = absurd (omega arith)
digit_below (suc n) number t h =
    elim (eq-zero-or-pos (n - number)) [
      | inl z ↦ let e : number ≡ n = omega arith in rw e (and_l _ (are_digits n) t)
      | inr g ↦ digit_below n number (and_r _ (are_digits n) t) (omega arith)
    ]

-- The table has the digit of each number below 16.
pub hex_digit_of : (number : ℕ) → number < 16 → get_or HEX_DIGITS number 0 ≡ digit_char number
hex_digit_of number small = eqb→eq _ _ (digit_below 16 number tt small)

abbrev is_value : ℕ → Bool
is_value n = not (ltb (get_or DIGIT_VALUES n 0) 16) || eqb n (digit_char (get_or DIGIT_VALUES n 0))

abbrev are_values : ℕ → Bool
are_values zero = true
are_values (suc n) = is_value n && are_values n

value_below : (n byte : ℕ) → T (are_values n) → byte < n → T (is_value byte)
value_below zero byte t h = absurd (omega arith)
value_below (suc n) byte t h =
    elim (eq-zero-or-pos (n - byte)) [
      | inl z ↦ let e : byte ≡ n = omega arith in rw e (and_l _ (are_values n) t)
      | inr g ↦ value_below n byte (and_r _ (are_values n) t) (omega arith)
    ]

-- A byte whose value in the table is below 16 is the digit of that value.
pub digit_of_value : (byte value : ℕ) → byte < 256 → get_or DIGIT_VALUES byte 0 ≡ value → value < 16 → byte ≡ digit_char value
digit_of_value byte value small is low =
    let below : ltb (get_or DIGIT_VALUES byte 0) 16 ≡ true = rw is (lt-ltb value 16 low) in
    eqb→eq _ _ (subst (λ b. T (not b || eqb byte (digit_char (get_or DIGIT_VALUES byte 0)))) below (value_below 256 byte tt small))
    ∙ ap digit_char is
