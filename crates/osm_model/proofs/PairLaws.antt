-- The table of two digits.
use Rattle.std.proofs.Common.{◌≡◌, ℕ, zero, suc, ◌+◌, ◌-◌, ◌*◌, ◌/◌, ◌%◌, ◌<◌, Bool, true, T, eqb, eqb→eq, eq-zero-or-pos, inl, inr, ◌&&◌}
use Rattle.std.proofs.Common.{get_or, arith}
use lib.Ieee.Fits.{and_l, and_r}
use Rattle.osm_model.specs.declared.put.TheConstants.{PAIRS}

abbrev is_pair : ℕ → Bool
is_pair n = eqb (get_or PAIRS (2 * n) 0) (48 + n / 10) && eqb (get_or PAIRS (2 * n + 1) 0) (48 + n % 10)

abbrev are_pairs : ℕ → Bool
are_pairs zero = true
are_pairs (suc n) = is_pair n && are_pairs n

pair_below : (n number : ℕ) → T (are_pairs n) → number < n → T (is_pair number)
pair_below zero number t h = absurd (omega arith)
pair_below (suc n) number t h =
    elim (eq-zero-or-pos (n - number)) [
      | inl z ↦ let e : number ≡ n = omega arith in rw e (and_l _ (are_pairs n) t)
      | inr g ↦ pair_below n number (and_r _ (are_pairs n) t) (omega arith)
    ]

-- the table's first digit of a number below 100 is the number's first digit
pub first_digit : (number : ℕ) → number < 100 → get_or PAIRS (2 * number) 0 ≡ 48 + number / 10
first_digit number small = eqb→eq _ _ (and_l _ (eqb (get_or PAIRS (2 * number + 1) 0) (48 + number % 10)) (pair_below 100 number tt small))

-- The table's second digit of a number below 100 is the number's last digit.
pub last_digit : (number : ℕ) → number < 100 → get_or PAIRS (2 * number + 1) 0 ≡ 48 + number % 10
last_digit number small = eqb→eq _ _ (and_r (eqb (get_or PAIRS (2 * number) 0) (48 + number / 10)) _ (pair_below 100 number tt small))
