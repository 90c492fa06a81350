-- The digits of a number, one by one.
use Rattle.std.proofs.Common.{◌≡◌, ℕ, ◌+◌, ◌-◌, ◌*◌, ◌^◌, ◌<◌, ◌≤◌, min, suc, true, false, ◌&&◌, List, [], ◌∷◌, length, take, ◌==◌, leb}
use Rattle.std.proofs.Common.{not, add-one, refl, arith, cond, Some, None, Ok, Err, IfOk}
use Rattle.std.proofs.lemmas.Bool.{and_parts, leb-true, le-leb}
use Rattle.std.specs.Char.{is_ascii_digit}
use Rattle.std.specs.Option.{ok_or}
use Rattle.std.specs.List.{list_all, fold}
use Rattle.std.proofs.Math.Nat.{pow-le-pow_right, pow-succ'}
use Rattle.opl_line.specs.declared.reason.OplReason.TheVariants.{BadCoordinate}
use Rattle.opl_line.specs.Number.{is_numeral, with_digit, decimal_value, value_of, reading_short_numeral}

-- the first digits, and their value, or 2^64 - 1 if it is more
pub record IsReadTo (digits : List ℕ) (i number : ℕ) : Type 0 where
  pub all_digits : list_all is_ascii_digit (take i digits) ≡ true
  pub value : number ≡ min (decimal_value (take i digits)) (2 ^ 64 - 1)

-- the first digits of a short text, and their value
pub record IsFewTo (digits : List ℕ) (i number : ℕ) : Type 0 where
  pub all_digits : list_all is_ascii_digit (take i digits) ≡ true
  pub value : number ≡ decimal_value (take i digits)
  pub bound : number < 10 ^ i

-- A number of fewer than 19 digits is below 10^18.
pub small_number : (i number : ℕ) → i < 19 → number < 10 ^ i → number < 10 ^ 18
small_number i number few below =
    let some : 0 < 10 = omega arith in
    let power : 10 ^ i ≤ 10 ^ 18 = pow-le-pow_right some (let k : i ≤ 18 = omega arith in k) in
    omega arith

-- A number of some digits is below a power of ten with as many zeros or more.
pub below_power : (number count most : ℕ) → number < 10 ^ count → count ≤ most → number < 10 ^ most
below_power number count most small few =
    let some : 0 < 10 = omega arith in
    let power : 10 ^ count ≤ 10 ^ most = pow-le-pow_right some few in
    omega arith

-- digits after a number below 10^`k` write a number below 10^(`length digits` + `k`)
decimal_below : (digits : List ℕ) (n k : ℕ) → list_all is_ascii_digit digits ≡ true → n < 10 ^ k →
    fold with_digit n digits < 10 ^ (length digits + k)
decimal_below [] n k all small = let none : 0 + k ≡ k = omega arith in rw none small
decimal_below (d ∷ ds) n k all small =
    let parts = and_parts _ _ all in
    let range = and_parts _ _ parts.0 in
    let low = leb-true 48 d range.0 in
    let high = leb-true d 57 range.1 in
    let wide : 10 ^ (k + 1) ≡ 10 * 10 ^ k = rw add-one (pow-succ' 10 k) in
    let next : with_digit n d < 10 ^ (k + 1) = omega arith in
    let more : length ds + (k + 1) ≡ suc (length ds) + k = omega arith in
    rw (← more) (decimal_below ds (with_digit n d) (k + 1) parts.1 next)

-- A numeral of some digits is below a power of ten with as many zeros or more.
pub numeral_below : (digits : List ℕ) (most : ℕ) → is_numeral digits ≡ true → length digits ≤ most → decimal_value digits < 10 ^ most
numeral_below digits most is few =
    let parts = and_parts (not (length digits == 0)) (list_all is_ascii_digit digits) is in
    let below : fold with_digit 0 digits < 10 ^ (length digits + 0) = decimal_below digits 0 0 parts.1 (omega arith) in
    let same : length digits + 0 ≡ length digits = omega arith in
    let some : 0 < 10 = omega arith in
    let power : 10 ^ length digits ≤ 10 ^ most = pow-le-pow_right some few in
    let at : fold with_digit 0 digits < 10 ^ length digits = rw same at below in
    omega arith

-- The scale of decimals is at most 10^7.
pub scale_below : (decimals : ℕ) → 10 ^ (7 - decimals) ≤ 10 ^ 7
scale_below decimals = let less : 7 - decimals ≤ 7 = omega arith in let some : 0 < 10 = omega arith in pow-le-pow_right some less

-- at most `most` digits are read as `reading_short_numeral` defines
pub short_numeral : (digits : List ℕ) (most : ℕ) → length digits ≤ most →
    ok_or (value_of digits) BadCoordinate ≡ reading_short_numeral most digits
short_numeral digits most few =
    elim (is_numeral digits) as (λ t. ok_or (cond t (Some (decimal_value digits)) None) BadCoordinate
    ≡ cond (t && leb (length digits) most) (Ok (decimal_value digits)) (Err BadCoordinate)) [
      | true ↦ rw (le-leb (length digits) most few) refl
      | false ↦ refl
    ]

-- A short numeral that is read is below the power of ten of its length.
pub short_below : (digits : List ℕ) (most : ℕ) → IfOk (reading_short_numeral most digits) (λ n. n < 10 ^ most)
short_below digits most =
    elim (is_numeral digits && leb (length digits) most) as
    (λ t. (is_numeral digits && leb (length digits) most) ≡ t →
    IfOk (cond t (Ok (decimal_value digits)) (Err BadCoordinate)) (λ n. n < 10 ^ most)) [
      | true ↦ λ e. let parts = and_parts _ _ e in numeral_below digits most parts.0 (leb-true (length digits) most parts.1)
      | false ↦ λ e. tt
    ] refl
