-- Numbers, ids and texts that are written are read back.
use Rattle.std.proofs.Common.{◌≡◌, ℕ, pos, negsuc, zero, suc, ◌+◌, ◌*◌, ◌/◌, ◌%◌, ◌^◌, ◌<◌, ◌≤◌, Bool, true, false, cond, eqb, ◌&&◌, List}
use Rattle.std.proofs.Common.{[], ◌∷◌, ◌++◌, length, replicate, fold, Ok, Err, refl, sym, ap, ◌∙◌, subst, arith, ⊎_elim}
use Rattle.std.proofs.lemmas.Bool.{and_parts, cases_lt, le-leb, ltb-true}
use Rattle.std.proofs.Math.Nat.{mul-le-mul_right}
use Rattle.std.proofs.lemmas.Bool.Decides.{nat_tests}
use Rattle.std.proofs.lemmas.List.{length-append}
use Rattle.std.proofs.lemmas.List.Sums.{fold_push}
use Rattle.std.proofs.lemmas.List.Folds.{list_all-append}
use Rattle.std.specs.List.{list_all}
use Rattle.std.specs.Char.{digit_char, is_ascii_digit}
use Rattle.osm_model.specs.Numeral.{numeral}
use Rattle.osm_model.specs.Decimal.{number_text, integer_text}
use Rattle.osm_model.proofs.NumeralLaws.{numeral-digit, numeral-step}
use Rattle.opl_line.specs.Number.{is_numeral, with_digit, decimal_value, up_to, reading_number, is_negative, without_sign, with_sign}
use Rattle.opl_line.specs.Results.{as_value}
use Rattle.opl_line.specs.Canonical.{NumberIsReadBack, IdIsReadBack}
use Rattle.opl_line.specs.declared.reason.OplReason.TheVariants.{BadNumber, OutOfRange}

-- all bytes are digits, and they write the number `n`
pub record IsRead (base : ℕ) (step : ℕ → ℕ → ℕ) (is_one : ℕ → Bool) (n : ℕ) (text : List ℕ) : Type 0 where
  pub value : fold step 0 text ≡ n
  pub digits : list_all is_one text ≡ true
  pub some : 0 < length text

module _ (base : ℕ) (step : ℕ → ℕ → ℕ) (is_one : ℕ → Bool) (low : 2 ≤ base)
    (steps : (n d : ℕ) → d < base → step n (digit_char d) ≡ base * n + d) (ones : (d : ℕ) → d < base → is_one (digit_char d) ≡ true) where
  one_digit : (n : ℕ) → n < base → IsRead base step is_one n (numeral base n)
  one_digit n small =
      let P : List ℕ → Type 0 = IsRead base step is_one n in
      subst P (sym (numeral-digit base n low small)) (record {
        value = steps 0 n small ∙ (let e : base * 0 + n ≡ n = omega arith in e);
        digits = ap (λ t. t && true) (ones n small);
        some = omega arith;
      })

  more_digits : (n : ℕ) → base ≤ n → IsRead base step is_one (n / base) (numeral base (n / base)) →
      IsRead base step is_one n (numeral base n)
  more_digits n large front =
      let P : List ℕ → Type 0 = IsRead base step is_one n in
      let some : 0 < base = omega arith in
      let last : n % base < base = omega arith in
      subst P (sym (numeral-step base n low large)) (record {
        value = fold_push step 0 (numeral base (n / base)) (digit_char (n % base)) ∙ ap (λ v. step v (digit_char (n % base))) front.value
            ∙ steps (n / base) (n % base) last ∙ (let e : base * (n / base) + n % base ≡ n = omega arith in e);
        digits = list_all-append is_one (numeral base (n / base)) (digit_char (n % base) ∷ [])
            ∙ (λ i. front.digits i && (ones (n % base) last i && true));
        some = omega (arith, length-append (numeral base (n / base)) (digit_char (n % base) ∷ []));
      })

  -- The numeral of a number up to a bound is read as the number.
  pub is_read : (most n : ℕ) → n ≤ most → IsRead base step is_one n (numeral base n)
  is_read zero n few = one_digit n (omega arith)
  is_read (suc most) n few =
      ⊎_elim (one_digit n) (λ large. more_digits n large
      (is_read most (n / base) (let product : 2 * (n / base) ≤ base * (n / base) = mul-le-mul_right (n / base) low in
      let whole : base * (n / base) + n % base ≡ n = omega arith in omega arith))) (cases_lt n base)

-- leading zeros don't change the number
pub zeros_read : (base : ℕ) (step : ℕ → ℕ → ℕ) (is_one : ℕ → Bool) (k n : ℕ) (text : List ℕ) → step 0 48 ≡ 0 → is_one 48 ≡ true →
    IsRead base step is_one n text → IsRead base step is_one n (replicate k 48 ++ text)
zeros_read base step is_one zero n text none one is = is
zeros_read base step is_one (suc k) n text none one is =
    let rest = zeros_read base step is_one k n text none one is in
    record {
      value = ap (λ v. fold step v (replicate k 48 ++ text)) none ∙ rest.value;
      digits = ap (λ t. t && list_all is_one (replicate k 48 ++ text)) one ∙ rest.digits;
      some = omega arith;
    }

digit_step : (n d : ℕ) → d < 10 → with_digit n (digit_char d) ≡ 10 * n + d
digit_step n d small = grind (arith, nat_tests)

digit_one : (d : ℕ) → d < 10 → is_ascii_digit (digit_char d) ≡ true
digit_one d small = grind (arith, nat_tests)

-- The decimal text of a number is read as the number.
pub decimal : (n : ℕ) → IsRead 10 with_digit is_ascii_digit n (number_text n)
unfolding number_text
decimal n = is_read 10 with_digit is_ascii_digit (omega arith) digit_step digit_one n n (omega arith)

-- A text of one digit or more is a numeral.
pub numeral_is : (text : List ℕ) → 0 < length text → list_all is_ascii_digit text ≡ true → is_numeral text ≡ true
numeral_is text some all = rw all (grind (arith, nat_tests))

-- The text of a number is read as the number.
pub number_is_read_back : NumberIsReadBack
number_is_read_back most n small =
    let d = decimal n in
    ap (λ t. cond t (up_to most (decimal_value (number_text n))) (Err BadNumber)) (numeral_is (number_text n) d.some d.digits)
    ∙ ap (up_to most) d.value
    ∙ ap (λ t. cond t (Ok n) (Err OutOfRange)) (le-leb n most small)

-- A digit is no minus sign.
pub minus_apart : (b : ℕ) → is_ascii_digit b ≡ true → eqb b 45 ≡ false
minus_apart b e = grind (arith, nat_tests)

-- a numeral has no sign
unsigned : (text : List ℕ) → list_all is_ascii_digit text ≡ true → (is_negative text ≡ false) × (without_sign text ≡ text)
unsigned [] all = (refl, refl)
unsigned (b ∷ bs) all =
    let parts = and_parts (is_ascii_digit b) (list_all is_ascii_digit bs) all in
    let other : eqb b 45 ≡ false = minus_apart b parts.0 in
    (other, ap (λ t. cond t bs (b ∷ bs)) other)

-- The text of an id is read as the id.
pub id_is_read_back : IdIsReadBack
unfolding integer_text
id_is_read_back (pos n) is =
    let d = decimal n in
    let u = unsigned (number_text n) d.digits in
    let small = ltb-true n (2 ^ 62) is in
    ap (λ t. as_value (with_sign (is_negative (number_text n))) (reading_number 4_611_686_018_427_387_903 t)) u.1
    ∙ ap (as_value (with_sign (is_negative (number_text n)))) (number_is_read_back 4_611_686_018_427_387_903 n (omega arith))
    ∙ ap (λ s. Ok (with_sign s n)) u.0
id_is_read_back (negsuc n) is =
    let small = ltb-true (suc n) (2 ^ 62) is in
    ap (as_value (with_sign true)) (number_is_read_back 4_611_686_018_427_387_903 (suc n) (omega arith))
