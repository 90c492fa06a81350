-- The text of a decimal number determines the number, and has no separator.
use Rattle.std.proofs.Common.{◌≡◌, ℕ, zero, suc, ◌+◌, ◌/◌, ◌%◌, ◌^◌, ◌<◌, ◌≤◌, List, [], ◌∷◌, ◌++◌, map, length, refl, sym, ap, ◌∙◌, arith}
use Rattle.std.proofs.Common.{append_assoc, ℤ, pos, negsuc, inl}
use Rattle.std.specs.Fmt.{decimal}
use Rattle.std.specs.Char.{digit_char}
use Rattle.std.specs.Int.Digits.{AllBelowBase}
use Rattle.std.proofs.lemmas.Int.Digits.{all_below_base_digits_of}
use Rattle.std.proofs.lemmas.Fmt.{decimal-digits_of, decimal_digit}
use Rattle.std.proofs.lemmas.Bool.Decides.{nat_tests}
use Rattle.osm_model.specs.Numeral.{numeral, pad_zeros}
use Rattle.osm_model.specs.Decimal.{number_text, integer_text}
use Rattle.osm_model.proofs.NumeralLaws.{numeral_injective, numeral_lacks, length-numeral-le, pad_zeros-step, pad_zeros-digit}
use Rattle.osm_model.proofs.Separators.{Lacks, lacks_clash, NoDigit, IsSeparator, no_digit-separator, mark-separator}

-- Two numbers with one text are equal.
pub number_injective : (m n : ℕ) → number_text m ≡ number_text n → m ≡ n
unfolding number_text
number_injective m n e = numeral_injective 10 m n (omega arith) (omega arith) e

-- The text of a number lacks each byte that is no digit.
pub number_lacks_mark : (c n : ℕ) → NoDigit c → Lacks c (number_text n)
unfolding number_text
number_lacks_mark c n apart = numeral_lacks c 10 n apart (omega arith) (omega arith)

-- The text of a number has no separator.
pub number_lacks : {c : ℕ} (n : ℕ) → IsSeparator c → Lacks c (number_text n)
number_lacks n s = number_lacks_mark _ n (no_digit-separator s)

no_sign : (m n : ℕ) → number_text m ≡ 45 ∷ number_text n → ⊥
no_sign m n e = lacks_clash 45 (number_text m) [] (number_text n) e (number_lacks_mark 45 m (inl (omega arith)))

-- Two integers with one text are equal.
pub integer_injective : (y z : ℤ) → integer_text y ≡ integer_text z → y ≡ z
unfolding integer_text
integer_injective (pos m) (pos n) e = ap pos (number_injective m n e)
integer_injective (pos m) (negsuc n) e = absurd (no_sign m (suc n) e)
integer_injective (negsuc m) (pos n) e = absurd (no_sign n (suc m) (sym e))
integer_injective (negsuc m) (negsuc n) e =
    let rest : number_text (suc m) ≡ number_text (suc n) = cc in
    let same : suc m ≡ suc n = number_injective (suc m) (suc n) rest in
    let less : m ≡ n = omega arith in
    ap negsuc less

-- The text of an integer has no separator.
pub integer_lacks : {c : ℕ} (z : ℤ) → IsSeparator c → Lacks c (integer_text z)
unfolding integer_text
integer_lacks (pos n) s = number_lacks n s
integer_lacks (negsuc n) s = (mark-separator 45 (inl (omega arith, omega arith)) s, number_lacks (suc n) s)

digits_same : (ds : List ℕ) → AllBelowBase 10 ds → map (λ d. 48 + d) ds ≡ map digit_char ds
digits_same [] below = refl
digits_same (d ∷ ds) below =
    let same : 48 + d ≡ digit_char d = (let small = below.0 in grind (arith, nat_tests)) in
    cc (same, digits_same ds below.1)

-- the text that std writes of a number
pub number_decimal : (n : ℕ) → n < 2 ^ 64 → number_text n ≡ decimal n
unfolding number_text numeral
number_decimal zero h = sym (decimal_digit 0 (omega arith))
number_decimal (suc n) h = sym (decimal-digits_of (suc n) (omega arith) h
    ∙ digits_same _ (all_below_base_digits_of 10 (suc n) (omega arith)))

-- A number below 10^k has at most k digits.
pub length-number-le : (k n : ℕ) → 0 < k → n < 10 ^ k → length (number_text n) ≤ k
unfolding number_text
length-number-le k n some small = length-numeral-le 10 k n (omega arith) some small

digit_char-decimal : (d : ℕ) → d < 10 → digit_char d ≡ 48 + d
digit_char-decimal d small = grind (arith, nat_tests)

-- a number below 100 in two digits
pub padded_pair : (n : ℕ) → n < 100 → pad_zeros 2 (number_text n) ≡ (48 + n / 10) ∷ (48 + n % 10) ∷ []
unfolding number_text
padded_pair n small =
    pad_zeros-step 10 0 n (omega arith)
    ∙ ap (λ t. t ++ digit_char (n % 10) ∷ []) (pad_zeros-digit 10 (n / 10) (omega arith) (omega arith))
    ∙ (λ i. digit_char-decimal (n / 10) (omega arith) i ∷ digit_char-decimal (n % 10) (omega arith) i ∷ [])

-- the last two digits, split off
pub padded_after : (width n : ℕ) → pad_zeros (suc (suc (suc width))) (number_text n) ≡ pad_zeros (suc width) (number_text (n / 100))
    ++ pad_zeros 2 (number_text (n % 100))
unfolding number_text
padded_after width n =
    let first : n / 10 / 10 ≡ n / 100 = omega arith in
    let third : n / 10 % 10 ≡ n % 100 / 10 = omega arith in
    let last : n % 10 ≡ n % 100 % 10 = omega arith in
    let tens : pad_zeros (suc (suc width)) (numeral 10 (n / 10)) ≡ pad_zeros (suc width) (numeral 10 (n / 100)) ++ digit_char (n % 100 / 10)
    ∷ [] =
    pad_zeros-step 10 width (n / 10) (omega arith) ∙ (λ i. pad_zeros (suc width) (numeral 10 (first i)) ++ digit_char (third i) ∷ []) in
    let ones : pad_zeros 2 (numeral 10 (n % 100)) ≡ digit_char (n % 100 / 10) ∷ digit_char (n % 100 % 10) ∷ [] =
    pad_zeros-step 10 0 (n % 100) (omega arith) ∙ ap (λ t. t ++ digit_char (n % 100 % 10) ∷ [])
    (pad_zeros-digit 10 (n % 100 / 10) (omega arith) (omega arith)) in
    pad_zeros-step 10 (suc width) n (omega arith)
    ∙ (λ i. tens i ++ digit_char (last i) ∷ [])
    ∙ append_assoc (pad_zeros (suc width) (numeral 10 (n / 100))) (digit_char (n % 100 / 10) ∷ []) (digit_char (n % 100 % 10) ∷ [])
    ∙ ap (λ t. pad_zeros (suc width) (numeral 10 (n / 100)) ++ t) (sym ones)

-- a number in four digits: the quotient and the remainder by 100, in two digits each
pub padded_pairs : (n : ℕ) → pad_zeros 4 (number_text n) ≡ pad_zeros 2 (number_text (n / 100)) ++ pad_zeros 2 (number_text (n % 100))
padded_pairs n = padded_after 1 n

-- a number in seven digits: three pairs of digits and the last digit
pub padded_seven : (n : ℕ) →
    pad_zeros 7 (number_text n) ≡ pad_zeros 2 (number_text (n / 100_000))
    ++ (pad_zeros 2 (number_text (n / 1000 % 100)) ++ (pad_zeros 2 (number_text (n / 10 % 100)) ++ (48 + n % 10) ∷ []))
unfolding number_text
padded_seven n =
    let pairs = padded_after 3 (n / 10) in
    let high : n / 10 / 100 ≡ n / 1000 = omega arith in
    let top : n / 1000 / 100 ≡ n / 100_000 = omega arith in
    let last : digit_char (n % 10) ≡ 48 + n % 10 = digit_char-decimal (n % 10) (omega arith) in
    let first_four = padded_pairs (n / 1000) ∙ (λ i. pad_zeros 2 (numeral 10 (top i)) ++ pad_zeros 2 (numeral 10 (n / 1000 % 100))) in
    let first_six = pairs ∙ (λ i. pad_zeros 4 (numeral 10 (high i)) ++ pad_zeros 2 (numeral 10 (n / 10 % 100)))
    ∙ ap (λ t. t ++ pad_zeros 2 (numeral 10 (n / 10 % 100))) first_four in
    pad_zeros-step 10 5 n (omega arith)
    ∙ (λ i. first_six i ++ last i ∷ [])
    ∙ append_assoc (pad_zeros 2 (numeral 10 (n / 100_000)) ++ pad_zeros 2 (numeral 10 (n / 1000 % 100)))
    (pad_zeros 2 (numeral 10 (n / 10 % 100)))
    ((48 + n % 10) ∷ [])
    ∙ append_assoc (pad_zeros 2 (numeral 10 (n / 100_000))) (pad_zeros 2 (numeral 10 (n / 1000 % 100)))
    (pad_zeros 2 (numeral 10 (n / 10 % 100)) ++ (48 + n % 10) ∷ [])
