-- The digits of a number determine the number, and each of its bytes is a digit.
use Rattle.std.proofs.Common.{◌≡◌, ◌≢◌, ℕ, zero, suc, ◌+◌, ◌-◌, ◌*◌, ◌/◌, ◌%◌, ◌^◌, ◌<◌, ◌≤◌, List, [], ◌∷◌, ◌++◌, map, length, replicate}
use Rattle.std.proofs.Common.{refl, sym, ap, ◌∙◌, arith, append_assoc, ⊎_elim}
use Rattle.std.proofs.lemmas.Bool.Decides.{nat_tests}
use Rattle.std.specs.Char.{digit_char, digit_value}
use Rattle.std.specs.Int.Digits.{digits_of, number_from_digits, number_from_digits_after, AllBelowBase}
use Rattle.std.proofs.lemmas.Int.Digits.{digits_of_step, number_digits_of, all_below_base_digits_of, length-digits_of-le}
use Rattle.std.proofs.lemmas.List.{map-append, length-append, length-map, length-replicate, replicate_more, append-nil}
use Rattle.std.proofs.lemmas.Bool.{cases_lt}
use Rattle.std.proofs.Math.Nat.{div-eq_of_lt, mod-eq_of_lt}
use Rattle.std.proofs.lemmas.Str.{digit_value-digit_char}
use Rattle.osm_model.specs.Numeral.{numeral, pad_zeros}
use Rattle.osm_model.proofs.Separators.{Lacks, NoDigit}

numeral-positive : (base n : ℕ) → 0 < n → numeral base n ≡ map digit_char (digits_of base n)
unfolding numeral
numeral-positive base zero h = absurd (omega arith)
numeral-positive base (suc n) h = refl

-- the numeral of a number below the base is one digit
pub numeral-digit : (base n : ℕ) → 2 ≤ base → n < base → numeral base n ≡ digit_char n ∷ []
unfolding numeral
numeral-digit base zero low h = refl
numeral-digit base (suc n) low h =
    let none : suc n / base ≡ 0 = div-eq_of_lt h in
    let all : suc n % base ≡ suc n = mod-eq_of_lt h in
    ap (map digit_char) (digits_of_step base (suc n) low (omega arith) ∙ (λ i. digits_of base (none i) ++ (all i ∷ [])))

-- the numeral of any other number ends with the digit of its remainder
pub numeral-step : (base n : ℕ) → 2 ≤ base → base ≤ n → numeral base n ≡ numeral base (n / base) ++ digit_char (n % base) ∷ []
numeral-step base n low h =
    let some : 0 < n / base = grind arith in
    numeral-positive base n (omega arith) ∙ ap (map digit_char) (digits_of_step base n low (omega arith))
    ∙ map-append digit_char (digits_of base (n / base)) (n % base ∷ [])
    ∙ ap (λ t. t ++ digit_char (n % base) ∷ []) (sym (numeral-positive base (n / base) some))

-- the number that a text of digits writes
abbrev value_of : ℕ → List ℕ → ℕ
value_of base text = number_from_digits base (map digit_value text)

digits_back : (base : ℕ) → base ≤ 36 → (ds : List ℕ) → AllBelowBase base ds → map digit_value (map digit_char ds) ≡ ds
digits_back base high [] below = refl
digits_back base high (d ∷ ds) below = let e = digit_value-digit_char d (omega (arith, below.0)) in cc (e, digits_back base high ds below.1)

value_of-numeral : (base n : ℕ) → 2 ≤ base → base ≤ 36 → value_of base (numeral base n) ≡ n
unfolding numeral
value_of-numeral base zero low high = omega arith
value_of-numeral base (suc n) low high =
    ap (number_from_digits base) (digits_back base high _ (all_below_base_digits_of base (suc n) low)) ∙ number_digits_of base (suc n) low

value_of-zeros : (base k : ℕ) (text : List ℕ) → value_of base (replicate k 48 ++ text) ≡ value_of base text
value_of-zeros base zero text = refl
value_of-zeros base (suc k) text =
    let none : 0 * base + 0 ≡ 0 = omega arith in
    ap (λ n. number_from_digits_after base n (map digit_value (replicate k 48 ++ text))) none ∙ value_of-zeros base k text

value_of-padded : (base width n : ℕ) → 2 ≤ base → base ≤ 36 → value_of base (pad_zeros width (numeral base n)) ≡ n
unfolding pad_zeros
value_of-padded base width n low high = value_of-zeros base (width - length (numeral base n)) (numeral base n)
    ∙ value_of-numeral base n low high

-- Two numbers with one numeral are equal.
pub numeral_injective : (base m n : ℕ) → 2 ≤ base → base ≤ 36 → numeral base m ≡ numeral base n → m ≡ n
numeral_injective base m n low high e = sym (value_of-numeral base m low high) ∙ ap (value_of base) e ∙ value_of-numeral base n low high

-- leading zeros change nothing, even if the widths differ
pub padded_injective : (base v w m n : ℕ) → 2 ≤ base → base ≤ 36 → pad_zeros v (numeral base m) ≡ pad_zeros w (numeral base n) → m ≡ n
padded_injective base v w m n low high e = sym (value_of-padded base v m low high) ∙ ap (value_of base) e
    ∙ value_of-padded base w n low high

digit_apart : (c d : ℕ) → NoDigit c → d < 16 → digit_char d ≢ c
digit_apart c d apart small e = grind (arith, nat_tests)

digits_lack : (c : ℕ) → NoDigit c → (ds : List ℕ) → AllBelowBase 16 ds → Lacks c (map digit_char ds)
digits_lack c apart [] below = tt
digits_lack c apart (d ∷ ds) below = (digit_apart c d apart below.0, digits_lack c apart ds below.1)

all_below_more : (b c : ℕ) → b ≤ c → (ds : List ℕ) → AllBelowBase b ds → AllBelowBase c ds
all_below_more b c more [] below = tt
all_below_more b c more (d ∷ ds) below = (omega (arith, below.0), all_below_more b c more ds below.1)

zero_apart : (c : ℕ) → NoDigit c → 48 ≢ c
zero_apart c apart e = grind arith

-- a byte that is no digit occurs in no numeral
pub numeral_lacks : (c base n : ℕ) → NoDigit c → 2 ≤ base → base ≤ 16 → Lacks c (numeral base n)
unfolding numeral
numeral_lacks c base zero apart low high = (zero_apart c apart, tt)
numeral_lacks c base (suc n) apart low high = digits_lack c apart _
    (all_below_more base 16 high _ (all_below_base_digits_of base (suc n) low))

zeros_lack : (c k : ℕ) (text : List ℕ) → NoDigit c → Lacks c text → Lacks c (replicate k 48 ++ text)
zeros_lack c zero text apart lacks = lacks
zeros_lack c (suc k) text apart lacks = (zero_apart c apart, zeros_lack c k text apart lacks)

-- A padded numeral lacks each byte that is no digit.
pub padded_lacks : (c base width n : ℕ) → NoDigit c → 2 ≤ base → base ≤ 16 → Lacks c (pad_zeros width (numeral base n))
unfolding pad_zeros
padded_lacks c base width n apart low high = zeros_lack c _ _ apart (numeral_lacks c base n apart low high)

-- The numeral of a number below base^k has at most k digits.
pub length-numeral-le : (base k n : ℕ) → 2 ≤ base → 0 < k → n < base ^ k → length (numeral base n) ≤ k
unfolding numeral
length-numeral-le base k zero low some small = omega arith
length-numeral-le base k (suc n) low some small = omega
    (arith, length-map (digits_of base (suc n)) digit_char, length-digits_of-le base k (suc n) low small)

-- The numeral of a number of several digits is one digit longer than that of its quotient by the base.
pub length-numeral-step : (base n : ℕ) → 2 ≤ base → base ≤ n → length (numeral base n) ≡ length (numeral base (n / base)) + 1
length-numeral-step base n low more = ap length (numeral-step base n low more)
    ∙ length-append (numeral base (n / base)) (digit_char (n % base) ∷ [])

-- The numeral of a number below the base is one digit.
pub length-numeral-digit : (base n : ℕ) → 2 ≤ base → n < base → length (numeral base n) ≡ 1
length-numeral-digit base n low small = ap length (numeral-digit base n low small)

-- A text is padded to the width if it isn't longer.
pub length-padded : (width : ℕ) (text : List ℕ) → length text ≤ width → length (pad_zeros width text) ≡ width
unfolding pad_zeros
length-padded width text fits = omega (
  arith,
  length-append (replicate (width - length text) 48) text,
  length-replicate {A = ℕ} (width - length text) 48,
)

padded_push : (width : ℕ) (text : List ℕ) (d : ℕ) → pad_zeros (suc width) (text ++ d ∷ []) ≡ pad_zeros width text ++ d ∷ []
unfolding pad_zeros
padded_push width text d =
    let less : suc width - length (text ++ d ∷ []) ≡ width - length text = omega (arith, length-append text (d ∷ [])) in
    rw less (sym (append_assoc (replicate (width - length text) 48) text (d ∷ [])))

pad_zeros-zero : (width : ℕ) → pad_zeros (suc width) (48 ∷ []) ≡ pad_zeros (suc width) []
unfolding pad_zeros
pad_zeros-zero width =
    let less : suc width - 1 ≡ width = omega arith in
    let same : width + 1 ≡ suc width - 0 = omega arith in
    rw (less, append-nil) (replicate_more width 48 ∙ ap (λ k. replicate k 48) same)

pad_zeros-small : (base width n : ℕ) → 2 ≤ base → n < base →
    pad_zeros (suc (suc width)) (numeral base n) ≡ pad_zeros (suc width) (numeral base 0) ++ digit_char n ∷ []
unfolding numeral
pad_zeros-small base width n low small =
    ap (pad_zeros (suc (suc width))) (numeral-digit base n low small)
    ∙ padded_push (suc width) [] (digit_char n)
    ∙ ap (λ t. t ++ digit_char n ∷ []) (sym (pad_zeros-zero width))

-- a padded number ends with the digit of its remainder
pub pad_zeros-step : (base width n : ℕ) → 2 ≤ base →
    pad_zeros (suc (suc width)) (numeral base n) ≡ pad_zeros (suc width) (numeral base (n / base))
    ++ digit_char (n % base) ∷ []
pad_zeros-step base width n low =
    ⊎_elim
    (λ small. pad_zeros-small base width n low small ∙ (λ i. pad_zeros (suc width) (numeral base (sym (div-eq_of_lt small) i))
    ++ digit_char (sym (mod-eq_of_lt small) i) ∷ []))
    (λ more. ap (pad_zeros (suc (suc width))) (numeral-step base n low more)
    ∙ padded_push (suc width) (numeral base (n / base)) (digit_char (n % base)))
    (cases_lt n base)

-- a number below the base, padded to one digit
pub pad_zeros-digit : (base n : ℕ) → 2 ≤ base → n < base → pad_zeros 1 (numeral base n) ≡ digit_char n ∷ []
unfolding pad_zeros
pad_zeros-digit base n low small = ap (pad_zeros 1) (numeral-digit base n low small)
