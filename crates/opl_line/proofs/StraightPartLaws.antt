-- A number read in its one form is written in the same form.
use Rattle.std.proofs.Common.{◌≡◌, ◌≢◌, ℕ, ℤ, zero, suc, ◌+◌, ◌-◌, ◌*◌, ◌/◌, ◌%◌, ◌^◌, ◌<◌, ◌≤◌, Bool, true, false, eqb, List, [], ◌∷◌}
use Rattle.std.proofs.Common.{◌++◌, length, take, drop, get_or, cond, leb, ◌⊎◌, ⊎_elim, Ok, Err, refl, sym, ap, ◌∙◌, arith, append_assoc}
use Rattle.std.proofs.lemmas.Bool.{and_parts, leb-true, eqb-true, false≢true}
use Rattle.std.proofs.lemmas.Bool.Decides.{nat_tests}
use Rattle.std.proofs.Math.Nat.{pow-succ', pow-le-pow_right, mul-pos, mul-lt-mul_of_pos_right}
use Rattle.std.proofs.lemmas.Nat.{pow-add}
use Rattle.std.proofs.lemmas.List.{append-nil, take-append-drop, take_rest, length-take-le, drop-drop}
use Rattle.std.specs.List.{list_all, fold}
use Rattle.std.specs.Char.{is_ascii_digit, digit_char}
use Rattle.osm_model.specs.Numeral.{numeral, pad_zeros}
use Rattle.osm_model.specs.Decimal.{number_text, integer_text}
use Rattle.osm_model.specs.Coordinate.{without_last_zeros, fraction_text, degrees_text, coordinate_text}
use Rattle.osm_model.proofs.NumeralLaws.{numeral-step, numeral-digit, pad_zeros-step, pad_zeros-digit}
use Rattle.osm_model.proofs.CoordinateLaws.{fraction_next, fraction_is}
use Rattle.opl_line.specs.Number.{with_digit, decimal_value, is_negative, without_sign, with_sign, reading_units}
use Rattle.opl_line.specs.declared.reason.OplReason.TheVariants.{OutOfRange}
use Rattle.opl_line.proofs.CanonicalLaws.{numeral_is}
use Rattle.opl_line.proofs.NumberLaws.{numeral_below}

digit_back : (d : ℕ) → is_ascii_digit d ≡ true → digit_char (d - 48) ≡ d
digit_back d is = grind (arith, nat_tests)

-- the range of a digit
pub record IsDigit (d : ℕ) : Type 0 where
  pub low : 48 ≤ d
  pub high : d ≤ 57

pub digit : (d : ℕ) → is_ascii_digit d ≡ true → IsDigit d
digit d is = let range = and_parts _ _ is in record { low = leb-true 48 d range.0; high = leb-true d 57 range.1 }

-- the text of a number of one digit is the digit
number_one : (d : ℕ) → is_ascii_digit d ≡ true → number_text (with_digit 0 d) ≡ d ∷ []
unfolding number_text
number_one d is =
    let range = digit d is in
    let low = range.low in
    let high = range.high in
    let value : with_digit 0 d ≡ d - 48 = omega arith in
    ap (numeral 10) value ∙ numeral-digit 10 (d - 48) (omega arith) (omega arith) ∙ ap (λ c. c ∷ []) (digit_back d is)

-- a further digit after a number above 0 is appended to its text
number_more : (n d : ℕ) → 0 < n → is_ascii_digit d ≡ true → number_text (with_digit n d) ≡ number_text n ++ d ∷ []
unfolding number_text
number_more n d some is =
    let range = digit d is in
    let low = range.low in
    let high = range.high in
    let front : with_digit n d / 10 ≡ n = omega arith in
    let last : with_digit n d % 10 ≡ d - 48 = omega arith in
    numeral-step 10 (with_digit n d) (omega arith) (omega arith)
    ∙ (λ i. numeral 10 (front i) ++ (ap digit_char last ∙ digit_back d is) i ∷ [])

numbers_more : (n : ℕ) (ds : List ℕ) → 0 < n → list_all is_ascii_digit ds ≡ true → number_text (fold with_digit n ds) ≡ number_text n ++ ds
numbers_more n [] some all = sym (append-nil (number_text n))
numbers_more n (d ∷ ds) some all =
    let parts = and_parts (is_ascii_digit d) (list_all is_ascii_digit ds) all in
    numbers_more (with_digit n d) ds (omega arith) parts.1 ∙ ap (λ t. t ++ ds) (number_more n d some parts.0)
    ∙ append_assoc (number_text n) (d ∷ []) ds

positive_first : (d : ℕ) → 48 ≤ d → d ≢ 48 → 0 < with_digit 0 d
positive_first d low apart = grind arith

-- the text of a number is the digits that write it, if they have no leading zero
pub numeral_text : (ds : List ℕ) → 0 < length ds → list_all is_ascii_digit ds ≡ true → (1 < length ds → get_or ds 0 0 ≢ 48) →
    number_text (decimal_value ds) ≡ ds
numeral_text [] some all first = absurd (omega arith)
numeral_text (d ∷ []) some all first = number_one d (and_parts (is_ascii_digit d) true all).0
numeral_text (d ∷ e ∷ es) some all first =
    let parts = and_parts (is_ascii_digit d) (list_all is_ascii_digit (e ∷ es)) all in
    let range = digit d parts.0 in
    let low = range.low in
    let apart = first (omega arith) in
    let more : 0 < with_digit 0 d = positive_first d low apart in
    numbers_more (with_digit 0 d) (e ∷ es) more parts.1 ∙ ap (λ t. t ++ e ∷ es) (number_one d parts.0)

next_decimal : (width n d : ℕ) → is_ascii_digit d ≡ true →
    pad_zeros (suc (suc width)) (number_text (with_digit n d)) ≡ pad_zeros (suc width) (number_text n) ++ d ∷ []
unfolding number_text
next_decimal width n d is =
    let range = digit d is in
    let low = range.low in
    let high = range.high in
    let front : with_digit n d / 10 ≡ n = omega arith in
    let last : with_digit n d % 10 ≡ d - 48 = omega arith in
    pad_zeros-step 10 width (with_digit n d) (omega arith)
    ∙ (λ i. pad_zeros (suc width) (numeral 10 (front i)) ++ (ap digit_char last ∙ digit_back d is) i ∷ [])

-- digits that follow a number are appended to its padded text
decimals_more : (width n : ℕ) (ds : List ℕ) → list_all is_ascii_digit ds ≡ true →
    pad_zeros (length ds + suc width) (number_text (fold with_digit n ds)) ≡ pad_zeros (suc width) (number_text n) ++ ds
decimals_more width n [] all =
    let same : 0 + suc width ≡ suc width = omega arith in
    ap (λ w. pad_zeros w (number_text n)) same ∙ sym (append-nil _)
decimals_more width n (d ∷ ds) all =
    let parts = and_parts (is_ascii_digit d) (list_all is_ascii_digit ds) all in
    let wide : suc (length ds) + suc width ≡ length ds + suc (suc width) = omega arith in
    ap (λ w. pad_zeros w (number_text (fold with_digit (with_digit n d) ds))) wide
    ∙ decimals_more (suc width) (with_digit n d) ds parts.1
    ∙ ap (λ t. t ++ ds) (next_decimal width n d parts.0)
    ∙ append_assoc (pad_zeros (suc width) (number_text n)) (d ∷ []) ds

first_decimal : (d : ℕ) → is_ascii_digit d ≡ true → pad_zeros 1 (number_text (with_digit 0 d)) ≡ d ∷ []
unfolding number_text
first_decimal d is =
    let range = digit d is in
    let low = range.low in
    let high = range.high in
    let value : with_digit 0 d ≡ d - 48 = omega arith in
    ap (λ n. pad_zeros 1 (numeral 10 n)) value ∙ pad_zeros-digit 10 (d - 48) (omega arith) (omega arith)
    ∙ ap (λ c. c ∷ []) (digit_back d is)

decimals_are : (ds : List ℕ) → 0 < length ds → list_all is_ascii_digit ds ≡ true →
    pad_zeros (length ds) (number_text (decimal_value ds)) ≡ ds
decimals_are [] some all = absurd (omega arith)
decimals_are (d ∷ ds) some all =
    let parts = and_parts (is_ascii_digit d) (list_all is_ascii_digit ds) all in
    let wide : suc (length ds) ≡ length ds + 1 = omega arith in
    ap (λ w. pad_zeros w (number_text (fold with_digit (with_digit 0 d) ds))) wide
    ∙ decimals_more 0 (with_digit 0 d) ds parts.1
    ∙ ap (λ t. t ++ ds) (first_decimal d parts.0)

power_some : (k : ℕ) → 0 < 10 ^ k
power_some k = let some : 0 < 10 = omega arith in let low : 0 ≤ k = omega arith in
    let power : 10 ^ 0 ≤ 10 ^ k = pow-le-pow_right some low in omega arith

times : (a b : ℕ) → a * (10 * b) ≡ 10 * (a * b)
times a b = grind arith

several : (digits zeros : ℕ) → 0 < digits → 0 < 10 * (digits * 10 ^ zeros)
several digits zeros some = let power = power_some zeros in let all = mul-pos some power in omega arith

scaled_below : (zeros places digits : ℕ) → digits < 10 ^ places → 10 * (digits * 10 ^ zeros) < 10 ^ (suc zeros + places)
scaled_below zeros places digits fits =
    let less : digits * 10 ^ zeros < 10 ^ places * 10 ^ zeros = mul-lt-mul_of_pos_right fits (power_some zeros) in
    let order : suc zeros + places ≡ suc (places + zeros) = omega arith in
    let all : 10 ^ (suc zeros + places) ≡ 10 * (10 ^ places * 10 ^ zeros) = ap (λ k. 10 ^ k) order ∙ pow-succ' 10 (places + zeros)
    ∙ ap (λ n. 10 * n) (pow-add 10 places zeros) in
    rw all (omega arith)

-- zeros after decimals don't change the decimals without the zeros at their end
scaled : (zeros places digits : ℕ) → 0 < digits → digits < 10 ^ places →
    without_last_zeros (pad_zeros (zeros + places) (number_text (digits * 10 ^ zeros)))
    ≡ without_last_zeros (pad_zeros places (number_text digits))
scaled zero places digits some fits =
    let same : digits * 10 ^ 0 ≡ digits = omega arith in
    let width : zero + places ≡ places = omega arith in
    λ i. without_last_zeros (pad_zeros (width i) (number_text (same i)))
scaled (suc zeros) places digits some fits =
    let power : 10 ^ suc zeros ≡ 10 * 10 ^ zeros = pow-succ' 10 zeros in
    let n = digits * 10 ^ zeros in
    let wide : digits * 10 ^ suc zeros ≡ 10 * n = rw power (times digits (10 ^ zeros)) in
    let front : 10 * n / 10 ≡ n = omega arith in
    let less : suc zeros + places - 1 ≡ zeros + places = omega arith in
    let step = fraction_next (suc zeros + places) (10 * n) (several digits zeros some) (scaled_below zeros places digits fits)
    (omega arith) in
    ap (λ k. without_last_zeros (pad_zeros (suc zeros + places) (number_text k))) wide
    ∙ step.2
    ∙ (λ i. without_last_zeros (pad_zeros (less i) (number_text (front i))))
    ∙ scaled zeros places digits some fits

positive_last : (v : ℕ) → v % 10 ≢ 0 → 0 < v
positive_last zero last = absurd (last refl)
positive_last (suc v) last = omega arith

-- decimals whose last digit isn't 0 are those of the fraction's text
pub fraction_read : (ds : List ℕ) → length ds ≤ 7 → list_all is_ascii_digit ds ≡ true → decimal_value ds % 10 ≢ 0 →
    fraction_text (decimal_value ds * 10 ^ (7 - length ds)) ≡ 46 ∷ ds
fraction_read [] few all last = absurd (last refl)
fraction_read (d ∷ ds) few all last =
    let k = length (d ∷ ds) in
    let v = decimal_value (d ∷ ds) in
    let fits : v < 10 ^ k = numeral_below (d ∷ ds) k (numeral_is (d ∷ ds) (omega arith) all) (omega arith) in
    let some : 0 < v = positive_last v last in
    let wide : 7 - k + k ≡ 7 = omega arith in
    let same : without_last_zeros (pad_zeros 7 (number_text (v * 10 ^ (7 - k)))) ≡ without_last_zeros (pad_zeros k (number_text v)) =
    ap (λ w. without_last_zeros (pad_zeros w (number_text (v * 10 ^ (7 - k))))) (sym wide) ∙ scaled (7 - k) k v some fits in
    fraction_is k v (v * 10 ^ (7 - k)) (mul-pos some (power_some (7 - k))) fits last (sym same)
    ∙ ap (λ t. 46 ∷ t) (decimals_are (d ∷ ds) (omega arith) all)

pub fraction_below : (v k : ℕ) → k ≤ 7 → v < 10 ^ k → v * 10 ^ (7 - k) < 10_000_000
fraction_below v k few fits =
    let less : v * 10 ^ (7 - k) < 10 ^ k * 10 ^ (7 - k) = mul-lt-mul_of_pos_right fits (power_some (7 - k)) in
    let wide : k + (7 - k) ≡ 7 = omega arith in
    let all : 10 ^ k * 10 ^ (7 - k) ≡ 10_000_000 = sym (pow-add 10 k (7 - k)) ∙ ap (λ w. 10 ^ w) wide in
    rw all at less

-- The text of degrees is that of the whole degrees and that of the fraction.
pub degrees_read : (whole units : ℕ) → units < 10_000_000 →
    degrees_text (whole * 10_000_000 + units) ≡ number_text whole ++ fraction_text units
unfolding degrees_text
degrees_read whole units small =
    let front : (whole * 10_000_000 + units) / 10_000_000 ≡ whole = omega arith in
    let rest : (whole * 10_000_000 + units) % 10_000_000 ≡ units = omega arith in
    λ i. number_text (front i) ++ fraction_text (rest i)

-- The text of no fraction is empty.
pub no_fraction : fraction_text 0 ≡ []
unfolding fraction_text
no_fraction = refl

-- a sign, and the text after it
sign_of : Bool → List ℕ
sign_of negative = cond negative (45 ∷ []) []

sign_split : (text : List ℕ) → text ≡ sign_of (is_negative text) ++ without_sign text
unfolding sign_of
sign_split [] = refl
sign_split (b ∷ bs) =
    elim (eqb b 45) as (λ t. eqb b 45 ≡ t → b ∷ bs ≡ cond t (45 ∷ []) [] ++ cond t bs (b ∷ bs)) [
      | true ↦ λ is. ap (λ c. c ∷ bs) (eqb-true b 45 is)
      | false ↦ λ is. refl
    ] refl

integer_signed : (negative : Bool) (n : ℕ) → (negative ≡ true → 0 < n) →
    integer_text (with_sign negative n) ≡ sign_of negative ++ number_text n
unfolding integer_text sign_of
integer_signed true zero some = absurd (omega (arith, some refl))
integer_signed true (suc n) some = refl
integer_signed false n some = refl

coordinate_signed : (negative : Bool) (n : ℕ) → (negative ≡ true → 0 < n) →
    coordinate_text (with_sign negative n) ≡ sign_of negative ++ degrees_text n
unfolding coordinate_text sign_of
coordinate_signed true zero some = absurd (omega (arith, some refl))
coordinate_signed true (suc n) some = refl
coordinate_signed false n some = refl

-- a sign before a number above 0
pub some_signed : (negative known : Bool) (n : ℕ) → negative ≡ known → (negative ≡ true × (n ≡ 0 → ⊥)) ⊎ (negative ≡ false) → known ≡ true →
    0 < n
some_signed negative known n same either is = ⊎_elim (λ other. above n other.1) (λ none. absurd (false≢true (sym none ∙ same ∙ is))) either
  where
    above : (n : ℕ) → (n ≡ 0 → ⊥) → 0 < n
    above zero other = absurd (other refl)
    above (suc n) other = omega arith

-- Units that are read with a sign are the number with that sign.
pub place_is : (negative : Bool) (n : ℕ) (place : ℤ) → reading_units negative n ≡ Ok place → with_sign negative n ≡ place
place_is negative n place e =
    elim (leb n (cond negative 2_147_483_648 2_147_483_647)) as
    (λ t. cond t (Ok (with_sign negative n)) (Err OutOfRange) ≡ Ok place → with_sign negative n ≡ place) [
      | true ↦ λ read. cc
      | false ↦ λ read. cc
    ] e

-- A sign and the text of a number are the text of an integer.
pub integer_read : (text after : List ℕ) (n : ℕ) → (is_negative text ≡ true → 0 < n) → without_sign text ≡ number_text n ++ after →
    text ≡ integer_text (with_sign (is_negative text) n) ++ after
integer_read text after n some is =
    sign_split text ∙ ap (λ t. sign_of (is_negative text) ++ t) is ∙ sym (append_assoc (sign_of (is_negative text)) (number_text n) after)
    ∙ ap (λ t. t ++ after) (sym (integer_signed (is_negative text) n some))

-- A sign and the text of degrees are the text of a coordinate.
pub place_read : (text after : List ℕ) (n : ℕ) → (is_negative text ≡ true → 0 < n) → without_sign text ≡ degrees_text n ++ after →
    text ≡ coordinate_text (with_sign (is_negative text) n) ++ after
place_read text after n some is =
    sign_split text ∙ ap (λ t. sign_of (is_negative text) ++ t) is ∙ sym (append_assoc (sign_of (is_negative text)) (degrees_text n) after)
    ∙ ap (λ t. t ++ after) (sym (coordinate_signed (is_negative text) n some))

-- if a text doesn't begin with a zero, neither does its front
pub no_zero : (text : List ℕ) (count : ℕ) → get_or text 0 0 ≢ 48 → 1 < length (take count text) → get_or (take count text) 0 0 ≢ 48
no_zero [] zero other more = absurd (omega arith)
no_zero [] (suc count) other more = absurd (omega arith)
no_zero (b ∷ bs) zero other more = absurd (omega arith)
no_zero (b ∷ bs) (suc count) other more = other

-- `count` digits write a number below 10^`count`
below_power_of : (digits : List ℕ) (count : ℕ) → list_all is_ascii_digit digits ≡ true → length digits ≡ count →
    decimal_value digits < 10 ^ count
below_power_of [] zero all long = omega arith
below_power_of [] (suc count) all long = absurd (omega (arith, long))
below_power_of (d ∷ ds) count all long = numeral_below (d ∷ ds) count (numeral_is (d ∷ ds) (omega arith) all) (omega (arith, long))

-- Up to 7 decimals, as units, are below one degree.
pub fraction_fits : (text : List ℕ) (count n scale : ℕ) → count ≤ length text → count ≤ 7 →
    list_all is_ascii_digit (take count text) ≡ true → n ≡ decimal_value (take count text) → scale ≡ 10 ^ (7 - count) →
    n * scale < 10_000_000
fraction_fits text count n scale within few all value by =
    let long : length (take count text) ≡ count = length-take-le count text within in
    let fits : decimal_value (take count text) < 10 ^ count = below_power_of (take count text) count all long in
    rw (value, by) (fraction_below (decimal_value (take count text)) count few fits)

-- a point and the decimals after it are a fraction's text
pub fraction_front : (text decimals : List ℕ) (count n scale : ℕ) → decimals ≡ drop 1 text → get_or text 0 0 ≡ 46 →
    count ≤ length decimals → count ≤ 7 → list_all is_ascii_digit (take count decimals) ≡ true →
    n ≡ decimal_value (take count decimals) → scale ≡ 10 ^ (7 - count) → n % 10 ≢ 0 →
    text ≡ fraction_text (n * scale) ++ take (length text - (1 + count)) (drop (1 + count) text)
fraction_front [] decimals count n scale is point within few all value by last = absurd (omega (arith, point))
fraction_front (b ∷ bs) decimals count n scale is point within few all value by last =
    let digits = take count decimals in
    let long : length digits ≡ count = length-take-le count decimals within in
    let units : n * scale ≡ decimal_value digits * 10 ^ (7 - length digits) = rw (value, by, long) refl in
    let spelled : fraction_text (n * scale) ≡ 46 ∷ digits = ap fraction_text units
    ∙ fraction_read digits (omega (arith, long)) all (λ e. last (ap (λ v. v % 10) value ∙ e)) in
    let after : drop count decimals ≡ take (length (b ∷ bs) - (1 + count)) (drop (1 + count) (b ∷ bs)) =
    ap (drop count) is ∙ drop-drop count 1 (b ∷ bs) ∙ sym (take_rest (b ∷ bs) (1 + count)) in
    ap (λ t. t ∷ bs) point
    ∙ ap (λ t. 46 ∷ t) (sym is ∙ sym (take-append-drop count decimals))
    ∙ (λ i. sym spelled i ++ after i)
