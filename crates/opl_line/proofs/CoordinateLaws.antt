-- Coordinates are read back.
use Rattle.std.proofs.Common.{◌≡◌, ℕ, pos, negsuc, suc, ◌+◌, ◌-◌, ◌*◌, ◌/◌, ◌%◌, ◌^◌, ◌<◌, ◌≤◌, true, false, not, cond, eqb, ◌&&◌, List, []}
use Rattle.std.proofs.Common.{◌∷◌, ◌++◌, length, fold, Ok, Err, refl, sym, ap, ◌∙◌, append-nil, arith}
use Rattle.std.proofs.lemmas.Bool.{and_parts, eqb-true, eqb-false, le-leb}
use Rattle.std.proofs.lemmas.Bool.Decides.{nat_tests}
use Rattle.std.proofs.Math.Nat.{pow-succ'}
use Rattle.std.specs.List.{list_all}
use Rattle.std.specs.Char.{is_ascii_digit}
use Rattle.osm_model.specs.Numeral.{pad_zeros}
use Rattle.osm_model.specs.Decimal.{number_text}
use Rattle.osm_model.specs.Coordinate.{digit_before, without_last_zeros, fraction_text, degrees_text, coordinate_text}
use Rattle.osm_model.proofs.NumeralLaws.{length-padded}
use Rattle.osm_model.proofs.DecimalLaws.{length-number-le}
use Rattle.opl_line.specs.declared.bytes.cut.Delimiter.TheVariants.{Points}
use Rattle.opl_line.specs.declared.reason.OplReason.TheVariants.{BadCoordinate, OutOfRange}
use Rattle.opl_line.specs.Results.{and_then, as_value}
use Rattle.opl_line.specs.Delimiter.{is_end}
use Rattle.opl_line.specs.Number.{with_digit, decimal_value, is_negative, without_sign, with_sign, reading_short_numeral, decimals_value}
use Rattle.opl_line.specs.Number.{reading_degrees, reading_units, degree_parts}
use Rattle.opl_line.specs.Canonical.{CoordinateIsReadBack}
use Rattle.opl_line.proofs.CutLaws.{split_front, split_never}
use Rattle.opl_line.proofs.ContentLaws.{all_weaker}
use Rattle.opl_line.proofs.CanonicalLaws.{IsRead, zeros_read, decimal, numeral_is, minus_apart}

short_read : (text : List ℕ) (most n : ℕ) → IsRead 10 with_digit is_ascii_digit n text → length text ≤ most →
    reading_short_numeral most text ≡ Ok n
short_read text most n is few =
    (λ i. cond (numeral_is text is.some is.digits i && le-leb (length text) most few i) (Ok (decimal_value text)) (Err BadCoordinate))
    ∙ ap (λ v. Ok v) is.value

-- digits, and the digits without the zeros at their end
pub record Trimmed (n : ℕ) (digits left : List ℕ) : Type 0 where
  pub value : fold with_digit n digits ≡ fold with_digit n left * 10 ^ (length digits - length left)
  pub short : length left ≤ length digits
  pub all : list_all is_ascii_digit left ≡ true

trimmed_before : (n d : ℕ) (digits left : List ℕ) → is_ascii_digit d ≡ true → Trimmed (with_digit n d) digits left →
    Trimmed n (d ∷ digits) (digit_before d left)
trimmed_before n d digits [] is rest =
    elim (eqb d 48) as (λ t. eqb d 48 ≡ t → Trimmed n (d ∷ digits) (cond t [] (d ∷ []))) [
      | true ↦ λ zero_digit.
          let power : 10 ^ suc (length digits) ≡ 10 * 10 ^ length digits = pow-succ' 10 (length digits) in
          let whole : length digits - 0 ≡ length digits = omega arith in
          let no_less : suc (length digits) - 0 ≡ suc (length digits) = omega arith in
          let none : d ≡ 48 = eqb-true d 48 zero_digit in
          let ten : with_digit n d ≡ 10 * n = omega arith in
          let all : fold with_digit (with_digit n d) digits ≡ (10 * n) * 10 ^ length digits = rest.value
          ∙ ap (λ k. with_digit n d * 10 ^ k) whole ∙ ap (λ v. v * 10 ^ length digits) ten in
          record {
            value = all ∙ (let e : (10 * n) * 10 ^ length digits ≡ n * 10 ^ (suc (length digits) - 0) =
                rw (no_less, power) (omega arith) in e);
            short = omega arith;
            all = refl;
          }
      | false ↦ λ other.
          let same : suc (length digits) - 1 ≡ length digits - 0 = omega arith in
          record { value = rest.value ∙ ap (λ k. with_digit n d * 10 ^ k) (sym same); short = omega arith; all = ap (λ t. t && true) is }
    ] refl
trimmed_before n d digits (e ∷ es) is rest =
    let same : suc (length digits) - suc (suc (length es)) ≡ length digits - suc (length es) = omega arith in
    let short = rest.short in
    record {
      value = rest.value ∙ ap (λ k. fold with_digit (with_digit n d) (e ∷ es) * 10 ^ k) (sym same);
      short = omega arith;
      all = ap (λ t. t && list_all is_ascii_digit (e ∷ es)) is ∙ rest.all;
    }

-- Digits without their last zeros keep their value as decimals.
pub trimmed : (n : ℕ) (digits : List ℕ) → list_all is_ascii_digit digits ≡ true → Trimmed n digits (without_last_zeros digits)
unfolding without_last_zeros
trimmed n [] all = record { value = omega arith; short = omega arith; all = refl }
trimmed n (d ∷ ds) all =
    let parts = and_parts (is_ascii_digit d) (list_all is_ascii_digit ds) all in
    trimmed_before n d ds (without_last_zeros ds) parts.0 (trimmed (with_digit n d) ds parts.1)

-- the decimals of a part of a degree
record Decimals (units : ℕ) (text : List ℕ) : Type 0 where
  some : 0 < length text
  few : length text ≤ 7
  all : list_all is_ascii_digit text ≡ true
  value : decimals_value text (decimal_value text) ≡ units

some_left : (units : ℕ) (digits left : List ℕ) → (units ≡ 0 → ⊥) → fold with_digit 0 digits ≡ units → Trimmed 0 digits left →
    0 < length left
some_left units digits [] other value t = absurd (other
    (sym value ∙ t.value ∙ (let e : 0 * 10 ^ (length digits - 0) ≡ 0 = omega arith in e)))
some_left units digits (d ∷ ds) other value t = omega arith

decimals : (units : ℕ) → units < 10_000_000 → (units ≡ 0 → ⊥) → Decimals units (without_last_zeros (pad_zeros 7 (number_text units)))
unfolding pad_zeros
decimals units small other =
    let short = length-number-le 7 units (omega arith) small in
    let wide : length (pad_zeros 7 (number_text units)) ≡ 7 = length-padded 7 (number_text units) short in
    let is = zeros_read 10 with_digit is_ascii_digit (7 - length (number_text units)) units (number_text units) refl refl (decimal units) in
    let t = trimmed 0 (pad_zeros 7 (number_text units)) is.digits in
    let few = t.short in
    record {
      some = some_left units (pad_zeros 7 (number_text units)) (without_last_zeros (pad_zeros 7 (number_text units))) other is.value t;
      few = omega arith;
      all = t.all;
      value = ap (λ k. decimal_value (without_last_zeros (pad_zeros 7 (number_text units))) * 10 ^
          (k - length (without_last_zeros (pad_zeros 7 (number_text units))))) (sym wide) ∙ sym t.value ∙ is.value;
    }

-- A digit is no point.
pub no_point : (b : ℕ) → is_ascii_digit b ≡ true → not (eqb b 46) ≡ true
no_point b e = grind (arith, nat_tests)

degrees_read : (units : ℕ) → units < 2 ^ 32 → reading_degrees (degree_parts (degrees_text units)).0 (degree_parts (degrees_text units)).1
    ≡ Ok units
unfolding degrees_text fraction_text
degrees_read units small =
    let whole = number_text (units / 10_000_000) in
    let part = units % 10_000_000 in
    let is = decimal (units / 10_000_000) in
    let lacks = all_weaker is_ascii_digit (λ b. not (eqb b 46)) no_point whole is.digits in
    let read = short_read whole 3 (units / 10_000_000) is (length-number-le 3 (units / 10_000_000) (omega arith) (omega arith)) in
    elim (eqb part 0) as (λ t. eqb part 0 ≡ t → reading_degrees
    (degree_parts (whole ++ cond t [] (46 ∷ without_last_zeros (pad_zeros 7 (number_text part))))).0
    (degree_parts (whole ++ cond t [] (46 ∷ without_last_zeros (pad_zeros 7 (number_text part))))).1 ≡ Ok units) [
      | true ↦ λ none.
          let zero_part : part ≡ 0 = eqb-true part 0 none in
          ap (λ t. reading_degrees (degree_parts t).0 (degree_parts t).1) (append-nil whole)
          ∙ ap (λ p. reading_degrees p.0 p.1) (split_never (is_end Points) whole lacks)
          ∙ ap (as_value (λ n. n * 10_000_000)) read
          ∙ ap (λ n. Ok n) (let e : units / 10_000_000 * 10_000_000 ≡ units = omega arith in e)
      | false ↦ λ some.
          let d = decimals part (omega arith) (λ e. eqb-false part 0 some e) in
          let text = without_last_zeros (pad_zeros 7 (number_text part)) in
          let read_part : reading_short_numeral 7 text ≡ Ok (decimal_value text) =
          short_read text 7 (decimal_value text) (record { value = refl; digits = d.all; some = d.some }) d.few in
          ap (λ p. reading_degrees p.0 p.1) (split_front (is_end Points) whole text 46 lacks refl)
          ∙ ap (λ r. and_then r (λ n. as_value (λ m. n * 10_000_000 + decimals_value text m) (reading_short_numeral 7 text))) read
          ∙ ap (as_value (λ m. units / 10_000_000 * 10_000_000 + decimals_value text m)) read_part
          ∙ ap (λ n. Ok n) (let v = d.value in let e : units / 10_000_000 * 10_000_000 + decimals_value text (decimal_value text) ≡ units =
          omega arith in e)
    ] refl

no_sign : (text rest : List ℕ) → 0 < length text → list_all is_ascii_digit text ≡ true →
    (is_negative (text ++ rest) ≡ false) × (without_sign (text ++ rest) ≡ text ++ rest)
no_sign [] rest some all = absurd (omega arith)
no_sign (b ∷ bs) rest some all =
    let other = minus_apart b (and_parts (is_ascii_digit b) (list_all is_ascii_digit bs) all).0 in
    (other, ap (λ t. cond t (bs ++ rest) (b ∷ (bs ++ rest))) other)

degrees_unsigned : (units : ℕ) → (is_negative (degrees_text units) ≡ false) × (without_sign (degrees_text units) ≡ degrees_text units)
unfolding degrees_text
degrees_unsigned units = let is = decimal (units / 10_000_000) in
    no_sign (number_text (units / 10_000_000)) (fraction_text (units % 10_000_000)) is.some is.digits

-- The text of a coordinate is read as the coordinate.
pub coordinate_is_read_back : CoordinateIsReadBack
unfolding coordinate_text
coordinate_is_read_back (pos n) is =
    let u = degrees_unsigned n in
    let small : n < 2 ^ 31 = is.sfits in
    (λ i. and_then (reading_degrees (degree_parts (u.1 i)).0 (degree_parts (u.1 i)).1) (reading_units (u.0 i)))
    ∙ ap (λ r. and_then r (reading_units false)) (degrees_read n (omega arith))
    ∙ ap (λ t. cond t (Ok (with_sign false n)) (Err OutOfRange)) (le-leb n 2_147_483_647 (omega arith))
coordinate_is_read_back (negsuc n) is =
    let small : n < 2 ^ 31 = is.sfits in
    ap (λ r. and_then r (reading_units true)) (degrees_read (suc n) (omega arith))
    ∙ ap (λ t. cond t (Ok (with_sign true (suc n))) (Err OutOfRange)) (le-leb (suc n) 2_147_483_648 (omega arith))
