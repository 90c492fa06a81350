-- The text of a coordinate determines the coordinate, and has no separator.
use Rattle.std.proofs.Common.{◌≡◌, ◌≢◌, ℕ, zero, suc, ◌+◌, ◌-◌, ◌/◌, ◌%◌, ◌^◌, ◌<◌, cond, eqb, true, false, List, [], ◌∷◌, ◌++◌, length}
use Rattle.std.proofs.Common.{replicate, refl, sym, ap, ◌∙◌, arith, ℤ, pos, negsuc, inl}
use Rattle.std.specs.Char.{digit_char}
use Rattle.std.proofs.lemmas.Bool.{eqb-true}
use Rattle.std.proofs.lemmas.Bool.Decides.{nat_tests}
use Rattle.std.proofs.lemmas.List.{append-nil, length-append, length-replicate}
use Rattle.osm_model.specs.Numeral.{numeral, pad_zeros}
use Rattle.osm_model.specs.Decimal.{number_text}
use Rattle.osm_model.specs.Coordinate.{digit_before, without_last_zeros, fraction_text, degrees_text, coordinate_text}
use Rattle.osm_model.proofs.Separators.{Lacks, NoDigit, IsSeparator, no_digit-separator, mark-separator, split_same, lacks_append}
use Rattle.osm_model.proofs.Separators.{lacks_clash}
use Rattle.osm_model.proofs.NumeralLaws.{padded_injective, padded_lacks, pad_zeros-step, pad_zeros-digit, length-padded}
use Rattle.osm_model.proofs.DecimalLaws.{number_injective, number_lacks_mark, length-number-le}

without_last_zeros-zero : (xs : List ℕ) → without_last_zeros (xs ++ 48 ∷ []) ≡ without_last_zeros xs
unfolding without_last_zeros
without_last_zeros-zero [] = refl
without_last_zeros-zero (x ∷ xs) = ap (digit_before x) (without_last_zeros-zero xs)

digit_before-some : (x d : ℕ) (xs : List ℕ) → digit_before x (xs ++ d ∷ []) ≡ x ∷ (xs ++ d ∷ [])
digit_before-some x d [] = refl
digit_before-some x d (y ∷ xs) = refl

without_last_zeros-digit : (xs : List ℕ) (d : ℕ) → d ≢ 48 → without_last_zeros (xs ++ d ∷ []) ≡ xs ++ d ∷ []
unfolding without_last_zeros
without_last_zeros-digit [] d h = grind (arith, nat_tests)
without_last_zeros-digit (x ∷ xs) d h = ap (digit_before x) (without_last_zeros-digit xs d h) ∙ digit_before-some x d xs

-- `trimmed` lacks only zeros at the end of `xs`
abbrev HasZeros : List ℕ → List ℕ → Type 0
HasZeros xs trimmed = (k : ℕ) × (xs ≡ trimmed ++ replicate k 48)

zeros_before : (x : ℕ) (xs trimmed : List ℕ) → HasZeros xs trimmed → HasZeros (x ∷ xs) (digit_before x trimmed)
zeros_before x xs [] h =
    elim (eqb x 48) as (λ b. eqb x 48 ≡ b → HasZeros (x ∷ xs) (cond b [] (x ∷ []))) [
      | true ↦ λ e. (suc h.0, (let zero_digit = eqb-true x 48 e in let rest = h.1 in cc))
      | false ↦ λ e. (h.0, ap (λ t. x ∷ t) h.1)
    ] refl
zeros_before x xs (t ∷ ts) h = (h.0, ap (λ t. x ∷ t) h.1)

zeros_left_out : (xs : List ℕ) → HasZeros xs (without_last_zeros xs)
unfolding without_last_zeros
zeros_left_out [] = (0, refl)
zeros_left_out (x ∷ xs) = zeros_before x xs (without_last_zeros xs) (zeros_left_out xs)

without_last_zeros_injective : (xs ys : List ℕ) → length xs ≡ length ys → without_last_zeros xs ≡ without_last_zeros ys → xs ≡ ys
without_last_zeros_injective xs ys same e =
    let h = zeros_left_out xs in
    let k = zeros_left_out ys in
    let lx : length xs ≡ length (without_last_zeros xs) + h.0 = ap length h.1 ∙ length-append _ _
    ∙ ap (λ n. length (without_last_zeros xs) + n) (length-replicate h.0 48) in
    let ly : length ys ≡ length (without_last_zeros ys) + k.0 = ap length k.1 ∙ length-append _ _
    ∙ ap (λ n. length (without_last_zeros ys) + n) (length-replicate k.0 48) in
    let le : length (without_last_zeros xs) ≡ length (without_last_zeros ys) = ap length e in
    let count : h.0 ≡ k.0 = omega arith in
    h.1 ∙ (λ i. e i ++ replicate (count i) 48) ∙ sym k.1

length-decimals : (units : ℕ) → units < 10_000_000 → length (pad_zeros 7 (number_text units)) ≡ 7
length-decimals units small = length-padded 7 (number_text units) (length-number-le 7 units (omega arith) small)

decimals_injective : (m n : ℕ) → m < 10_000_000 → n < 10_000_000 →
    without_last_zeros (pad_zeros 7 (number_text m)) ≡ without_last_zeros (pad_zeros 7 (number_text n)) → m ≡ n
unfolding number_text
decimals_injective m n hm hn e =
    padded_injective 10 7 7 m n (omega arith) (omega arith)
    (without_last_zeros_injective _ _ (length-decimals m hm ∙ sym (length-decimals n hn)) e)

-- the text of degrees determines the whole degrees and the rest
parts_injective : (a b m n : ℕ) → m < 10_000_000 → n < 10_000_000 → number_text a ++ fraction_text m ≡ number_text b ++ fraction_text n →
    (a ≡ b) × (m ≡ n)
unfolding fraction_text
parts_injective a b m n hm hn =
    elim (eqb m 0) as (λ x. eqb m 0 ≡ x → number_text a ++ cond x [] (46 ∷ without_last_zeros (pad_zeros 7 (number_text m))) ≡ number_text b
    ++ fraction_text n → (a ≡ b) × (m ≡ n)) [
      | true ↦ λ x. elim (eqb n 0) as (λ y. eqb n 0 ≡ y →
          number_text a ++ [] ≡ number_text b ++ cond y [] (46 ∷ without_last_zeros (pad_zeros 7 (number_text n))) → (a ≡ b) × (m ≡ n)) [
            | true ↦ λ y e. (
              number_injective a b (sym (append-nil (number_text a)) ∙ e ∙ append-nil (number_text b)),
              eqb-true m 0 x
                  ∙ sym (eqb-true n 0 y),
            )
            | false ↦ λ y e. absurd (lacks_clash 46 (number_text a) (number_text b) _ (sym (append-nil (number_text a)) ∙ e)
                (number_lacks_mark 46 a (inl (omega arith))))
          ] refl
      | false ↦ λ x. elim (eqb n 0) as (λ y. eqb n 0 ≡ y →
          number_text a ++ 46 ∷ without_last_zeros (pad_zeros 7 (number_text m)) ≡ number_text b
          ++ cond y [] (46 ∷ without_last_zeros (pad_zeros 7 (number_text n))) → (a ≡ b) × (m ≡ n)) [
            | true ↦ λ y e. absurd (lacks_clash 46 (number_text b) (number_text a) _ (sym (append-nil (number_text b)) ∙ sym e)
                (number_lacks_mark 46 b (inl (omega arith))))
            | false ↦ λ y e.
                let both = split_same 46 (number_text a) (number_text b) _ _ (number_lacks_mark 46 a (inl (omega arith)))
                (number_lacks_mark 46 b (inl (omega arith))) e in
                (number_injective a b both.0, decimals_injective m n hm hn both.1)
          ] refl
    ] refl

degrees_injective : (m n : ℕ) → degrees_text m ≡ degrees_text n → m ≡ n
unfolding degrees_text
degrees_injective m n e =
    let both = parts_injective (m / 10_000_000) (n / 10_000_000) (m % 10_000_000) (n % 10_000_000) (omega arith) (omega arith) e in
    omega (arith, both.0, both.1)

last_zeros_lack : (c : ℕ) (xs : List ℕ) → Lacks c xs → Lacks c (without_last_zeros xs)
unfolding without_last_zeros
last_zeros_lack c [] lacks = tt
last_zeros_lack c (x ∷ xs) lacks = before (without_last_zeros xs) (last_zeros_lack c xs lacks.1)
  where
    before : (ts : List ℕ) → Lacks c ts → Lacks c (digit_before x ts)
    before [] h = elim (eqb x 48) as (λ b. Lacks c (cond b [] (x ∷ []))) [ true ↦ tt | false ↦ (lacks.0, tt) ]
    before (t ∷ ts) h = (lacks.0, h)

fraction_lacks : (c units : ℕ) → NoDigit c → 46 ≢ c → Lacks c (fraction_text units)
unfolding fraction_text number_text
fraction_lacks c units apart point =
    elim (eqb units 0) as (λ b. Lacks c (cond b [] (46 ∷ without_last_zeros (pad_zeros 7 (number_text units))))) [
      | true ↦ tt
      | false ↦ (point, last_zeros_lack c _ (padded_lacks c 10 7 units apart (omega arith) (omega arith)))
    ]

degrees_lack : (c units : ℕ) → NoDigit c → 46 ≢ c → Lacks c (degrees_text units)
unfolding degrees_text
degrees_lack c units apart point = lacks_append c _ _ (number_lacks_mark c _ apart) (fraction_lacks c _ apart point)

no_sign : (m n : ℕ) → degrees_text m ≡ 45 ∷ degrees_text n → ⊥
no_sign m n e = lacks_clash 45 (degrees_text m) [] (degrees_text n) e
    (degrees_lack 45 m (inl (omega arith)) (λ e. absurd (omega (arith, e))))

-- Two coordinates with one text are equal.
pub coordinate_injective : (y z : ℤ) → coordinate_text y ≡ coordinate_text z → y ≡ z
unfolding coordinate_text
coordinate_injective (pos m) (pos n) e = ap pos (degrees_injective m n e)
coordinate_injective (pos m) (negsuc n) e = absurd (no_sign m (suc n) e)
coordinate_injective (negsuc m) (pos n) e = absurd (no_sign n (suc m) (sym e))
coordinate_injective (negsuc m) (negsuc n) e =
    let rest : degrees_text (suc m) ≡ degrees_text (suc n) = cc in
    let same : suc m ≡ suc n = degrees_injective (suc m) (suc n) rest in
    let less : m ≡ n = omega arith in
    ap negsuc less

-- The text of a coordinate has no separator.
pub coordinate_lacks : {c : ℕ} (z : ℤ) → IsSeparator c → Lacks c (coordinate_text z)
unfolding coordinate_text
coordinate_lacks (pos n) s = degrees_lack _ n (no_digit-separator s) (mark-separator 46 (inl (omega arith, omega arith)) s)
coordinate_lacks (negsuc n) s = (
  mark-separator 45 (inl (omega arith, omega arith)) s,
  degrees_lack _ (suc n) (no_digit-separator s) (mark-separator 46 (inl (omega arith, omega arith)) s),
)

-- a last digit 0 can be dropped: the decimals without zeros at their end remain the same
pub fraction_next : (places digits : ℕ) → 0 < digits → digits < 10 ^ places → digits % 10 ≡ 0 →
    (0 < digits / 10) × (digits / 10 < 10 ^ (places - 1))
    × (without_last_zeros (pad_zeros places (number_text digits)) ≡ without_last_zeros (pad_zeros (places - 1) (number_text (digits / 10))))
unfolding number_text
fraction_next zero digits some fits last = absurd (omega arith)
fraction_next (suc zero) digits some fits last = absurd (omega arith)
fraction_next (suc (suc places)) digits some fits last =
    let less : suc (suc places) - 1 ≡ suc places = omega arith in
    let step = pad_zeros-step 10 places digits (omega arith)
    ∙ ap (λ d. pad_zeros (suc places) (numeral 10 (digits / 10)) ++ digit_char d ∷ []) last in (
      omega arith,
      rw less (omega arith),
      rw less (ap without_last_zeros step ∙ without_last_zeros-zero (pad_zeros (suc places) (numeral 10 (digits / 10)))),
    )

digit_char-some : (d : ℕ) → d < 10 → 0 < d → digit_char d ≢ 48
digit_char-some d small some e = grind (arith, nat_tests)

-- decimals whose last digit isn't 0 have no zeros at their end
fraction_end : (places digits : ℕ) → digits < 10 ^ places → 0 < digits % 10 →
    without_last_zeros (pad_zeros places (number_text digits)) ≡ pad_zeros places (number_text digits)
unfolding number_text
fraction_end zero digits fits some = absurd (omega arith)
fraction_end (suc zero) digits fits some =
    let only : pad_zeros 1 (numeral 10 digits) ≡ digit_char digits ∷ [] = pad_zeros-digit 10 digits (omega arith) (omega arith) in
    ap without_last_zeros only ∙ without_last_zeros-digit [] (digit_char digits) (digit_char-some digits (omega arith) (omega arith))
    ∙ sym only
fraction_end (suc (suc places)) digits fits some =
    let last = pad_zeros-step 10 places digits (omega arith) in
    ap without_last_zeros last
    ∙ without_last_zeros-digit (pad_zeros (suc places) (numeral 10 (digits / 10))) (digit_char (digits % 10))
    (digit_char-some (digits % 10) (omega arith) some) ∙ sym last

-- a fraction's text, from the digits that remain without the zeros at their end
pub fraction_is : (places digits units : ℕ) → 0 < units → digits < 10 ^ places → (digits % 10 ≡ 0 → ⊥)
    → without_last_zeros (pad_zeros places (number_text digits)) ≡ without_last_zeros (pad_zeros 7 (number_text units)) →
    fraction_text units ≡ 46 ∷ pad_zeros places (number_text digits)
unfolding fraction_text
fraction_is places digits units some fits last same =
    let no : eqb units 0 ≡ false = grind (arith, nat_tests) in
    rw no (ap (λ t. 46 ∷ t) (sym same ∙ fraction_end places digits fits (omega arith)))
