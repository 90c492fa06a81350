-- The loop of the reader: the part that was read and the part that is left determine the whole number.
use Rattle.std.proofs.Common.{◌≡◌, ℕ, zero, suc, ◌+◌, ◌-◌, ◌*◌, ◌<◌, ◌≤◌, ◌^◌, List, [], ◌∷◌, refl, ap, sym, ◌∙◌, Result, Ok, Err, arith}
use Rattle.std.proofs.Common.{length, drop, take, get_or, inl, inr, subst}
use Rattle.std.proofs.Math.Nat.{pow-le-pow_right, mul-le-mul_right}
use Rattle.std.proofs.Math.ListN.{drop_of_length-le}
use Rattle.std.proofs.lemmas.Bool.{le-ltb, lt-ltb, cases_lt}
use Rattle.std.proofs.lemmas.List.{drop_more, take_rest}
use Rattle.std.proofs.lemmas.Grind.{pow_more}
use Rattle.o5_codec.specs.declared.reason.O5Reason.{O5Reason}
use Rattle.o5_codec.specs.declared.reason.O5Reason.TheVariants.{BadNumber}
use Rattle.o5_codec.specs.Results.{and_then}
use Rattle.o5_codec.specs.Number.{groups_at, with_low, number_at, within_word}

abbrev pub scaled : ℕ → ℕ → Result (ℕ × List ℕ) O5Reason → Result (ℕ × List ℕ) O5Reason
scaled value weight (Ok x) = Ok (value + weight * x.0, x.1)
scaled value weight (Err e) = Err e

-- i bytes were read
pub record Read (bytes : List ℕ) (i value weight : ℕ) : Type 0 where
  pub power : weight ≡ 128 ^ i
  pub below : value < weight
  pub within : i ≤ length bytes
  pub left : (room : ℕ) → room + i ≡ 10 → groups_at 10 bytes ≡ scaled value weight (groups_at room (drop i bytes))

scaled_low : (value weight low : ℕ) (r : Result (ℕ × List ℕ) O5Reason) →
    scaled value weight (with_low low r) ≡ scaled (value + low * weight) (weight * 128) r
scaled_low value weight low (Ok x) =
    let e : value + weight * (low + 128 * x.0) ≡ value + low * weight + weight * 128 * x.0 = omega arith in
    ap (λ n. Ok (n, x.1)) e
scaled_low value weight low (Err e) = refl

scaled_step : (value weight room b : ℕ) (rest : List ℕ) → 128 ≤ b →
    scaled value weight (groups_at (suc room) (b ∷ rest)) ≡ scaled (value + (b - 128) * weight) (weight * 128) (groups_at room rest)
unfolding groups_at
scaled_step value weight room b rest l = rw (le-ltb b 128 l) (scaled_low value weight (b - 128) (groups_at room rest))

scaled_end : (value weight room b : ℕ) (rest : List ℕ) → b < 128 →
    scaled value weight (groups_at (suc room) (b ∷ rest)) ≡ Ok (value + weight * b, rest)
unfolding groups_at
scaled_end value weight room b rest l = rw (lt-ltb b 128 l) refl

-- One more group with its top bit set adds to the value.
pub read_more : (bytes : List ℕ) (i value weight b : ℕ) → Read bytes i value weight → b ≡ get_or bytes i 0 → i < 9 → i < length bytes →
    128 ≤ b → b < 256 →
    Read bytes (i + 1) (value + (b - 128) * weight) (weight * 128)
read_more bytes i value weight b r is small inside high byte =
    record {
      power = ap (λ n. n * 128) r.power ∙ sym (pow_more 128 i);
      below = omega (arith, mul-le-mul_right weight (let e : b - 128 ≤ 127 = omega arith in e));
      within = omega arith;
      left = λ room e. r.left (suc room) (omega arith)
          ∙ ap (λ xs. scaled value weight (groups_at (suc room) xs)) (drop_more bytes i 0 inside)
          ∙ ap (λ x. scaled value weight (groups_at (suc room) (x ∷ drop (i + 1) bytes))) (sym is)
          ∙ scaled_step value weight room b (drop (i + 1) bytes) high;
    }

-- The weight of the next group fits into 64 bits.
pub weight_fits : (bytes : List ℕ) (i value weight : ℕ) → Read bytes i value weight → i ≤ 8 → weight * 128 ≤ 2 ^ 63
weight_fits bytes i value weight r small =
    let p : 128 ^ i ≤ 128 ^ 8 = pow-le-pow_right (omega arith) small in
    let e = r.power in
    omega arith

groups_none : (room : ℕ) → groups_at room [] ≡ Err BadNumber
unfolding groups_at
groups_none zero = refl
groups_none (suc room) = refl

-- A number that isn't ended is refused as BadNumber.
pub read_none : (bytes : List ℕ) (i value weight : ℕ) → Read bytes i value weight → i < 10 → i ≡ length bytes →
    number_at bytes ≡ Err BadNumber
unfolding number_at
read_none bytes i value weight r small e =
    let none : drop i bytes ≡ [] = drop_of_length-le bytes (omega arith) in
    rw (r.left (10 - i) (omega arith), none, groups_none (10 - i)) refl

-- A group without its top bit ends the number.
pub read_end : (bytes : List ℕ) (i value weight b : ℕ) → Read bytes i value weight → b ≡ get_or bytes i 0 → i < 10 → i < length bytes →
    b < 128 → value + b * weight < 2 ^ 64 →
    number_at bytes ≡ Ok (value + b * weight, take (length bytes - (i + 1)) (drop (i + 1) bytes))
unfolding number_at
read_end bytes i value weight b r is small inside low fits =
    let rest : List ℕ = drop (i + 1) bytes in
    let read : groups_at 10 bytes ≡ Ok (value + b * weight, rest) =
    r.left (suc (9 - i)) (omega arith)
    ∙ ap (λ xs. scaled value weight (groups_at (suc (9 - i)) xs)) (drop_more bytes i 0 inside)
    ∙ ap (λ x. scaled value weight (groups_at (suc (9 - i)) (x ∷ rest))) (sym is)
    ∙ scaled_end value weight (9 - i) b rest low
    ∙ (let e : value + weight * b ≡ value + b * weight = omega arith in ap (λ n. Ok (n, rest)) e) in
    ap (λ r. and_then r within_word) read ∙ rw (lt-ltb (value + b * weight) (2 ^ 64) fits, take_rest bytes (i + 1)) refl

-- the same as `read_end`, for a value that is any expression of the sum
pub read_sum : (bytes : List ℕ) (i value weight b sum : ℕ) → Read bytes i value weight → b ≡ get_or bytes i 0 → i < 10 → i < length bytes →
    b < 128 → sum ≡ value + b * weight → sum < 2 ^ 64 →
    number_at bytes ≡ Ok (sum, take (length bytes - (i + 1)) (drop (i + 1) bytes))
read_sum bytes i value weight b sum r is small inside low same fits =
    read_end bytes i value weight b r is small inside low (omega arith)
    ∙ ap (λ n. Ok (n, take (length bytes - (i + 1)) (drop (i + 1) bytes))) (sym same)

-- a tenth group that makes the number 2^64 or more, or that isn't the last, is refused as BadNumber
over : (value weight b : ℕ) (rest : List ℕ) → 2 ^ 64 ≤ value + weight * b →
    and_then (scaled value weight (groups_at 1 (b ∷ rest))) within_word ≡ Err BadNumber
unfolding groups_at
over value weight b rest h =
    elim (cases_lt b 128) [
      | inl low ↦ rw (lt-ltb b 128 low) (rw (le-ltb (value + weight * b) (2 ^ 64) h) refl)
      | inr high ↦ rw (le-ltb b 128 high) refl
    ]

-- a tenth byte above 1 is refused as BadNumber
pub read_over : (bytes : List ℕ) (i value weight b : ℕ) → Read bytes i value weight → b ≡ get_or bytes i 0 → i ≡ 9 → i < length bytes →
    2 ≤ b → number_at bytes ≡ Err BadNumber
unfolding number_at
read_over bytes i value weight b r is nine inside high =
    let p : weight ≡ 128 ^ 9 = r.power ∙ ap (λ n. 128 ^ n) nine in
    let left : groups_at 10 bytes ≡ scaled value weight (groups_at 1 (b ∷ drop (i + 1) bytes)) =
    r.left 1 (omega arith)
    ∙ ap (λ xs. scaled value weight (groups_at 1 xs)) (drop_more bytes i 0 inside)
    ∙ ap (λ x. scaled value weight (groups_at 1 (x ∷ drop (i + 1) bytes))) (sym is) in
    ap (λ r. and_then r within_word) left ∙ over value weight b (drop (i + 1) bytes) (rw p (omega arith))

-- A count of groups that equals 9 can be replaced by 9.
pub read_to_nine : (bytes : List ℕ) (i value weight : ℕ) → Read bytes i value weight → i ≡ 9 → Read bytes 9 value weight
read_to_nine bytes i value weight r nine = let P : ℕ → Type 0 = λ n. Read bytes n value weight in subst P nine r

-- nothing is read yet
pub read_begin : (bytes : List ℕ) → Read bytes 0 0 1
read_begin bytes = record {
  power = refl;
  below = omega arith;
  within = omega arith;
  left = λ room e. (let ten : room ≡ 10 = omega arith in rw ten (sym (scaled_one (groups_at 10 bytes))));
}
  where
    scaled_one : (r : Result (ℕ × List ℕ) O5Reason) → scaled 0 1 r ≡ r
    scaled_one (Ok x) = let e : 0 + 1 * x.0 ≡ x.0 = omega arith in ap (λ n. Ok (n, x.1)) e
    scaled_one (Err e) = refl
