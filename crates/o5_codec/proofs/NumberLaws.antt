-- A number is read exactly if its bytes spell it.
use Rattle.std.proofs.Common.{◌≡◌, ℕ, ℤ, pos, negsuc, zero, suc, ◌+◌, ◌-◌, ◌*◌, ◌/◌, ◌%◌, ◌<◌, ◌≤◌, ◌^◌, true, false, eqb, ltb, List, []}
use Rattle.std.proofs.Common.{◌∷◌, ◌++◌, length, refl, ap, sym, ◌∙◌, arith, Result, Ok, Err, inl, inr, subst, length-append, if◌then◌else◌}
use Rattle.std.proofs.lemmas.Bool.{le-ltb, lt-ltb, cases_lt, ltb-true}
use Rattle.std.proofs.lemmas.Bool.Decides.{nat_tests}
use Rattle.o5_codec.specs.declared.reason.O5Reason.{O5Reason}
use Rattle.o5_codec.specs.declared.reason.O5Reason.TheVariants.{BadNumber}
use Rattle.o5_codec.specs.Results.{and_then}
use Rattle.o5_codec.specs.Number.{groups_at, with_low, within_word, number_at, AreGroups, SpellsNumber, unsigned_of, signed_of, signed_at}
use Rattle.o5_codec.specs.Spelling.{NumberAtFront, SignedAtFront}
use Rattle.o5_codec.proofs.SoundStrings.{first_ok, tested_ok}

low_ok : (low : ℕ) (r : Result (ℕ × List ℕ) O5Reason) (x : ℕ × List ℕ) → with_low low r ≡ Ok x →
    (high : ℕ) × (r ≡ Ok (high, x.1)) × (x.0 ≡ low + 128 * high)
low_ok low (Ok y) x h = let e : (low + 128 * y.0, y.1) ≡ x = cc in (y.0, ap (λ z. Ok (y.0, z.1)) e, ap (λ z. z.0) (sym e))
low_ok low (Err e) x h = cc

-- A group with its top bit set before groups of seven bits adds its value.
pub longer : (b n high : ℕ) (front : List ℕ) → 128 ≤ b → n ≡ (b - 128) + 128 * high → AreGroups front high → AreGroups (b ∷ front) n
longer b n high [] big e g = absurd g
longer b n high (c ∷ cs) big e g = (big, (high, omega arith, g))

groups_found : (room : ℕ) (bytes : List ℕ) (x : ℕ × List ℕ) → groups_at room bytes ≡ Ok x →
    (front : List ℕ) × (length front ≤ room) × AreGroups front x.0 × (bytes ≡ front ++ x.1)
unfolding groups_at
groups_found zero bytes x h = cc
groups_found (suc room) [] x h = cc
groups_found (suc room) (b ∷ bytes) x h = elim (cases_lt b 128) [
  | inl low ↦ (let g : Ok (b, bytes) ≡ Ok x = rw (lt-ltb b 128 low) at h in
      let e : (b, bytes) ≡ x = cc in
      (b ∷ [], omega arith, (let f : b ≡ x.0 = ap (λ z. z.0) e in omega arith, ap (λ z. z.0) (sym e)), ap (λ z. b ∷ z.1) e))
  | inr high ↦ (let g : with_low (b - 128) (groups_at room bytes) ≡ Ok x = rw (le-ltb b 128 high) at h in
      let l = low_ok (b - 128) (groups_at room bytes) x g in
      let r = groups_found room bytes (l.0, x.1) l.1 in
      (b ∷ r.0, omega (arith, r.1), longer b x.0 l.0 r.0 high l.2 r.2, ap (λ xs. b ∷ xs) r.3))
]

groups_only : (room : ℕ) (front rest : List ℕ) (n : ℕ) → AreGroups front n → length front ≤ room →
    groups_at room (front ++ rest) ≡ Ok (n, rest)
unfolding groups_at
groups_only room [] rest n g short = absurd g
groups_only zero (b ∷ front) rest n g short = absurd (omega arith)
groups_only (suc room) (b ∷ []) rest n g short = rw (lt-ltb b 128 g.0) (ap (λ k. Ok (k, rest)) (sym g.1))
groups_only (suc room) (b ∷ c ∷ front) rest n g short =
    rw (le-ltb b 128 g.0) (ap (λ r. with_low (b - 128) r) (groups_only room (c ∷ front) rest g.1.0 g.1.2 (omega arith))
    ∙ ap (λ k. Ok (k, rest)) (let e : (b - 128) + 128 * g.1.0 ≡ n = omega (arith, g.0, g.1.1) in e))

-- A number that is read is spelled by the bytes before the rest.
pub number_found : (bytes : List ℕ) (x : ℕ × List ℕ) → number_at bytes ≡ Ok x → NumberAtFront bytes x
unfolding number_at
number_found bytes x h =
    let f = first_ok (groups_at 10 bytes) within_word x h in
    let t = tested_ok (ltb f.0.0 (2 ^ 64)) f.0 x BadNumber f.2 in
    let g = groups_found 10 bytes f.0 f.1 in
    let fits : f.0.0 < 2 ^ 64 = ltb-true f.0.0 (2 ^ 64) t.0 in
    let same : f.0 ≡ x = t.1 in
    let P : ℕ × List ℕ → Type 0 = λ y. NumberAtFront bytes y in
    subst P same (g.0, record { short = g.1; fits = fits; groups = g.2 }, g.3)

-- A number that is spelled is read.
pub number_only : (bytes : List ℕ) (x : ℕ × List ℕ) → NumberAtFront bytes x → number_at bytes ≡ Ok x
unfolding number_at
number_only bytes x s =
    ap (λ b. and_then (groups_at 10 b) within_word) s.2
    ∙ ap (λ r. and_then r within_word) (groups_only 10 s.0 x.1 x.0 s.1.groups s.1.short) ∙ rw (lt-ltb x.0 (2 ^ 64) s.1.fits) refl

nonempty : (front rest : List ℕ) (n : ℕ) → AreGroups front n → length rest < length (front ++ rest)
nonempty [] rest n g = absurd g
nonempty (b ∷ front) rest n g = omega (arith, length-append front rest)

-- A number takes at least one byte.
pub number_shorter : (bytes : List ℕ) (x : ℕ × List ℕ) → NumberAtFront bytes x → length x.1 < length bytes
number_shorter bytes x s = rw s.2 (nonempty s.0 x.1 x.0 s.1.groups)

unsigned_signed : (n : ℕ) → unsigned_of (signed_of n) ≡ n
unsigned_signed n =
    elim (eqb (n % 2) 0) as (λ b. eqb (n % 2) 0 ≡ b → unsigned_of (if b then pos (n / 2) else negsuc (n / 2)) ≡ n) [
      | true ↦ λ e. (let even : n % 2 ≡ 0 = grind (arith, nat_tests) in omega arith)
      | false ↦ λ e. (let odd : n % 2 ≡ 0 → ⊥ = (λ even. (let clash : false ≡ true = sym e ∙ ap (λ k. eqb k 0) even in cc)) in omega arith)
    ] refl

signed_unsigned : (m : ℤ) → signed_of (unsigned_of m) ≡ m
signed_unsigned (pos n) = let even : (2 * n) % 2 ≡ 0 = omega arith in let half : (2 * n) / 2 ≡ n = omega arith in rw (even, half) refl
signed_unsigned (negsuc n) = let odd : (2 * n + 1) % 2 ≡ 1 = omega arith in let half : (2 * n + 1) / 2 ≡ n = omega arith in
    rw (odd, half) refl

-- A signed number that is read is spelled by the bytes before the rest.
pub signed_found : (bytes : List ℕ) (x : ℤ × List ℕ) → signed_at bytes ≡ Ok x → SignedAtFront bytes x
unfolding signed_at
signed_found bytes x h =
    let f = first_ok (number_at bytes) _ x h in
    let same : (signed_of f.0.0, f.0.1) ≡ x = cc in
    let g = number_found bytes f.0 f.1 in
    let P : ℤ × List ℕ → Type 0 = λ y. SignedAtFront bytes y in
    let N : ℕ → Type 0 = λ n. SpellsNumber g.0 n in
    subst P same (g.0, subst N (sym (unsigned_signed f.0.0)) g.1, g.2)

-- A signed number that is spelled is read.
pub signed_only : (bytes : List ℕ) (x : ℤ × List ℕ) → SignedAtFront bytes x → signed_at bytes ≡ Ok x
unfolding signed_at
signed_only bytes x s =
    ap (λ r. and_then r (λ y. Ok (signed_of y.0, y.1))) (number_only bytes (unsigned_of x.0, x.1) s)
    ∙ ap (λ m. Ok (m, x.1)) (signed_unsigned x.0)

-- A byte 0 at the front is the signed number 0.
pub zero_read : (bytes : List ℕ) → signed_at (0 ∷ bytes) ≡ Ok (pos 0, bytes)
unfolding signed_at number_at groups_at
zero_read bytes = refl

-- A signed number takes at least one byte.
pub signed_shorter : (bytes : List ℕ) (x : ℤ × List ℕ) → SignedAtFront bytes x → length x.1 < length bytes
signed_shorter bytes x s = number_shorter bytes (unsigned_of x.0, x.1) s
