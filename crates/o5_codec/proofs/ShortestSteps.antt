-- The loop of the writer of numbers: the part that was written and the part that is left together are the number.
use Rattle.std.proofs.Common.{◌≡◌, ℕ, zero, suc, length, take, slice_set, ◌+◌, ◌-◌, ◌*◌, ◌/◌, ◌%◌, ◌<◌, ◌≤◌, ◌^◌, List, [], ◌∷◌, ◌++◌, refl}
use Rattle.std.proofs.Common.{ap, sym, ◌∙◌, arith, append_assoc, subst, inl, inr}
use Rattle.std.proofs.Math.Nat.{mul-le-mul_right}
use Rattle.std.proofs.lemmas.Bool.{le-ltb, lt-ltb, cases_lt}
use Rattle.std.proofs.lemmas.Grind.{pow_more}
use Rattle.std.proofs.lemmas.List.{take_more_set}
use Rattle.o5_codec.specs.Shortest.{groups_of, shortest_number}

-- `i` groups of the number `n` are written, and `rest` is left
pub record WriterState (all written : List ℕ) (n i rest : ℕ) : Type 0 where
  pub below : rest * 128 ^ i ≤ n
  pub left : (more : ℕ) → more + i ≡ 9 → all ≡ written ++ groups_of more rest

-- At first nothing of a number was written.
pub write_begin : (front : List ℕ) (n : ℕ) → WriterState (front ++ shortest_number n) front n 0 n
unfolding shortest_number
write_begin front n = record {
  below = omega arith;
  left = λ more e. (let m : more ≡ 9 = omega arith in rw m refl);
}

-- A group with its top bit set is written, and the quotient by 128 is left.
pub write_more : (all written : List ℕ) (n i rest : ℕ) → WriterState all written n i rest → i < 9 → 128 ≤ rest →
    WriterState all (written ++ (rest % 128 + 128) ∷ []) n (i + 1) (rest / 128)
unfolding groups_of
write_more all written n i rest w small high = record {
  below = (let p : ℕ = 128 ^ i in
      let h : rest / 128 * 128 * p ≤ rest * p = mul-le-mul_right p (omega arith) in
      rw (pow_more 128 i) (omega (arith, w.below)));
  left = λ more e. w.left (suc more) (omega arith) ∙ rw (le-ltb rest 128 high)
      (sym (append_assoc written ((rest % 128 + 128) ∷ []) (groups_of more (rest / 128))));
}

last_group : (more rest : ℕ) → rest < 128 → groups_of more rest ≡ rest ∷ []
unfolding groups_of
last_group zero rest low = refl
last_group (suc more) rest low = rw (lt-ltb rest 128 low) refl

-- The last group completes the number.
pub write_last : (all written : List ℕ) (n i rest : ℕ) → WriterState all written n i rest → i ≤ 9 → rest < 128 → all ≡ written ++ rest ∷ []
write_last all written n i rest w small low = w.left (9 - i) (omega arith) ∙ ap (λ xs. written ++ xs) (last_group (9 - i) rest low)

-- after nine groups the rest is below 128
pub write_nine : (all written : List ℕ) (n i rest : ℕ) → WriterState all written n i rest → i ≡ 9 → n < 2 ^ 64 → rest < 128
write_nine all written n i rest w nine fits = let P : ℕ → Type 0 = λ k. rest * 128 ^ k ≤ n in
    let b : rest * 128 ^ 9 ≤ n = subst P nine w.below in omega arith

-- before a group that isn't the last, fewer than nine groups are written
pub write_early : (all written : List ℕ) (n i rest : ℕ) → WriterState all written n i rest → i ≤ 9 → n < 2 ^ 64 → 128 ≤ rest → i < 9
write_early all written n i rest w few fits high = elim (cases_lt i 9) [
  | inl early ↦ early
  | inr late ↦ absurd (let low : rest < 128 = write_nine all written n i rest w (omega arith) fits in omega arith)
]

-- a number of one byte
pub write_one : (n : ℕ) → n < 128 → shortest_number n ≡ n ∷ []
unfolding shortest_number groups_of
write_one n low = rw (lt-ltb n 128 low) refl

-- one more byte after those that are filled
pub fill_more : (bytes written : List ℕ) (end after byte : ℕ) → after ≡ end + 1 → take end bytes ≡ written → end < length bytes →
    take after (slice_set bytes end byte) ≡ written ++ byte ∷ []
fill_more bytes written end after byte next same inside = ap (λ n. take n (slice_set bytes end byte)) next
    ∙ take_more_set bytes end byte inside ∙ ap (λ xs. xs ++ byte ∷ []) same
