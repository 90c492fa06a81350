-- No bytes that spell a number are fewer than those that are written for it.
use Rattle.std.proofs.Common.{◌≡◌, ℕ, zero, suc, ◌+◌, ◌*◌, ◌/◌, ◌<◌, ◌≤◌, List, [], ◌∷◌, length, refl, arith, inl, inr, subst}
use Rattle.std.specs.List.{All}
use Rattle.std.proofs.lemmas.Bool.{le-ltb, lt-ltb, cases_lt}
use Rattle.o5_codec.specs.Number.{AreGroups}
use Rattle.o5_codec.specs.Shortest.{groups_of, shortest_number}
use Rattle.o5_codec.specs.WritingLaws.{WrittenNumbersAreShortest}
use Rattle.o5_codec.proofs.WrittenNumbers.{shortest_spells}

one_group : (more n : ℕ) → n < 128 → length (groups_of more n) ≡ 1
unfolding groups_of
one_group zero n small = refl
one_group (suc more) n small = rw (lt-ltb n 128 small) refl

more_groups : (more n : ℕ) → 128 ≤ n → length (groups_of (suc more) n) ≡ suc (length (groups_of more (n / 128)))
unfolding groups_of
more_groups more n big = rw (le-ltb n 128 big) refl

last_group : (n : ℕ) → length (groups_of zero n) ≡ 1
unfolding groups_of
last_group n = refl

groups_least : (more n : ℕ) (bytes : List ℕ) → All (λ b. b < 256) bytes → AreGroups bytes n → length (groups_of more n) ≤ length bytes
groups_least more n [] bound groups = absurd groups
groups_least more n (b ∷ []) bound groups = let one =
    one_group more n (let e : n ≡ b = groups.1 in let low : b < 128 = groups.0 in omega arith) in omega arith
groups_least zero n (b ∷ c ∷ bytes) bound groups = let one = last_group n in omega arith
groups_least (suc more) n (b ∷ c ∷ bytes) bound groups = elim (cases_lt n 128) [
  | inl small ↦ (let one = one_group (suc more) n small in omega arith)
  | inr big ↦ (let high : ℕ = groups.1.0 in
      let low : b < 256 = bound 0 b (omega arith) in
      let top : 128 ≤ b = groups.0 in
      let sum : n + 128 ≡ b + 128 * high = groups.1.1 in
      let same : high ≡ n / 128 = omega arith in
      let rest : length (groups_of more (n / 128)) ≤ length (c ∷ bytes) =
      groups_least more (n / 128) (c ∷ bytes) (λ k d inside. bound (suc k) d (omega arith))
      (subst (AreGroups (c ∷ bytes)) same groups.1.2) in
      let both = more_groups more n big in omega arith)
]

-- No bytes that spell a number are fewer than those that are written for it.
pub numbers_shortest : WrittenNumbersAreShortest
unfolding shortest_number
numbers_shortest n small = (shortest_spells n small, λ bytes bound spells. groups_least 9 n bytes bound spells.groups)
