-- A number that is written is read back.
use Rattle.std.proofs.Common.{◌≡◌, ℕ, ℤ, pos, negsuc, zero, suc, ◌+◌, ◌*◌, ◌/◌, ◌%◌, ◌<◌, ◌≤◌, ◌^◌, ◌+ℤ◌, ◌-ℤ◌, true, List, ◌++◌, length}
use Rattle.std.proofs.Common.{refl, ap, ◌∙◌, arith, Ok, Err, inl, inr, if◌then◌else◌, unsigned_abs, FitsSigned}
use Rattle.std.proofs.lemmas.Bool.{le-ltb, lt-ltb, cases_lt, ltb-true}
use Rattle.std.proofs.lemmas.Grind.{pow_more}
use Rattle.std.proofs.lemmas.Int.{ints, int_wrap_fits}
use Rattle.std.specs.Int.{w32, int_wrap}
use Rattle.osm_model.specs.Id.{is_id}
use Rattle.o5_codec.specs.declared.reason.O5Reason.TheVariants.{OutOfRange}
use Rattle.o5_codec.specs.Number.{AreGroups, SpellsNumber, unsigned_of}
use Rattle.o5_codec.specs.Base.{moved_id, within_range, number_within, moved_number, moved_coordinate}
use Rattle.o5_codec.specs.Spelling.{NumberAtFront, SignedAtFront}
use Rattle.o5_codec.proofs.NumberLaws.{longer}
use Rattle.o5_codec.specs.Shortest.{groups_of, shortest_number, shortest_signed, difference}

groups_spell : (more n : ℕ) → n < 128 ^ suc more → AreGroups (groups_of more n) n
unfolding groups_of
groups_spell zero n small = (omega arith, refl)
groups_spell (suc more) n small = elim (cases_lt n 128) [
  | inl low ↦ rw (lt-ltb n 128 low) (low, refl)
  | inr high ↦ rw (le-ltb n 128 high) (longer (n % 128 + 128) n (n / 128) (groups_of more (n / 128)) (omega arith) (omega arith)
      (groups_spell more (n / 128) (let p : ℕ = 128 ^ suc more in let s : suc (suc more) ≡ suc more + 1 = omega arith in
      let e : 128 ^ suc (suc more) ≡ p * 128 = ap (λ k. 128 ^ k) s ∙ pow_more 128 (suc more) in omega arith)))
]

groups_short : (more n : ℕ) → length (groups_of more n) ≤ suc more
unfolding groups_of
groups_short zero n = omega arith
groups_short (suc more) n = elim (cases_lt n 128) [
  | inl low ↦ rw (lt-ltb n 128 low) (omega arith)
  | inr high ↦ rw (le-ltb n 128 high) (let h : length (groups_of more (n / 128)) ≤ suc more = groups_short more (n / 128) in omega arith)
]

-- The shortest number spells the number.
pub shortest_spells : (n : ℕ) → n < 2 ^ 64 → SpellsNumber (shortest_number n) n
unfolding shortest_number
shortest_spells n small = record { short = groups_short 9 n; fits = small; groups = groups_spell 9 n (omega arith) }

-- A number that is written is read back.
pub number_back : (n : ℕ) (rest : List ℕ) → n < 2 ^ 64 → NumberAtFront (shortest_number n ++ rest) (n, rest)
number_back n rest small = (shortest_number n, shortest_spells n small, refl)

signed_back : (d : ℤ) (rest : List ℕ) → unsigned_of d < 2 ^ 64 → SignedAtFront (shortest_signed d ++ rest) (d, rest)
unfolding shortest_signed
signed_back d rest small = (shortest_number (unsigned_of d), shortest_spells (unsigned_of d) small, refl)

-- a signed number whose absolute value is below 2^63 is encoded by a number below 2^64
small_unsigned : (d : ℤ) → unsigned_abs d < 2 ^ 63 → unsigned_of d < 2 ^ 64
small_unsigned (pos n) h = omega arith
small_unsigned (negsuc n) h = omega arith

pub again : (a b : ℤ) → a +ℤ (b -ℤ a) ≡ b
again a b = omega (arith, ints)

-- The bytes written for the difference of two ids spell it.
pub id_difference : (a b : ℤ) (rest : List ℕ) → is_id a ≡ true → is_id b ≡ true → SignedAtFront (difference a b ++ rest) (b -ℤ a, rest)
id_difference a b rest ha hb =
    let sa : unsigned_abs a < 2 ^ 62 = ltb-true _ _ ha in
    let sb : unsigned_abs b < 2 ^ 62 = ltb-true _ _ hb in
    signed_back (b -ℤ a) rest (small_unsigned (b -ℤ a) (omega (arith, ints)))

-- The base moves from one id to another by their difference.
pub id_moved : (a b : ℤ) → is_id b ≡ true → moved_id a (b -ℤ a) ≡ Ok b
id_moved a b h = ap (λ n. if is_id n then Ok n else Err OutOfRange) (again a b) ∙ rw h refl

-- The bytes written for the difference of two numbers of 32 bits spell it.
pub number_difference : (a b : ℕ) (rest : List ℕ) → a < 2 ^ 32 → b < 2 ^ 32 →
    SignedAtFront (difference (pos a) (pos b) ++ rest) (pos b -ℤ pos a, rest)
number_difference a b rest ha hb = signed_back (pos b -ℤ pos a) rest (small_unsigned (pos b -ℤ pos a) (omega (arith, ints)))

-- A number below 2^32 is within its range.
pub number_ranged : (n : ℕ) → n < 2 ^ 32 → within_range n ≡ Ok n
number_ranged n h = rw (lt-ltb n (2 ^ 32) h) refl

-- The base moves from one number of 32 bits to another by their difference.
pub number_moved : (a b : ℕ) → b < 2 ^ 32 → moved_number a (pos b -ℤ pos a) ≡ Ok b
number_moved a b h = ap number_within (again (pos a) (pos b)) ∙ number_ranged b h

-- The bytes written for the difference of two coordinates spell it.
pub coordinate_difference : (a b : ℤ) (rest : List ℕ) → FitsSigned w32 a → FitsSigned w32 b →
    SignedAtFront (difference a b ++ rest) (b -ℤ a, rest)
coordinate_difference a b rest ha hb = signed_back (b -ℤ a) rest (small_unsigned (b -ℤ a) (omega (arith, ints)))

-- The base moves from one coordinate to another by their difference.
pub coordinate_moved : (a b : ℤ) → FitsSigned w32 a → FitsSigned w32 b → moved_coordinate a (b -ℤ a) ≡ Ok b
coordinate_moved a b ha hb =
    let small : unsigned_abs (b -ℤ a) < 2 ^ 32 = omega (arith, ints) in
    rw (lt-ltb (unsigned_abs (b -ℤ a)) (2 ^ 32) small) (ap (λ n. Ok (int_wrap w32 n)) (again a b) ∙ ap (λ n. Ok n) (int_wrap_fits w32 b hb))
