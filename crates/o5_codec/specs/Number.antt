-- Numbers in groups of seven bits (the OSM wiki's page on o5m). Own rules of this project: a number has at most ten
-- bytes and is below 2^64, and padding is accepted.
use Rattle.std.specs.Prelude.{◌≡◌, ℕ, zero, suc, ℤ, pos, negsuc, ◌+◌, ◌-◌, ◌*◌, ◌/◌, ◌%◌, ◌^◌, ◌<◌, ◌≤◌, ◌==◌, nat_lt}
use Rattle.std.specs.Prelude.{List, [], ◌∷◌, length, Result, Ok, Err, if◌then◌else◌}
use Rattle.o5_codec.specs.declared.reason.O5Reason.{O5Reason}
use Rattle.o5_codec.specs.declared.reason.O5Reason.TheVariants.{BadNumber}
use Rattle.o5_codec.specs.Results.{and_then}

-- groups of seven bits, the lowest first; each byte but the last has its top bit set
abbrev pub AreGroups : List ℕ → ℕ → Type 0
AreGroups [] n = ⊥
AreGroups (b ∷ []) n = (b < 128) × (n ≡ b)
AreGroups (b ∷ c ∷ bs) n = (128 ≤ b) × ((high : ℕ) × (n + 128 ≡ b + 128 * high) × AreGroups (c ∷ bs) high)

-- the bytes spell the unsigned number
pub record SpellsNumber (bytes : List ℕ) (n : ℕ) : Type 0 where
  pub short : length bytes ≤ 10
  pub fits : n < 2 ^ 64
  pub groups : AreGroups bytes n

-- the unsigned number of a signed one
abbrev pub unsigned_of : ℤ → ℕ
unsigned_of (pos n) = 2 * n
unsigned_of (negsuc n) = 2 * n + 1

-- the bytes spell the signed number
abbrev pub SpellsSigned : List ℕ → ℤ → Type 0
SpellsSigned bytes m = SpellsNumber bytes (unsigned_of m)

-- a number that was read, with one more group below its lowest one
abbrev pub with_low : ℕ → Result (ℕ × List ℕ) O5Reason → Result (ℕ × List ℕ) O5Reason
with_low low (Ok x) = Ok (low + 128 * x.0, x.1)
with_low low (Err reason) = Err reason

-- the number at the front, of at most `room` bytes, and the bytes after it
unfoldable pub groups_at : ℕ → List ℕ → Result (ℕ × List ℕ) O5Reason
groups_at zero bytes = Err BadNumber
groups_at (suc room) [] = Err BadNumber
groups_at (suc room) (b ∷ bytes) = if nat_lt b 128 then Ok (b, bytes) else with_low (b - 128) (groups_at room bytes)

-- a number that was read, if it is below 2^64
abbrev pub within_word : ℕ × List ℕ → Result (ℕ × List ℕ) O5Reason
within_word x = if nat_lt x.0 (2 ^ 64) then Ok x else Err BadNumber

-- the unsigned number at the front, and the bytes after it
unfoldable pub number_at : List ℕ → Result (ℕ × List ℕ) O5Reason
number_at bytes = and_then (groups_at 10 bytes) within_word

-- the signed number of an unsigned one
abbrev pub signed_of : ℕ → ℤ
signed_of n = if n % 2 == 0 then pos (n / 2) else negsuc (n / 2)

-- the signed number at the front, and the bytes after it
unfoldable pub signed_at : List ℕ → Result (ℤ × List ℕ) O5Reason
signed_at bytes = and_then (number_at bytes) (λ x. Ok (signed_of x.0, x.1))
