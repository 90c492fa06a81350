-- Numbers in the shortest form that spells them, as they are written (the OSM wiki's page on o5m).
-- No other form is written, which is an own rule of this project.
use Rattle.std.specs.Prelude.{ℕ, zero, suc, ℤ, ◌+◌, ◌/◌, ◌%◌, ◌-ℤ◌, nat_lt, List, [], ◌∷◌, if◌then◌else◌}
use Rattle.o5_codec.specs.Number.{unsigned_of}

-- groups of seven bits, the lowest first, each but the last with its top bit set; the first argument bounds the groups
-- before the last
unfoldable pub groups_of : ℕ → ℕ → List ℕ
groups_of zero n = n ∷ []
groups_of (suc more) n = if nat_lt n 128 then n ∷ [] else (n % 128 + 128) ∷ groups_of more (n / 128)

-- an unsigned number, of at most ten bytes
unfoldable pub shortest_number : ℕ → List ℕ
shortest_number n = groups_of 9 n

-- a signed number
unfoldable pub shortest_signed : ℤ → List ℕ
shortest_signed n = shortest_number (unsigned_of n)

-- a value, by its difference to the base
abbrev pub difference : ℤ → ℤ → List ℕ
difference base value = shortest_signed (value -ℤ base)
