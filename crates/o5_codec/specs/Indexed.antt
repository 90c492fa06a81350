-- The numbers of a table's entries, in the order in which they were stored.
use Rattle.std.specs.Prelude.{◌≡◌, ◌⊎◌, ◌+◌, ◌<◌, ◌≤◌, ℕ, List, [], ◌∷◌, length, Option, Some, None}
use Rattle.o5_codec.specs.Formed.{FormedEntry, reference_to}

-- no entry twice
abbrev pub AreDistinct : List FormedEntry → Type 0
AreDistinct [] = Unit {0}
AreDistinct (e ∷ table) = (reference_to e table ≡ None) × AreDistinct table

-- An entry has a reference exactly if it has a number, and then the two add up to `next` modulo m. `next` is the number
-- of the next entry.
abbrev pub Numbered : ℕ → ℕ → Option ℕ → Option ℕ → Type 0
Numbered m next None None = Unit {0}
Numbered m next (Some i) (Some n) = (n < m) × ((n + i ≡ next) ⊎ (n + i ≡ next + m))
Numbered m next None (Some n) = ⊥
Numbered m next (Some i) None = ⊥

-- the entries of the table are distinct, and exactly these entries have numbers
pub record IsIndexed (m limit next : ℕ) (table : List FormedEntry) (number : FormedEntry → Option ℕ) : Type 0 where
  pub few : length table ≤ limit
  pub below : next < m
  pub distinct : AreDistinct table
  pub each : (e : FormedEntry) → Numbered m next (reference_to e table) (number e)

-- the number after next, modulo m
abbrev pub IsNext : ℕ → ℕ → ℕ → Type 0
IsNext m next after = ((next + 1 ≡ m) × (after ≡ 0)) ⊎ ((next + 1 < m) × (after ≡ next + 1))
