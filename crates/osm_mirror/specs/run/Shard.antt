-- The texts of shards, for `Shard::read`: an own rule of this project.
use Rattle.std.specs.Prelude.{◌≡◌, ℕ, ◌≤◌, List, ◌++◌, codes}
use Rattle.osm_mirror.specs.Digits.{IsDecimal}

-- A text spells the shard `number` of `count`: `K/N`, where K and N are of decimal digits, K is from 1 to N, and N is
-- at most 9999.
pub record SpellsShard (text : List ℕ) (number count : ℕ) : Type 0 where
  pub before : List ℕ
  pub after : List ℕ
  pub text_is : text ≡ before ++ (codes "/" ++ after)
  pub number_is : IsDecimal before number
  pub count_is : IsDecimal after count
  pub first : 1 ≤ number
  pub within : number ≤ count
  pub few : count ≤ 9999
