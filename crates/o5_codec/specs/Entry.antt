-- Entries of the string table.
use Rattle.std.specs.Prelude.{ℕ, List}

-- the two strings of a pair; a single string counts as a pair with an empty second string (own rule of this project)
pub record EntryStrings : Type 0 where
  pub first : List ℕ
  pub second : List ℕ
