-- The author of a version (the OSM wiki's page Elements).
use Rattle.std.specs.Prelude.{ℕ, List}

-- changeset, user id, and the characters of the user name
pub record Author : Type 0 where
  pub changeset : ℕ
  pub uid : ℕ
  pub user : List ℕ
