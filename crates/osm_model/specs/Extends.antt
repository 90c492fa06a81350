-- Lists of bytes to which more is appended (an own definition of this project).
use Rattle.std.specs.Prelude.{◌≡◌, ℕ, List, ◌++◌}

-- `now` is `before`, followed by other bytes
pub record Extends (before now : List ℕ) : Type 0 where
  pub rest : List ℕ
  pub appended : now ≡ before ++ rest
