-- Texts with a separator between each two.
use Rattle.std.specs.Prelude.{ℕ, List, [], ◌∷◌, ◌++◌}

abbrev pub join_with : ℕ → List (List ℕ) → List ℕ
join_with separator [] = []
join_with separator (first ∷ []) = first
join_with separator (first ∷ second ∷ more) = first ++ separator ∷ join_with separator (second ∷ more)
