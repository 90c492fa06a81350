-- The merge of two ascending lists: it takes the lesser of the two first members, and one of two that tie.
use Rattle.std.specs.Prelude.{List, [], ◌∷◌}
use Rattle.std.specs.declared.cmp.Ordering.{Ordering}
use Rattle.std.specs.declared.cmp.Ordering.TheVariants.{Less, Equal, Greater}

module _ {K : Type 0} (R : K → K → Ordering) where
  -- the merge of a left list with a right one; the left list has the first member `x`, and `rest` merges its other
  -- members
  abbrev pub merge_from : K → (List K → List K) → List K → List K
  merge_from x rest [] = x ∷ rest []
  merge_from x rest (y ∷ ys) = elim (R x y) as
      (λ _. List K) [ Less ↦ x ∷ rest (y ∷ ys) | Equal ↦ x ∷ rest ys | Greater ↦ y ∷ merge_from x rest ys ]

  abbrev pub merge : List K → List K → List K
  merge [] = λ ys. ys
  merge (x ∷ xs) = merge_from x (merge xs)
