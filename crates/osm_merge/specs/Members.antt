-- Lists and sets by their members.
use Rattle.std.specs.Prelude.{Bool, List, [], ◌∷◌, Option, Some, None}
use Rattle.std.specs.List.{filter}
use Rattle.std.specs.declared.cmp.Ordering.{Ordering}
use Rattle.osm_model.specs.Sets.{Set, to_list, from_list, empty, union}

-- the first item of a list
abbrev pub first : {A : Type 0} → List A → Option A
first [] = None
first (x ∷ xs) = Some x

module _ {K : Type 0} {R : K → K → Ordering} where
  -- the members that pass a test
  abbrev pub retain : Set R → (K → Bool) → Set R
  retain s p = from_list (filter p (to_list s))

  -- the least member
  abbrev pub least : Set R → Option K
  least s = first (to_list s)

  -- the union of some sets
  abbrev pub union_all : List (Set R) → Set R
  union_all [] = empty
  union_all (s ∷ ss) = union s (union_all ss)
