-- Finite sets of values in an order. A set is a finite map of std from its members to `tt`. It carries its order, so
-- sets with the same members are equal.
use Rattle.std.specs.Prelude.{ℕ, Bool, List, ◌++◌, map, length}
use Rattle.std.specs.declared.cmp.Ordering.{Ordering}
use Rattle.std.specs.FinMap as fin
use Rattle.std.specs.Coded.{Coded}
use base.Stored.{coded_unit}

abbrev pub Set : {K : Type 0} → (K → K → Ordering) → Type 0
Set R = fin.FinMap R (Unit {0})

abbrev pub entries_of : {K : Type 0} → List K → List (K × Unit {0})
entries_of xs = map (λ x. (x, tt)) xs

module _ {K : Type 0} {R : K → K → Ordering} where
  abbrev pub code : Coded K → Coded (Set R)
  code k = fin.code k coded_unit

  -- the members, ascending, each once
  abbrev pub to_list : Set R → List K
  to_list s = fin.keys s

  abbrev pub size : Set R → ℕ
  size s = length (to_list s)

  abbrev pub contains : Set R → K → Bool
  contains s x = fin.contains_key s x

  -- the set of the members of a list
  abbrev pub from_list : List K → Set R
  from_list xs = fin.from_entries (entries_of xs)

  abbrev pub empty : Set R
  empty = fin.empty

  -- the union
  abbrev pub union : Set R → Set R → Set R
  union s t = from_list (to_list s ++ to_list t)
