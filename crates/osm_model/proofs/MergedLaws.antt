-- The merge of two ascending lists ascends, and has the members of both.
use Rattle.std.proofs.lemmas.List.{nil_from_length}
use Rattle.std.proofs.Common.{◌≡◌, ℕ, length, drop, arith, length-drop, Bool, true, false, ◌||◌, List, [], ◌∷◌, ◌++◌, refl, sym, ap, ◌∙◌}
use Rattle.std.proofs.Common.{subst}
use Rattle.std.specs.declared.cmp.Ordering.{Ordering}
use Rattle.std.specs.declared.cmp.Ordering.TheVariants.{Less, Equal, Greater}
use Rattle.std.specs.Cmp.{IsTotalOrder}
use Rattle.std.specs.Ordering.{eq_by_cmp, ordering_reverse}
use Rattle.std.specs.List.{list_any, AllByRecursion}
use Rattle.std.specs.List.Sorted.{IsStrictlySortedBy}
use Rattle.std.specs.FinMap.{IsAntisymmetric}
use Rattle.std.proofs.lemmas.List.Folds.{list_any-append}
use Rattle.osm_model.specs.Sets.{from_list}
use Rattle.osm_model.specs.Merged.{merge, merge_from}
use Rattle.osm_model.proofs.SetLaws.{same_set, contains-from_list}

module _ {K : Type 0} (R : K → K → Ordering) where
  pub merge-nil : (xs : List K) → merge R xs [] ≡ xs
  merge-nil [] = refl
  merge-nil (x ∷ xs) = ap (λ t. x ∷ t) (merge-nil xs)

  -- If the first member of the left list is less, it comes first.
  pub merge-less : (x y : K) (xs ys : List K) → R x y ≡ Less → merge R (x ∷ xs) (y ∷ ys) ≡ x ∷ merge R xs (y ∷ ys)
  merge-less x y xs ys e = ap (λ r. elim r as (λ _. List K) [
    | Less ↦ x ∷ merge R xs (y ∷ ys)
    | Equal ↦ x ∷ merge R xs ys
    | Greater ↦ y
        ∷ merge R (x ∷ xs) ys
  ]) e

  -- If the two first members tie, the left one stays.
  pub merge-equal : (x y : K) (xs ys : List K) → R x y ≡ Equal → merge R (x ∷ xs) (y ∷ ys) ≡ x ∷ merge R xs ys
  merge-equal x y xs ys e = ap (λ r. elim r as (λ _. List K) [
    | Less ↦ x ∷ merge R xs (y ∷ ys)
    | Equal ↦ x ∷ merge R xs ys
    | Greater ↦ y
        ∷ merge R (x ∷ xs) ys
  ]) e

  -- If the first member of the right list is less, it comes first.
  pub merge-greater : (x y : K) (xs ys : List K) → R x y ≡ Greater → merge R (x ∷ xs) (y ∷ ys) ≡ y ∷ merge R (x ∷ xs) ys
  merge-greater x y xs ys e = ap (λ r. elim r as (λ _. List K) [
    | Less ↦ x ∷ merge R xs (y ∷ ys)
    | Equal ↦ x ∷ merge R xs ys
    | Greater ↦ y
        ∷ merge R (x ∷ xs) ys
  ]) e

  -- `x` is below each of `ys`
  abbrev Below : K → List K → Type 0
  Below x ys = AllByRecursion (λ y. R x y ≡ Less) ys

module _ {K : Type 0} {R : K → K → Ordering} (o : IsTotalOrder R) where
  below_less : (x y : K) (zs : List K) → R x y ≡ Less → Below R y zs → Below R x zs
  below_less x y [] e h = tt
  below_less x y (z ∷ zs) e h = (o.trans x y z e h.0, below_less x y zs e h.1)

  below_equal : (x y : K) (zs : List K) → R x y ≡ Equal → Below R y zs → Below R x zs
  below_equal x y [] e h = tt
  below_equal x y (z ∷ zs) e h = (o.congr x y z e ∙ h.0, below_equal x y zs e h.1)

  turned : (x y : K) → R x y ≡ Greater → R y x ≡ Less
  turned x y e = o.antisymm y x ∙ ap ordering_reverse e

  below_from : (p x : K) (xs : List K) (rest : List K → List K) (ys : List K) → ((zs : List K) → Below R p zs → Below R p (rest zs)) →
      R p x ≡ Less → Below R p ys → Below R p (merge_from R x rest ys)
  below_from p x xs rest [] k h g = (h, k [] tt)
  below_from p x xs rest (y ∷ ys) k h g =
      elim (R x y) as (λ r. Below R p (elim r as (λ _. List K) [
        | Less ↦ x ∷ rest (y ∷ ys)
        | Equal ↦ x ∷ rest ys
        | Greater ↦ y
            ∷ merge_from R x rest ys
      ])) [
        | Less ↦ (h, k (y ∷ ys) g)
        | Equal ↦ (h, k ys g.1)
        | Greater ↦ (g.0, below_from p x xs rest ys k h g.1)
      ]

  below_merged : (p : K) (xs ys : List K) → Below R p xs → Below R p ys → Below R p (merge R xs ys)
  below_merged p [] ys h g = g
  below_merged p (x ∷ xs) ys h g = below_from p x xs (merge R xs) ys (λ zs. below_merged p xs zs h.1) h.0 g

  sorted_from : (x : K) (xs ys : List K) → ((zs : List K) → IsStrictlySortedBy R zs → IsStrictlySortedBy R (merge R xs zs)) →
      Below R x xs → IsStrictlySortedBy R ys → IsStrictlySortedBy R (merge_from R x (merge R xs) ys)
  unfolding IsStrictlySortedBy
  sorted_from x xs [] k h g = (subst (Below R x) (sym (merge-nil R xs)) h, k [] tt)
  sorted_from x xs (y ∷ ys) k h g =
      elim (R x y) as (λ r. R x y ≡ r → IsStrictlySortedBy R
      (elim r as (λ _. List K) [
        | Less ↦ x ∷ merge R xs (y ∷ ys)
        | Equal ↦ x ∷ merge R xs ys
        | Greater ↦ y
            ∷ merge_from R x (merge R xs) ys
      ])) [
        | Less ↦ λ e. (below_merged x xs (y ∷ ys) h (e, below_less x y ys e g.0), k (y ∷ ys) g)
        | Equal ↦ λ e. (below_merged x xs ys h (below_equal x y ys e g.0), k ys g.1)
        | Greater ↦ λ e. (below_merged y (x ∷ xs) ys (turned x y e, below_less y x xs (turned x y e) h) g.0, sorted_from x xs ys k h g.1)
      ] refl

  -- The merge of two strictly ascending lists ascends strictly.
  pub sorted_merged : (xs ys : List K) → IsStrictlySortedBy R xs → IsStrictlySortedBy R ys → IsStrictlySortedBy R (merge R xs ys)
  unfolding IsStrictlySortedBy
  sorted_merged [] ys h g = g
  sorted_merged (x ∷ xs) ys h g = sorted_from x xs ys (λ zs. sorted_merged xs zs h.1) h.0 g

  -- a test of membership doesn't change if one of two equal members is left out
  or_same : (a b c : Bool) → (a || (b || c)) ≡ (a || (b || (a || c)))
  or_same true b c = refl
  or_same false b c = refl

  or_turned : (a b c : Bool) → (a || (b || c)) ≡ (b || (a || c))
  or_turned true true c = refl
  or_turned true false c = refl
  or_turned false b c = refl

  any_from : IsAntisymmetric R → (p : K → Bool) (x : K) (xs ys : List K) →
      ((zs : List K) → list_any p (merge R xs zs) ≡ (list_any p xs || list_any p zs)) →
      list_any p (merge_from R x (merge R xs) ys) ≡ (p x || (list_any p xs || list_any p ys))
  any_from same p x xs [] k = ap (λ t. p x || t) (k [])
  any_from same p x xs (y ∷ ys) k =
      elim (R x y) as (λ r. R x y ≡ r → list_any p (elim r as
      (λ _. List K) [ Less ↦ x ∷ merge R xs (y ∷ ys) | Equal ↦ x ∷ merge R xs ys | Greater ↦ y ∷ merge_from R x (merge R xs) ys ])
      ≡ (p x || (list_any p xs || (p y || list_any p ys)))) [
        | Less ↦ λ e. ap (λ t. p x || t) (k (y ∷ ys))
        | Equal ↦ λ e. ap (λ t. p x || t) (k ys) ∙ or_same (p x) (list_any p xs) (list_any p ys)
            ∙ ap (λ t. p x || (list_any p xs || (p t || list_any p ys))) (same x y e)
        | Greater ↦ λ e. ap (λ t. p y || t) (any_from same p x xs ys k) ∙ or_turned (p y) (p x) (list_any p xs || list_any p ys)
            ∙ ap (λ t. p x || t) (or_turned (p y) (list_any p xs) (list_any p ys))
      ] refl

  or_grouped : (a b c : Bool) → (a || (b || c)) ≡ ((a || b) || c)
  or_grouped true b c = refl
  or_grouped false b c = refl

  any_merged : IsAntisymmetric R → (p : K → Bool) (xs ys : List K) → list_any p (merge R xs ys) ≡ (list_any p xs || list_any p ys)
  any_merged same p [] ys = refl
  any_merged same p (x ∷ xs) ys = any_from same p x xs ys (any_merged same p xs) ∙ or_grouped (p x) (list_any p xs) (list_any p ys)

  -- The merge of two lists has the members of both.
  pub from_list-merged : IsAntisymmetric R → (xs ys : List K) → from_list {R = R} (merge R xs ys) ≡ from_list (xs ++ ys)
  from_list-merged same xs ys =
      same_set o same _ _ (λ q.
      contains-from_list o _ q ∙ any_merged same (eq_by_cmp R q) xs ys ∙ sym (list_any-append (eq_by_cmp R q) xs ys)
      ∙ sym (contains-from_list o (xs ++ ys) q))

module _ {K : Type 0} (R : K → K → Ordering) where
  -- after the end of the right list, the merge is the left list
  pub merge-end : (j : ℕ) (xs ys : List K) → j ≡ length ys → merge R xs (drop j ys) ≡ xs
  merge-end j xs ys e =
      let none : drop j ys ≡ [] = nil_from_length _ (omega (arith, length-drop j ys)) in
      ap (merge R xs) none ∙ merge-nil R xs
