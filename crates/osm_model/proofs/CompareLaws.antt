-- The order of two lists, front by front.
use Rattle.std.proofs.Common.{◌≡◌, ◌≢◌, ℕ, List, [], ◌∷◌, ◌++◌, ◌<◌, ◌≤◌, length, take, drop, refl, ap, sym, ◌∙◌, arith}
use Rattle.std.proofs.Common.{append_assoc}
use Rattle.std.proofs.lemmas.List.{take-append-drop, length-take-le}
use Rattle.std.specs.declared.cmp.Ordering.{Ordering}
use Rattle.std.specs.declared.cmp.Ordering.TheVariants.{Less, Equal, Greater}
use Rattle.std.specs.Cmp.Lexicographic.{slice_cmp}
use Rattle.std.specs.Ordering.{nat_cmp, ordering_then}

-- Which of three orders decides doesn't depend on how they are grouped.
then_assoc : (a b c : Ordering) → ordering_then (ordering_then a b) c ≡ ordering_then a (ordering_then b c)
then_assoc Less b c = refl
then_assoc Equal b c = refl
then_assoc Greater b c = refl

-- an order other than `Equal` decides
first_decides : (r s : Ordering) → r ≢ Equal → r ≡ ordering_then r s
first_decides Less s differs = refl
first_decides Equal s differs = absurd (differs refl)
first_decides Greater s differs = refl

-- equally long fronts are compared first
fronts_first : (p q u v : List ℕ) → length p ≡ length q
    → slice_cmp nat_cmp (p ++ u) (q ++ v) ≡ ordering_then (slice_cmp nat_cmp p q) (slice_cmp nat_cmp u v)
fronts_first [] [] u v e = refl
fronts_first [] (y ∷ ys) u v e = absurd (omega (arith, e))
fronts_first (x ∷ xs) [] u v e = absurd (omega (arith, e))
fronts_first (x ∷ xs) (y ∷ ys) u v e =
    ap (ordering_then (nat_cmp x y)) (fronts_first xs ys u v (omega (arith, e)))
    ∙ sym (then_assoc (nat_cmp x y) (slice_cmp nat_cmp xs ys) (slice_cmp nat_cmp u v))

-- a list is its front of `n` elements, and then the rest
split : (n : ℕ) (p u : List ℕ) → p ++ u ≡ take n p ++ (drop n p ++ u)
split n p u = ap (λ t. t ++ u) (sym (take-append-drop n p)) ∙ append_assoc (take n p) (drop n p) u

-- fronts of `n` elements are compared first
by_fronts : (n : ℕ) (p q u v : List ℕ) → n ≤ length p → n ≤ length q
    → slice_cmp nat_cmp (p ++ u) (q ++ v)
    ≡ ordering_then (slice_cmp nat_cmp (take n p) (take n q)) (slice_cmp nat_cmp (drop n p ++ u) (drop n q ++ v))
by_fronts n p q u v hp hq =
    (λ i. slice_cmp nat_cmp (split n p u i) (split n q v i))
    ∙ fronts_first (take n p) (take n q) (drop n p ++ u) (drop n q ++ v) (length-take-le n p hp ∙ sym (length-take-le n q hq))

-- fronts that differ decide
pub fronts_differ : (n : ℕ) (p q u v : List ℕ) (r : Ordering) → n ≤ length p → n ≤ length q
    → r ≡ slice_cmp nat_cmp (take n p) (take n q) → r ≢ Equal → r ≡ slice_cmp nat_cmp (p ++ u) (q ++ v)
fronts_differ n p q u v r hp hq is differs =
    first_decides r _ differs
    ∙ ap (λ o. ordering_then o (slice_cmp nat_cmp (drop n p ++ u) (drop n q ++ v))) is
    ∙ sym (by_fronts n p q u v hp hq)

-- fronts that are equal are dropped
pub fronts_tie : (n : ℕ) (p q u v : List ℕ) (r : Ordering) → n ≤ length p → n ≤ length q
    → r ≡ slice_cmp nat_cmp (take n p) (take n q) → r ≡ Equal
    → slice_cmp nat_cmp (p ++ u) (q ++ v) ≡ slice_cmp nat_cmp (drop n p ++ u) (drop n q ++ v)
fronts_tie n p q u v r hp hq is tie =
    by_fronts n p q u v hp hq
    ∙ ap (λ o. ordering_then o (slice_cmp nat_cmp (drop n p ++ u) (drop n q ++ v))) (sym is ∙ tie)

-- the end is less than any element
pub ends_first : (q v : List ℕ) → 0 < length q → Less ≡ slice_cmp nat_cmp [] (q ++ v)
ends_first [] v h = absurd (omega (arith, h))
ends_first (y ∷ ys) v h = refl

-- any element is greater than the end
pub ends_last : (p u : List ℕ) → 0 < length p → Greater ≡ slice_cmp nat_cmp (p ++ u) []
ends_last [] u h = absurd (omega (arith, h))
ends_last (x ∷ xs) u h = refl
