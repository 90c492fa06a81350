-- The bound between two shards: the search among objects that ascend, and that their order makes no difference.
use Rattle.std.proofs.Common.{◌≡◌, ◌⊎◌, inl, inr, ⊎_elim, ℕ, suc, ◌+◌, ◌*◌, Bool, true, false, cond, nat_le}
use Rattle.std.proofs.Common.{List, [], ◌∷◌, ◌++◌, map, refl, sym, ap, ◌∙◌, subst, arith, Option, Some, None}
use Rattle.std.proofs.Common.{append_assoc}
use Rattle.std.specs.Prelude.{ℤ, pos, negsuc, unsigned_abs}
use Rattle.std.proofs.lemmas.Bool.{false≢true, ltb-false}
use Rattle.std.specs.declared.cmp.Ordering.{Ordering}
use Rattle.std.specs.declared.cmp.Ordering.TheVariants.{Less, Equal, Greater}
use Rattle.std.specs.Ordering.{is_lt, is_gt, bool_cmp}
use Rattle.std.specs.Cmp.{tied_itself}
use Rattle.std.specs.FinMap.{nat_cmp-IsAntisymmetric}
use Rattle.std.specs.List.{filter, Contains, AllByRecursion}
use Rattle.std.specs.List.Sorted.{IsPermutation}
use Rattle.std.proofs.lemmas.List.{map-append}
use Rattle.std.proofs.lemmas.List.Elements.{All-contains, All-from_recursion, filter_agree, Contains-append_right}
use Rattle.std.proofs.lemmas.List.Sorted.{Contains-permutation, IsPermutation-refl, IsPermutation-sym}
use Rattle.std.proofs.lemmas.List.Sorted.{IsPermutation-map, sum_by-IsPermutation}
use Rattle.std.proofs.lemmas.List.Sums.{sum_by-cons, sum_by-append, sum_by_push}
use Rattle.osm_model.specs.declared.kind.Kind.{Kind}
use Rattle.osm_model.specs.declared.kind.Kind.TheVariants.{Node, Way, Relation}
use Rattle.osm_model.specs.declared.object.Object.{Object}
use Rattle.osm_model.specs.Kind.{kind_order}
use Rattle.osm_model.specs.Order.{is_positive, object_order, object_order_total}
use Rattle.osm_model.proofs.ObjectLaws.{below_is, not_below}
use Rattle.osm_model.proofs.TagLaws.{first_equal, second_equal}
use Rattle.osm_files.proofs.GroupLaws.{neither_joins, all_append}
use Rattle.osm_mirror.specs.declared.run.bounds.Found.{Found}
use Rattle.osm_mirror.specs.run.Bounds.{total_weight, weight_if_below, weight_below, is_past, lower, least, bound_of}
use Rattle.osm_mirror.specs.run.Probes.{Ascend, is_above}

-- ---- objects that tie are the same
same_kinds : (k l : Kind) → kind_order k ≡ kind_order l → k ≡ l
same_kinds Node Node e = refl
same_kinds Node Way e = absurd (omega (arith, e))
same_kinds Node Relation e = absurd (omega (arith, e))
same_kinds Way Node e = absurd (omega (arith, e))
same_kinds Way Way e = refl
same_kinds Way Relation e = absurd (omega (arith, e))
same_kinds Relation Node e = absurd (omega (arith, e))
same_kinds Relation Way e = absurd (omega (arith, e))
same_kinds Relation Relation e = refl

same_tests : (s t : Bool) → bool_cmp s t ≡ Equal → s ≡ t
same_tests true true e = refl
same_tests true false e = cc
same_tests false true e = cc
same_tests false false e = refl

same_ids : (i j : ℤ) → is_positive i ≡ is_positive j → unsigned_abs i ≡ unsigned_abs j → i ≡ j
same_ids (pos m) (pos n) p a = ap pos a
same_ids (pos m) (negsuc n) p a = let none = ltb-false 0 m p in absurd (omega (arith, none, a))
same_ids (negsuc m) (pos n) p a = let none = ltb-false 0 n (sym p) in absurd (omega (arith, none, a))
same_ids (negsuc m) (negsuc n) p a = ap negsuc (omega (arith, a))

same_objects : (x y : Object) → object_order x y ≡ Equal → x ≡ y
same_objects x y e =
    let front = first_equal _ _ e in
    let kinds = same_kinds x.kind y.kind (nat_cmp-IsAntisymmetric _ _ (first_equal _ _ front)) in
    let ids = same_ids x.id y.id (same_tests _ _ (second_equal _ _ front)) (nat_cmp-IsAntisymmetric _ _ (second_equal _ _ e)) in
    λ i. record { kind = kinds i; id = ids i }

-- is one object below another?
abbrev pub lt : Object → Object → Bool
lt x y = is_lt (object_order x y)

tied : (x y : Object) → lt x y ≡ false → lt y x ≡ false → x ≡ y
tied x y h k = same_objects x y (neither_joins (object_order x y) h (sym (below_is y x) ∙ k))

not_itself : (x : Object) → lt x x ≡ false
not_itself x = ap is_lt (tied_itself object_order_total x)

not_both : (r : Ordering) → is_lt r ≡ true → is_gt r ≡ false
not_both Less h = refl
not_both Equal h = absurd (false≢true h)
not_both Greater h = absurd (false≢true h)

not_back : (x y : Object) → lt x y ≡ true → lt y x ≡ false
not_back x y h = below_is y x ∙ not_both (object_order x y) h

-- an object that isn't above one below another is below the other
below_on : (x y z : Object) → lt y x ≡ false → lt y z ≡ true → lt x z ≡ true
below_on x y z h k =
    elim (lt x z) as (λ t. lt x z ≡ t → t ≡ true) [
      | true ↦ λ e. refl
      | false ↦ λ e. absurd (false≢true (sym (not_below y x z h e) ∙ k))
    ] refl

-- ---- the least object that passes a test
-- none of the objects passes the test; or this one does, and no other one that does is below it
abbrev pub IsLeast : (Object → Bool) → List Object → Option Object → Type 0
IsLeast p xs None = AllByRecursion (λ y. p y ≡ false) xs
IsLeast p xs (Some x) = Contains xs x × (p x ≡ true) × AllByRecursion (λ y. p y ≡ true → lt y x ≡ false) xs

module _ (p : Object → Bool) where
  weaker : (x : Object) (ys : List Object) → AllByRecursion (λ y. p y ≡ false) ys → AllByRecursion (λ y. p y ≡ true → lt y x ≡ false) ys
  weaker x [] h = tt
  weaker x (y ∷ ys) h = ((λ e. absurd (false≢true (sym h.0 ∙ e))), weaker x ys h.1)

  lowered : (x z : Object) (ys : List Object) → lt z x ≡ false → AllByRecursion (λ y. p y ≡ true → lt y z ≡ false) ys →
      AllByRecursion (λ y. p y ≡ true → lt y x ≡ false) ys
  lowered x z [] low h = tt
  lowered x z (y ∷ ys) low h = ((λ e. not_below y z x (h.0 e) low), lowered x z ys low h.1)

  later : (x y : Object) (ys : List Object) → Contains ys x → Contains (y ∷ ys) x
  later x y ys (k, within, is) = (suc k, omega (arith, within), is)

  lower_more : (x : Object) (xs : List Object) (o : Option Object) → p x ≡ true → IsLeast p xs o → IsLeast p (x ∷ xs) (Some (lower x o))
  lower_more x xs None e h = ((0, omega arith, refl), e, ((λ k. not_itself x), weaker x xs h))
  lower_more x xs (Some z) e h =
      elim (lt z x) as (λ t. lt z x ≡ t → IsLeast p (x ∷ xs) (Some (cond t z x))) [
        | true ↦ λ k. (later z x xs h.0, h.1, ((λ l. not_back z x k), h.2))
        | false ↦ λ k. ((0, omega arith, refl), e, ((λ l. not_itself x), lowered x z xs k h.2))
      ] refl

  skipped : (x : Object) (xs : List Object) (o : Option Object) → p x ≡ false → IsLeast p xs o → IsLeast p (x ∷ xs) o
  skipped x xs None e h = (e, h)
  skipped x xs (Some z) e h = (later z x xs h.0, h.1, ((λ k. absurd (false≢true (sym e ∙ k))), h.2))

  pub least_is : (xs : List Object) → IsLeast p xs (least (filter p xs))
  least_is [] = tt
  least_is (x ∷ xs) =
      elim (p x) as (λ t. p x ≡ t → IsLeast p (x ∷ xs) (least (cond t (x ∷ filter p xs) (filter p xs)))) [
        | true ↦ λ e. lower_more x xs (least (filter p xs)) e (least_is xs)
        | false ↦ λ e. skipped x xs (least (filter p xs)) e (least_is xs)
      ] refl

  -- two lists with the same members
  no_other : (xs ys : List Object) → IsPermutation xs ys → (x : Object) → Contains xs x → p x ≡ true →
      AllByRecursion (λ y. p y ≡ false) ys → ⊥
  no_other xs ys moved x has e none =
      false≢true (sym (All-contains (λ y. p y ≡ false) ys x (All-from_recursion (λ y. p y ≡ false) ys none)
      (Contains-permutation xs ys x moved has)) ∙ e)

  not_lower : (xs ys : List Object) → IsPermutation xs ys → (x z : Object) → Contains xs x → p x ≡ true →
      AllByRecursion (λ y. p y ≡ true → lt y z ≡ false) ys → lt x z ≡ false
  not_lower xs ys moved x z has e all =
      All-contains (λ y. p y ≡ true → lt y z ≡ false) ys x (All-from_recursion (λ y. p y ≡ true → lt y z ≡ false) ys all)
      (Contains-permutation xs ys x moved has) e

  pub one_least : (xs ys : List Object) → IsPermutation xs ys → (o q : Option Object) → IsLeast p xs o → IsLeast p ys q → o ≡ q
  one_least xs ys moved None None h k = refl
  one_least xs ys moved None (Some z) h k = absurd (no_other ys xs (IsPermutation-sym xs ys moved) z k.0 k.1 h)
  one_least xs ys moved (Some x) None h k = absurd (no_other xs ys moved x h.0 h.1 k)
  one_least xs ys moved (Some x) (Some z) h k =
      ap Some (tied x z (not_lower xs ys moved x z h.0 h.1 k.2)
      (not_lower ys xs (IsPermutation-sym xs ys moved) z x k.0 k.1 h.2))

-- ---- the order of the found objects makes no difference
abbrev pub objects : List Found → List Object
objects found = map (λ f. f.object) found

module _ (number count : ℕ) where
  past_alike : (found others : List Found) → IsPermutation found others → (x : Object) →
      is_past number count found x ≡ is_past number count others x
  past_alike found others moved x = λ i. nat_le (sym (sum_by-IsPermutation (λ f. f.weight) found others moved) i * number)
      (sym (sum_by-IsPermutation (weight_if_below x) found others moved) i * count)

  pub bound_moved : (found others : List Found) → IsPermutation found others → bound_of number count found ≡ bound_of number count others
  bound_moved found others moved =
      ap least (filter_agree (is_past number count found) (is_past number count others) (past_alike found others moved) (objects found))
      ∙ one_least (is_past number count others) (objects found) (objects others)
      (IsPermutation-map (λ f. f.object) found others moved) _ _
      (least_is (is_past number count others) (objects found)) (least_is (is_past number count others) (objects others))

-- ---- objects that ascend
-- the objects ascend after one
abbrev pub Rise : Found → List Found → Type 0
Rise x [] = Unit {0}
Rise x (y ∷ ys) = (lt y.object x.object ≡ false) × Rise y ys

abbrev pub AllRise : List Found → Type 0
AllRise [] = Unit {0}
AllRise (x ∷ xs) = Rise x xs

rise_after : (x : Found) (xs : List Found) → Ascend (x ∷ xs) → Rise x xs
rise_after x [] h = tt
rise_after x (y ∷ ys) h = (
  h 0 x (omega arith) (omega arith),
  rise_after y ys (λ k d low within. let e : suc k + 1 ≡ suc (k + 1) = omega arith in rw e at (h (suc k) d (omega arith) (omega arith))),
)

pub all_rise : (xs : List Found) → Ascend xs → AllRise xs
all_rise [] h = tt
all_rise (x ∷ xs) h = rise_after x xs h

rest_rises : (x : Found) (xs : List Found) → Rise x xs → AllRise xs
rest_rises x [] h = tt
rest_rises x (y ∷ ys) h = h.1

above_all : (x : Object) (y : Found) (ys : List Found) → lt y.object x ≡ false → Rise y ys → AllByRecursion (λ z. lt z.object x ≡ false) ys
above_all x y [] h r = tt
above_all x y (z ∷ zs) h r = let e = not_below z.object y.object x r.0 h in (e, above_all x z zs e r.1)

at_seam : (P : Found → Type 0) (xs : List Found) (y : Found) (ys : List Found) → AllByRecursion P (xs ++ y ∷ ys) → P y
at_seam P [] y ys h = h.0
at_seam P (x ∷ xs) y ys h = at_seam P xs y ys h.1

-- no object after one is below it
later_above : (front : List Found) (x : Found) (rest : List Found) → AllRise (front ++ x ∷ rest) →
    AllByRecursion (λ z. lt z.object x.object ≡ false) (x ∷ rest)
later_above [] x rest h = (not_itself x.object, above_all x.object x rest (not_itself x.object) h)
later_above (f ∷ front) x rest h = later_above front x rest (rest_rises f (front ++ x ∷ rest) h)

-- no object before one is above it
earlier_below : (front : List Found) (x : Found) (rest : List Found) → AllRise (front ++ x ∷ rest) →
    AllByRecursion (λ f. lt x.object f.object ≡ false) front
earlier_below [] x rest h = tt
earlier_below (f ∷ front) x rest h = (
  at_seam (λ z. lt z.object f.object ≡ false) front x rest (above_all f.object f (front ++ x ∷ rest) (not_itself f.object) h),
  earlier_below front x rest (rest_rises f (front ++ x ∷ rest) h),
)

-- ---- weights
none_counts : (x : Object) (zs : List Found) → AllByRecursion (λ z. lt z.object x ≡ false) zs → weight_below zs x ≡ 0
none_counts x [] h = refl
none_counts x (z ∷ zs) h =
    sum_by-cons (weight_if_below x) z zs
    ∙ (λ i. cond (h.0 i) z.weight 0 + none_counts x zs h.1 i)

all_count : (x : Object) (zs : List Found) → AllByRecursion (λ z. lt z.object x ≡ true) zs → weight_below zs x ≡ total_weight zs
all_count x [] h = refl
all_count x (z ∷ zs) h =
    sum_by-cons (weight_if_below x) z zs
    ∙ (λ i. cond (h.0 i) z.weight 0 + all_count x zs h.1 i)
    ∙ sym (sum_by-cons (λ f. f.weight) z zs)

all_below : (x y : Object) (zs : List Found) → lt y x ≡ true → AllByRecursion (λ z. lt y z.object ≡ false) zs →
    AllByRecursion (λ z. lt z.object x ≡ true) zs
all_below x y [] e h = tt
all_below x y (z ∷ zs) e h = (below_on z.object y x h.0 e, all_below x y zs e h.1)

-- the weight of the objects below one is that of those before it which are below it
pub weight_before : (front : List Found) (x : Found) (rest : List Found) → AllRise (front ++ x ∷ rest) →
    weight_below (front ++ x ∷ rest) x.object ≡ weight_below front x.object
weight_before front x rest h =
    let none = none_counts x.object (x ∷ rest) (later_above front x rest h) in
    let both = sum_by-append (weight_if_below x.object) front (x ∷ rest) in
    omega (arith, none, both)

-- ---- the search
-- the last object of a list, and the weight of the objects before it that are below it; none of an empty list
abbrev pub IsLast : List Found → Option Object → ℕ → Type 0
IsLast front last below =
    ((front ≡ []) × (last ≡ None))
    ⊎ ((init : List Found) × (y : Found) × (front ≡ init ++ y ∷ []) × (last ≡ Some y.object) × (below ≡ weight_below init y.object))

-- no object before an index is past the shares
pub record Searched (number count : ℕ) (found front : List Found) (before below : ℕ) (last : Option Object) : Type 0 where
  pub before_is : before ≡ total_weight front
  pub last_is : IsLast front last below
  pub none : AllByRecursion (λ f. is_past number count found f.object ≡ false) front

pub search_first : (number count : ℕ) (found : List Found) → Searched number count found [] 0 0 None
search_first number count found = record { before_is = refl; last_is = inl (refl, refl); none = tt }

after_last : (init : List Found) (y x : Found) (rest : List Found) → AllRise ((init ++ y ∷ []) ++ x ∷ rest) → (before below : ℕ) →
    before ≡ total_weight (init ++ y ∷ []) → below ≡ weight_below init y.object →
    cond (lt y.object x.object) before below ≡ weight_below (init ++ y ∷ []) x.object
after_last init y x rest h before below before_is below_is =
    let up = earlier_below (init ++ y ∷ []) x rest h in
    let last_up = at_seam (λ f. lt x.object f.object ≡ false) init y [] up in
    let seam : AllRise (init ++ y ∷ x ∷ rest) = subst AllRise (append_assoc init (y ∷ []) (x ∷ rest)) h in
    elim (lt y.object x.object) as (λ t. lt y.object x.object ≡ t →
    cond t before below ≡ weight_below (init ++ y ∷ []) x.object) [
      | true ↦ λ e. before_is ∙ sym (all_count x.object (init ++ y ∷ []) (all_below x.object y.object (init ++ y ∷ []) e
          (all_append (λ z. lt y.object z.object ≡ false) init (y ∷ []) (earlier_below init y (x ∷ rest) seam) (not_itself y.object, tt))))
      | false ↦ λ e. (let same : y.object ≡ x.object = tied y.object x.object e last_up in
          let whole = sum_by_push (weight_if_below x.object) init y in
          let none : weight_if_below x.object y ≡ 0 = ap (λ t. cond t y.weight 0) e in
          let swapped : weight_below init y.object ≡ weight_below init x.object = ap (weight_below init) same in
          omega (arith, whole, none, swapped, below_is))
    ] refl

-- the weight of the objects below the next one
pub next_below : (number count : ℕ) (found front : List Found) (before below : ℕ) (last : Option Object) →
    Searched number count found front before below last → (x : Found) (rest : List Found) → AllRise (front ++ x ∷ rest) →
    cond (is_above x.object last) before below ≡ weight_below front x.object
next_below number count found front before below last s x rest h =
    ⊎_elim (λ (none, first). (let e : is_above x.object last ≡ true = ap (is_above x.object) first in
    ap (λ t. cond t before below) e ∙ s.before_is ∙ ap total_weight none ∙ sym (ap (λ xs. weight_below xs x.object) none)))
    (λ (init, y, is, one, weight).
    let above : is_above x.object last ≡ lt y.object x.object = ap (is_above x.object) one in
    ap (λ t. cond t before below) above
    ∙ after_last init y x rest (subst (λ (xs : List Found). AllRise (xs ++ x ∷ rest)) is h) before below
    (s.before_is ∙ ap total_weight is) weight
    ∙ sym (ap (λ xs. weight_below xs x.object) is)) s.last_is

pub search_next : (number count : ℕ) (found front : List Found) (before below : ℕ) (last : Option Object) →
    Searched number count found front before below last → (x : Found) (next : ℕ) → next ≡ weight_below front x.object →
    is_past number count found x.object ≡ false →
    Searched number count found (front ++ x ∷ []) (before + x.weight) next (Some x.object)
search_next number count found front before below last s x next is past = record {
  before_is = ap (λ n. n + x.weight) s.before_is ∙ sym (sum_by_push (λ f. f.weight) front x);
  last_is = inr (front, x, refl, refl, is);
  none = all_append (λ f. is_past number count found f.object ≡ false) front (x ∷ []) s.none (past, tt);
}

on_objects : (P : Object → Type 0) (zs : List Found) → AllByRecursion (λ f. P f.object) zs → AllByRecursion P (objects zs)
on_objects P [] h = tt
on_objects P (z ∷ zs) h = (h.0, on_objects P zs h.1)

whatever : (p : Object → Bool) (x : Object) (zs : List Object) → AllByRecursion (λ y. lt y x ≡ false) zs →
    AllByRecursion (λ y. p y ≡ true → lt y x ≡ false) zs
whatever p x [] h = tt
whatever p x (z ∷ zs) h = ((λ e. h.0), whatever p x zs h.1)

-- The first object that is past the shares is the bound.
pub search_found : (number count : ℕ) (front : List Found) (x : Found) (rest : List Found) → AllRise (front ++ x ∷ rest) →
    AllByRecursion (λ f. is_past number count (front ++ x ∷ rest) f.object ≡ false) front →
    is_past number count (front ++ x ∷ rest) x.object ≡ true →
    Some x.object ≡ bound_of number count (front ++ x ∷ rest)
search_found number count front x rest h none past =
    let all : List Found = front ++ x ∷ rest in
    let p : Object → Bool = is_past number count all in
    let cut : objects all ≡ objects front ++ x.object ∷ objects rest = map-append (λ f. f.object) front (x ∷ rest) in
    let Low : Object → Type 0 = λ y. p y ≡ true → lt y x.object ≡ false in
    let early : AllByRecursion Low (objects front) = weaker p x.object (objects front) (on_objects (λ y. p y ≡ false) front none) in
    let late : AllByRecursion Low (x.object ∷ objects rest) =
    whatever p x.object (x.object ∷ objects rest) (on_objects (λ y. lt y x.object ≡ false) (x ∷ rest) (later_above front x rest h)) in
    let has : Contains (objects front ++ x.object ∷ objects rest) x.object =
    Contains-append_right (objects front) (x.object ∷ objects rest) x.object (0, omega arith, refl) in
    let is : IsLeast p (objects all) (Some x.object) = subst (λ (xs : List Object). IsLeast p xs (Some x.object)) (sym cut)
    (has, past, all_append Low (objects front) (x.object ∷ objects rest) early late) in
    one_least p (objects all) (objects all) (IsPermutation-refl (objects all)) (Some x.object) (bound_of number count all) is
    (least_is p (objects all))

-- If no object is past the shares, there is no bound.
pub search_ends : (number count : ℕ) (found : List Found) → AllByRecursion (λ f. is_past number count found f.object ≡ false) found →
    None ≡ bound_of number count found
search_ends number count found none =
    let p : Object → Bool = is_past number count found in
    one_least p (objects found) (objects found) (IsPermutation-refl (objects found)) None (bound_of number count found)
    (on_objects (λ y. p y ≡ false) found none) (least_is p (objects found))
