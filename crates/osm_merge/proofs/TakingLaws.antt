-- Two lists that ascend by an order, merged: the versions before a version that is taken move as a whole. By the order
-- of versions, it is the merge of two sets.
use Rattle.std.proofs.Common.{◌≡◌, ℕ, zero, suc, ◌+◌, ◌<◌, ◌≤◌, true, false, List, [], ◌∷◌, ◌++◌, length, take, drop, get_or, refl, sym, ap}
use Rattle.std.proofs.Common.{◌∙◌, arith, cond, inl, inr, append_assoc, length-append, length-drop, ◌-◌}
use Rattle.std.proofs.lemmas.Bool.{false≢true, cases_lt}
use Rattle.std.proofs.lemmas.List.{take-append-drop, get_or_default, take_more, drop_more, take_all, length-take-le, nil_from_length}
use Rattle.std.proofs.lemmas.Map.Keys.{Less-from_sorted}
use Rattle.std.specs.declared.cmp.Ordering.{Ordering}
use Rattle.std.specs.declared.cmp.Ordering.TheVariants.{Less, Equal, Greater}
use Rattle.std.specs.Ordering.{is_eq, is_lt}
use Rattle.std.specs.Cmp.{IsTotalOrder}
use Rattle.std.specs.List.{AllByRecursion, AllWithin}
use Rattle.std.specs.List.Sorted.{IsStrictlySortedBy}
use Rattle.osm_model.specs.Data.{VersionData}
use Rattle.osm_model.specs.Order.{version_cmp, version_cmp_total, object_cmp_total}
use Rattle.osm_model.specs.Merged.{merge, merge_from}
use Rattle.osm_model.proofs.SetLaws.{is_less}
use Rattle.osm_merge.specs.declared.taking.OrderBy.{OrderBy}
use Rattle.osm_merge.specs.declared.taking.OrderBy.TheVariants.{Versions, Objects}
use Rattle.osm_merge.specs.Taking.{order_of, greater_of, IsCountBelow, rest_after_tie, greater_tied, merge_by, merge_by_from}

-- Each of the two orders is total.
pub order_total : (order : OrderBy) → IsTotalOrder (order_of order)
order_total Versions = version_cmp_total
order_total Objects = object_cmp_total

-- a property of the items before an index, and of those from it on
front_all : {K : Type 0} (P : K → Type 0) (xs : List K) (n : ℕ) → n ≤ length xs → AllWithin P xs 0 n → AllByRecursion P (take n xs)
front_all P [] zero h all = tt
front_all P [] (suc n) h all = tt
front_all P (x ∷ xs) zero h all = tt
front_all P (x ∷ xs) (suc n) h all = (
  all 0 x (omega arith) (omega arith),
  front_all P xs n (omega arith) (λ k d low below. all (suc k) d (omega arith) (omega arith)),
)

module _ (R : VersionData → VersionData → Ordering) where
  pub merge_by-nil : (xs : List VersionData) → merge_by R xs [] ≡ xs
  merge_by-nil [] = refl
  merge_by-nil (x ∷ xs) = ap (λ t. x ∷ t) (merge_by-nil xs)

  merge_by-less : (x y : VersionData) (xs ys : List VersionData) → R x y ≡ Less → merge_by R (x ∷ xs) (y ∷ ys) ≡ x ∷ merge_by R xs (y ∷ ys)
  merge_by-less x y xs ys e =
      ap (λ r. elim r as (λ _. List VersionData) [
        | Less ↦ x ∷ merge_by R xs (y ∷ ys)
        | Equal ↦ greater_of x y ∷ merge_by R xs ys
        | Greater ↦ y
            ∷ merge_by R (x ∷ xs) ys
      ]) e

  -- the first version of a list isn't below `y`
  abbrev NoneBelow : VersionData → List VersionData → Type 0
  NoneBelow y [] = Unit {0}
  NoneBelow y (z ∷ zs) = is_lt (R z y) ≡ false

  first_not_below : (y : VersionData) (xs : List VersionData) (n : ℕ) → AllWithin (λ x. is_lt (R x y) ≡ false) xs n (length xs) →
      NoneBelow y (drop n xs)
  first_not_below y [] zero all = tt
  first_not_below y [] (suc n) all = tt
  first_not_below y (x ∷ xs) zero all = all 0 x (omega arith) (omega arith)
  first_not_below y (x ∷ xs) (suc n) all = first_not_below y xs n (λ k d low below. all (suc k) d (omega arith) (omega arith))

  -- the versions below the first version of the right list stay in front
  merge_by-run : (xs zs : List VersionData) (y : VersionData) (ys : List VersionData) → AllByRecursion (λ x. R x y ≡ Less) xs →
      merge_by R (xs ++ zs) (y ∷ ys) ≡ xs ++ merge_by R zs (y ∷ ys)
  merge_by-run [] zs y ys h = refl
  merge_by-run (x ∷ xs) zs y ys h = merge_by-less x y (xs ++ zs) ys h.0 ∙ ap (λ t. x ∷ t) (merge_by-run xs zs y ys h.1)

  -- then comes the first version of the right list, or the greater one if another ties with it
  merge_by-put : (zs : List VersionData) (y : VersionData) (ys : List VersionData) → NoneBelow y zs →
      merge_by R zs (y ∷ ys) ≡ greater_tied R y zs ∷ merge_by R (rest_after_tie R y zs) ys
  merge_by-put [] y ys h = refl
  merge_by-put (z ∷ zs) y ys h =
      elim (R z y) as (λ r. is_lt r ≡ false →
      (elim r as (λ _. List VersionData) [
        | Less ↦ z ∷ merge_by R zs (y ∷ ys)
        | Equal ↦ greater_of z y ∷ merge_by R zs ys
        | Greater ↦ y
            ∷ merge_by R (z ∷ zs) ys
      ])
      ≡ cond (is_eq r) (greater_of z y) y ∷ merge_by R (cond (is_eq r) zs (z ∷ zs)) ys) [
        | Less ↦ λ e. absurd (false≢true (sym e))
        | Equal ↦ λ e. refl
        | Greater ↦ λ e. refl
      ] h

  -- one version is taken: the versions before its index, the version or the greater one that ties with it, and the rest
  pub merge_by-step : (xs : List VersionData) (y : VersionData) (ys : List VersionData) (n : ℕ) → IsCountBelow R y xs n →
      merge_by R xs (y ∷ ys) ≡ take n xs ++ greater_tied R y (drop n xs) ∷ merge_by R (rest_after_tie R y (drop n xs)) ys
  merge_by-step xs y ys n h =
      ap (λ t. merge_by R t (y ∷ ys)) (sym (take-append-drop n xs))
      ∙ merge_by-run (take n xs) (drop n xs) y ys (front_all (λ x. R x y ≡ Less) xs n h.0 h.1.0)
      ∙ ap (λ t. take n xs ++ t) (merge_by-put (drop n xs) y ys (first_not_below y xs n h.1.1))

  drop_ascends : (n : ℕ) (xs : List VersionData) → IsStrictlySortedBy R xs → IsStrictlySortedBy R (drop n xs)
  unfolding IsStrictlySortedBy
  drop_ascends zero xs h = h
  drop_ascends (suc n) [] h = h
  drop_ascends (suc n) (x ∷ xs) h = drop_ascends n xs h.1

  untied_ascends : (y : VersionData) (xs : List VersionData) → IsStrictlySortedBy R xs → IsStrictlySortedBy R (rest_after_tie R y xs)
  unfolding IsStrictlySortedBy
  untied_ascends y [] h = h
  untied_ascends y (x ∷ xs) h = elim (is_eq (R x y)) as (λ b. IsStrictlySortedBy R (cond b xs (x ∷ xs))) [ true ↦ h.1 | false ↦ h ]

  -- the rest after a version is taken ascends
  pub left_ascends : (y : VersionData) (n : ℕ) (xs : List VersionData) → IsStrictlySortedBy R xs →
      IsStrictlySortedBy R (rest_after_tie R y (drop n xs))
  left_ascends y n xs h = untied_ascends y (drop n xs) (drop_ascends n xs h)

  pub untied_shorter : (y : VersionData) (xs : List VersionData) → length (rest_after_tie R y xs) ≤ length xs
  untied_shorter y [] = omega arith
  untied_shorter y (x ∷ xs) = elim (is_eq (R x y)) as
      (λ b. length (cond b xs (x ∷ xs)) ≤ length (x ∷ xs)) [ true ↦ omega arith | false ↦ omega arith ]

-- The versions before `low` are below the version `v`, and no version from `high` on is.
pub record IsHalving (R : VersionData → VersionData → Ordering) (v : VersionData) (xs : List VersionData) (low high : ℕ) : Type 0 where
  pub inside : (low ≤ high) × (high ≤ length xs)
  pub below : AllWithin (λ x. R x v ≡ Less) xs 0 low
  pub others : AllWithin (λ x. is_lt (R x v) ≡ false) xs high (length xs)

module _ {R : VersionData → VersionData → Ordering} (o : IsTotalOrder R) (v : VersionData) (xs : List VersionData)
    (up : IsStrictlySortedBy R xs) where
  up_to_below : (k middle : ℕ) (d : VersionData) → k ≤ middle → middle < length xs → R (get_or xs middle d) v ≡ Less →
      R (get_or xs k d) v ≡ Less
  up_to_below k middle d to inside less =
      elim (cases_lt k middle) [
        | inl before ↦ o.trans _ _ v (Less-from_sorted R xs k middle d up before inside) less
        | inr from ↦ let same : k ≡ middle = omega arith in ap (λ (i : ℕ). R (get_or xs i d) v) same ∙ less
      ]

  from_not_below : (k middle : ℕ) (d : VersionData) → middle ≤ k → k < length xs → is_lt (R (get_or xs middle d) v) ≡ false →
      is_lt (R (get_or xs k d) v) ≡ false
  from_not_below k middle d from inside none =
      elim (is_lt (R (get_or xs k d) v)) as (λ b. is_lt (R (get_or xs k d) v) ≡ b → b ≡ false) [
        | true ↦ λ e. absurd (false≢true (sym none ∙ ap is_lt (up_to_below middle k d from inside (is_less _ e))))
        | false ↦ λ _. refl
      ] refl

  module _ (low high middle low2 high2 : ℕ) (d : VersionData) (h : IsHalving R v xs low high) (from : low ≤ middle)
      (to : middle < high) where
    at : (d2 : VersionData) → get_or xs middle d2 ≡ get_or xs middle d
    at d2 = get_or_default xs middle d2 d (omega (arith, h.inside.1, to))

    -- the version at the middle is below `v`, and so are those before it
    pub halving_up : is_lt (R (get_or xs middle d) v) ≡ true → low2 ≡ middle + 1 → high2 ≡ high → IsHalving R v xs low2 high2
    halving_up less moved same = rw (moved, same) (record {
      inside = (omega arith, h.inside.1);
      below = λ k d2 _ before. up_to_below k middle d2 (omega arith) (omega (arith, h.inside.1, to))
          (ap (λ (x : VersionData). R x v) (at d2) ∙ is_less _ less);
      others = h.others;
    })

    -- the version at the middle isn't below `v`, and neither are those after it
    pub halving_down : is_lt (R (get_or xs middle d) v) ≡ false → low2 ≡ low → high2 ≡ middle → IsHalving R v xs low2 high2
    halving_down none same moved = rw (same, moved) (record {
      inside = (from, omega (arith, h.inside.1, to));
      below = h.below;
      others = λ k d2 after inside. from_not_below k middle d2 after inside (ap (λ (x : VersionData). is_lt (R x v)) (at d2) ∙ none);
    })

-- ---- moving
-- the first version of the rest is moved after those that were moved
module _ (done all left left2 moved moved2 : List VersionData) (n : ℕ) (v : VersionData) (moved_is : moved ≡ done ++ take n all)
    (left_is : left ≡ drop n all) (next : left ≡ v ∷ left2) where
  inside : n < length all
  inside = omega (arith, length-drop n all, ap length left_is, ap length next)

  split : get_or all n v ∷ drop (n + 1) all ≡ v ∷ left2
  split = sym (drop_more all n v inside) ∙ sym left_is ∙ next

  -- One more version was moved to those that are done.
  pub one_moved : moved2 ≡ moved ++ v ∷ [] → moved2 ≡ done ++ take (n + 1) all
  one_moved more =
      more
      ∙ ap (λ t. t ++ v ∷ []) moved_is
      ∙ append_assoc done (take n all) (v ∷ [])
      ∙ ap (λ t. done ++ t) (ap (λ (x : VersionData). take n all ++ x ∷ []) (sym (ap (λ t. get_or t 0 v) split))
      ∙ sym (take_more all n v inside))

  -- One version less is left.
  pub one_left : left2 ≡ drop (n + 1) all
  one_left = sym (ap (drop 1) split)

-- The moved versions, and then the merge of both rests, are the whole, and there is room for all versions of the rests.
pub record IsTaking (R : VersionData → VersionData → Ordering) (whole moved held more : List VersionData) (space : ℕ) : Type 0 where
  pub ascends : IsStrictlySortedBy R held
  pub makes : moved ++ merge_by R held more ≡ whole
  pub room : length moved + (length held + length more) ≤ space

module _ (R : VersionData → VersionData → Ordering) (whole moved held more : List VersionData) (space : ℕ) where
  -- one version was taken
  pub taking_step : (v : VersionData) (more2 moved2 moved3 held2 held3 : List VersionData) (n space2 : ℕ) →
      IsTaking R whole moved held more space → more ≡ v ∷ more2 → IsCountBelow R v held n →
      moved2 ≡ moved ++ take n held → held2 ≡ drop n held → held3 ≡ rest_after_tie R v held2 → moved3 ≡ moved2 ++ greater_tied R v held2
      ∷ [] →
      space2 ≡ space →
      IsTaking R whole moved3 held3 more2 space2
  taking_step v more2 moved2 moved3 held2 held3 n space2 h next place front after rest put same =
      let w = greater_tied R v (drop n held) in
      let left : held3 ≡ rest_after_tie R v (drop n held) = rest ∙ ap (rest_after_tie R v) after in
      let all : moved3 ≡ (moved ++ take n held) ++ w ∷ [] = put ∙ (λ i. front i ++ greater_tied R v (after i) ∷ []) in
      record {
        ascends = rw left (left_ascends R v n held h.ascends);
        makes =
            (λ i. all i ++ merge_by R (left i) more2)
            ∙ append_assoc (moved ++ take n held) (w ∷ []) (merge_by R (rest_after_tie R v (drop n held)) more2)
            ∙ append_assoc moved (take n held) (w ∷ merge_by R (rest_after_tie R v (drop n held)) more2)
            ∙ ap (λ t. moved ++ t) (sym (merge_by-step R held v more2 n place) ∙ ap (merge_by R held) (sym next))
            ∙ h.makes;
        room =
            let long : length moved3 ≡ length moved + n + 1 =
            ap length all ∙ length-append (moved ++ take n held) (w ∷ [])
            ∙ ap (λ (k : ℕ). k + 1) (length-append moved (take n held)
            ∙ ap (λ (k : ℕ). length moved + k) (length-take-le n held place.0)) in
            let short : length held3 ≤ length held - n = rw (left, ← length-drop n held) (untied_shorter R v (drop n held)) in
            omega (arith, h.room, long, short, ap length next, same, place.0);
      }

  -- no version is left to take, and the held versions move
  pub taking_ends : (moved2 : List VersionData) (n : ℕ) → IsTaking R whole moved held more space → length more ≡ 0 → n ≡ length held →
      moved2 ≡ moved ++ take n held → moved2 ≡ whole
  taking_ends moved2 n h none every front =
      front ∙ ap (λ t. moved ++ t) (take_all n held (omega (arith, every)) ∙ sym (merge_by-nil R held)
      ∙ ap (merge_by R held) (sym (nil_from_length more none))) ∙ h.makes

-- ---- by versions
same_from : (x : VersionData) (rest rest2 : List VersionData → List VersionData) → ((zs : List VersionData) → rest zs ≡ rest2 zs) →
    (ys : List VersionData) →
    merge_by_from version_cmp x rest ys ≡ merge_from version_cmp x rest2 ys
same_from x rest rest2 k [] = ap (λ t. x ∷ t) (k [])
same_from x rest rest2 k (y ∷ ys) =
    elim (version_cmp x y) as (λ r. version_cmp x y ≡ r →
    (elim r as (λ _. List VersionData) [
      | Less ↦ x ∷ rest (y ∷ ys)
      | Equal ↦ greater_of x y ∷ rest ys
      | Greater ↦ y
          ∷ merge_by_from version_cmp x rest ys
    ])
    ≡ (elim r as (λ _. List VersionData) [
      | Less ↦ x ∷ rest2 (y ∷ ys)
      | Equal ↦ x ∷ rest2 ys
      | Greater ↦ y
          ∷ merge_from version_cmp x rest2 ys
    ])) [
      | Less ↦ λ e. ap (λ t. x ∷ t) (k (y ∷ ys))
      | Equal ↦ λ e. (λ i. cond (is_lt (e i)) y x ∷ k ys i)
      | Greater ↦ λ e. ap (λ t. y ∷ t) (same_from x rest rest2 k ys)
    ] refl

-- two versions that tie are equal, so one of them is dropped
pub joined_versions : (xs ys : List VersionData) → merge_by version_cmp xs ys ≡ merge version_cmp xs ys
joined_versions [] ys = refl
joined_versions (x ∷ xs) ys = same_from x (merge_by version_cmp xs) (merge version_cmp xs) (joined_versions xs) ys
