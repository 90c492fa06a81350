-- Histories after the versions of another one are taken in: the union, and its snapshot.
use Rattle.std.proofs.Common.{◌≡◌, true, false, cond, List, [], ◌∷◌, ◌++◌, refl, sym, ap, ◌∙◌, subst, Some, None, is_none, option_map}
use Rattle.std.proofs.lemmas.Bool.{false≢true}
use Rattle.std.specs.declared.cmp.Ordering.{Ordering}
use Rattle.std.specs.declared.cmp.Ordering.TheVariants.{Less, Equal, Greater}
use Rattle.std.specs.Ordering.{ordering_reverse, is_eq, is_gt, is_lt}
use Rattle.std.specs.Cmp.{IsTotalOrder, tied_back}
use Rattle.std.specs.List.{AllByRecursion}
use Rattle.std.specs.List.Sorted.{IsStrictlySortedBy}
use Rattle.osm_model.specs.Data.{VersionData}
use Rattle.osm_model.specs.Order.{object_cmp, object_cmp_total, version_cmp, version_cmp_total}
use Rattle.osm_model.specs.Merged.{merge, merge_from}
use Rattle.osm_model.specs.VersionSet.{VersionSet}
use Rattle.osm_model.specs.Sets.{to_list, from_list, union}
use Rattle.osm_model.proofs.MergedLaws.{merge-less, merge-equal, merge-greater, sorted_merged, from_list-merged}
use Rattle.osm_model.proofs.SetLaws.{to_list-from_list, strict-listed}
use Rattle.osm_model.proofs.VersionLaws.{version_cmp-IsAntisymmetric, less_first}
use Rattle.osm_model.proofs.ObjectLaws.{object_rises}
use Rattle.osm_merge.specs.declared.selection.Selection.TheVariants.{Newest}
use Rattle.osm_merge.specs.Members.{first}
use Rattle.osm_merge.specs.Pass.{singleton_if, keeps}
use Rattle.osm_merge.specs.Selected.{moment, snapshot}
use Rattle.osm_merge.specs.declared.taking.OrderBy.{OrderBy}
use Rattle.osm_merge.specs.declared.taking.OrderBy.TheVariants.{Versions, Objects}
use Rattle.osm_merge.specs.Taking.{order_of, union_by, greater_of, merge_by}
use Rattle.osm_files.proofs.HoldLaws.{set_listed}
use Rattle.osm_merge.proofs.NewestLaws.{newest_of}
use Rattle.osm_merge.proofs.SelectedLaws.{pass_of_set}
use Rattle.osm_merge.proofs.SnapLaws.{snapshot_of_union, snapshot_of_snapshot}
use Rattle.osm_merge.proofs.TakingLaws.{joined_versions}

-- ---- orders
object_less : (v w : VersionData) → object_cmp v w ≡ Less → version_cmp v w ≡ Less
object_less v w e = less_first _ _ (less_first _ _ (less_first _ _ (less_first _ _ e)))

turned : {R : VersionData → VersionData → Ordering} → IsTotalOrder R → (v w : VersionData) → R v w ≡ Less → R w v ≡ Greater
turned {R} o v w e = o.antisymm w v ∙ ap ordering_reverse e

turned_back : {R : VersionData → VersionData → Ordering} → IsTotalOrder R → (v w : VersionData) → R v w ≡ Greater → R w v ≡ Less
turned_back {R} o v w e = o.antisymm w v ∙ ap ordering_reverse e

-- the objects of some versions are after that of `v`
abbrev Apart : VersionData → List VersionData → Type 0
Apart v ws = AllByRecursion (λ w. object_cmp v w ≡ Less) ws

apart_less : (v w : VersionData) (ws : List VersionData) → object_cmp v w ≡ Less → Apart w ws → Apart v ws
apart_less v w [] e h = tt
apart_less v w (z ∷ zs) e h = (object_cmp_total.trans v w z e h.0, apart_less v w zs e h.1)

apart_equal : (v w : VersionData) (ws : List VersionData) → object_cmp v w ≡ Equal → Apart w ws → Apart v ws
apart_equal v w [] e h = tt
apart_equal v w (z ∷ zs) e h = (object_cmp_total.congr v w z e ∙ h.0, apart_equal v w zs e h.1)

all_from : (P : VersionData → Type 0) (R : VersionData → VersionData → Ordering) (x : VersionData)
    (rest : List VersionData → List VersionData) →
    ((zs : List VersionData) → AllByRecursion P zs → AllByRecursion P (rest zs)) → P x → (ys : List VersionData) → AllByRecursion P ys →
    AllByRecursion P (merge_from R x rest ys)
all_from P R x rest k h [] g = (h, k [] tt)
all_from P R x rest k h (y ∷ ys) g =
    elim (R x y) as (λ r. AllByRecursion P (elim r as
    (λ _. List VersionData) [ Less ↦ x ∷ rest (y ∷ ys) | Equal ↦ x ∷ rest ys | Greater ↦ y ∷ merge_from R x rest ys ])) [
      | Less ↦ (h, k (y ∷ ys) g)
      | Equal ↦ (h, k ys g.1)
      | Greater ↦ (g.0, all_from P R x rest k h ys g.1)
    ]

all_merged : (P : VersionData → Type 0) (R : VersionData → VersionData → Ordering) (xs ys : List VersionData) → AllByRecursion P xs →
    AllByRecursion P ys → AllByRecursion P (merge R xs ys)
all_merged P R [] ys h g = g
all_merged P R (x ∷ xs) ys h g = all_from P R x (merge R xs) (λ zs. all_merged P R xs zs h.1) h.0 ys g

-- ---- the newest versions
keeps_apart : (v : VersionData) (ws : List VersionData) → Apart v ws → keeps Newest v (first ws) ≡ true
keeps_apart v [] h = refl
keeps_apart v (w ∷ ws) h = ap (λ r. is_none (option_map moment (cond (is_eq r) (Some w) None))) h.0

newest_keeps : (v : VersionData) (ws : List VersionData) → Apart v ws → newest_of (v ∷ ws) ≡ v ∷ newest_of ws
newest_keeps v ws h = ap (λ b. singleton_if b v ++ newest_of ws) (keeps_apart v ws h)

newest_drops : (v w : VersionData) (ws : List VersionData) → object_cmp v w ≡ Equal → newest_of (v ∷ w ∷ ws) ≡ newest_of (w ∷ ws)
newest_drops v w ws e = ap (λ r. singleton_if (is_none (option_map moment (cond (is_eq r) (Some w) None))) v ++ newest_of (w ∷ ws)) e

-- a version whose object is before the others comes first in a merge
front_left : (x : VersionData) (xs ys : List VersionData) → Apart x ys → merge version_cmp (x ∷ xs) ys ≡ x ∷ merge version_cmp xs ys
front_left x xs [] h = refl
front_left x xs (y ∷ ys) h = merge-less version_cmp x y xs ys (object_less x y h.0)

front_right : (y : VersionData) (xs ys : List VersionData) → Apart y xs → merge version_cmp xs (y ∷ ys) ≡ y ∷ merge version_cmp xs ys
front_right y [] ys h = refl
front_right y (x ∷ xs) ys h = merge-greater version_cmp x y xs ys (turned version_cmp_total y x (object_less y x h.0))

-- two versions of one object, of which the greater one is the newest
newest_tied : (x y : VersionData) (xs ys : List VersionData) → Apart x xs → Apart y ys → object_cmp x y ≡ Equal →
    newest_of (merge version_cmp (x ∷ xs) (y ∷ ys)) ≡ greater_of x y ∷ newest_of (merge version_cmp xs ys)
newest_tied x y xs ys h g e =
    let back : object_cmp y x ≡ Equal = tied_back object_cmp_total x y e in
    let x_ys : Apart x ys = apart_equal x y ys e g in
    let y_xs : Apart y xs = apart_equal y x xs back h in
    let x_keeps : newest_of (x ∷ merge version_cmp xs ys) ≡ x ∷ newest_of (merge version_cmp xs ys) =
    newest_keeps x (merge version_cmp xs ys) (all_merged _ version_cmp xs ys h x_ys) in
    let y_keeps : newest_of (y ∷ merge version_cmp xs ys) ≡ y ∷ newest_of (merge version_cmp xs ys) =
    newest_keeps y (merge version_cmp xs ys) (all_merged _ version_cmp xs ys y_xs g) in
    elim (version_cmp x y) as (λ r. version_cmp x y ≡ r →
    newest_of (merge version_cmp (x ∷ xs) (y ∷ ys)) ≡ cond (is_lt r) y x ∷ newest_of (merge version_cmp xs ys)) [
      | Less ↦ λ f.
          ap newest_of (merge-less version_cmp x y xs ys f ∙ ap (λ t. x ∷ t) (front_right y xs ys y_xs))
          ∙ newest_drops x y (merge version_cmp xs ys) e ∙ y_keeps
      | Equal ↦ λ f. ap newest_of (merge-equal version_cmp x y xs ys f) ∙ x_keeps
      | Greater ↦ λ f.
          ap newest_of (merge-greater version_cmp x y xs ys f ∙ ap (λ t. y ∷ t) (front_left x xs ys x_ys))
          ∙ newest_drops y x (merge version_cmp xs ys) back ∙ x_keeps
    ] refl

newest_from : (x : VersionData) (xs : List VersionData) → Apart x xs →
    ((zs : List VersionData) → IsStrictlySortedBy object_cmp zs → merge_by object_cmp xs zs ≡ newest_of (merge version_cmp xs zs)) →
    (ys : List VersionData) → IsStrictlySortedBy object_cmp ys → merge_by object_cmp (x ∷ xs) ys ≡ newest_of (merge version_cmp (x ∷ xs) ys)
unfolding IsStrictlySortedBy
newest_from x xs h k [] g =
    ap (λ t. x ∷ t) (k [] tt)
    ∙ sym (newest_keeps x (merge version_cmp xs []) (all_merged _ version_cmp xs [] h tt))
newest_from x xs h k (y ∷ ys) g =
    elim (object_cmp x y) as (λ r. object_cmp x y ≡ r →
    (elim r as (λ _. List VersionData) [
      | Less ↦ x ∷ merge_by object_cmp xs (y ∷ ys)
      | Equal ↦ greater_of x y
          ∷ merge_by object_cmp xs ys
      | Greater ↦ y ∷ merge_by object_cmp (x ∷ xs) ys
    ])
    ≡ newest_of (merge version_cmp (x ∷ xs) (y ∷ ys))) [
      | Less ↦ λ e.
          let x_ys : Apart x (y ∷ ys) = (e, apart_less x y ys e g.0) in
          ap (λ t. x ∷ t) (k (y ∷ ys) g)
          ∙ sym (ap newest_of (front_left x xs (y ∷ ys) x_ys)
          ∙ newest_keeps x (merge version_cmp xs (y ∷ ys)) (all_merged _ version_cmp xs (y ∷ ys) h x_ys))
      | Equal ↦ λ e. ap (λ t. greater_of x y ∷ t) (k ys g.1) ∙ sym (newest_tied x y xs ys h g.0 e)
      | Greater ↦ λ e.
          let less : object_cmp y x ≡ Less = turned_back object_cmp_total x y e in
          let y_xs : Apart y (x ∷ xs) = (less, apart_less y x xs less h) in
          ap (λ t. y ∷ t) (newest_from x xs h k ys g.1)
          ∙ sym (ap newest_of (front_right y (x ∷ xs) ys y_xs)
          ∙ newest_keeps y (merge version_cmp (x ∷ xs) ys) (all_merged _ version_cmp (x ∷ xs) ys y_xs g.0))
    ] refl

newest_same : (xs : List VersionData) → IsStrictlySortedBy object_cmp xs → newest_of xs ≡ xs
unfolding IsStrictlySortedBy
newest_same [] h = refl
newest_same (x ∷ xs) h = newest_keeps x xs h.0 ∙ ap (λ t. x ∷ t) (newest_same xs h.1)

-- Two lists with one version of each object, merged by their objects, are the newest versions of their merge.
joined_objects : (xs ys : List VersionData) → IsStrictlySortedBy object_cmp xs → IsStrictlySortedBy object_cmp ys →
    merge_by object_cmp xs ys ≡ newest_of (merge version_cmp xs ys)
unfolding IsStrictlySortedBy
joined_objects [] ys h g = sym (newest_same ys g)
joined_objects (x ∷ xs) ys h g = newest_from x xs h.0 (λ zs. joined_objects xs zs h.1) ys g

-- ---- the list of a snapshot ascends by its objects
all_kept : (P : VersionData → Type 0) (xs : List VersionData) → AllByRecursion P xs → AllByRecursion P (newest_of xs)
all_kept P [] h = tt
all_kept P (x ∷ xs) h =
    elim (keeps Newest x (first xs)) as (λ b. AllByRecursion P (singleton_if b x ++ newest_of xs)) [
      | true ↦
          (h.0, all_kept P xs h.1)
      | false ↦ all_kept P xs h.1
    ]

up_to_less : (x y z : VersionData) → object_cmp x y ≡ Less → is_gt (object_cmp y z) ≡ false → object_cmp x z ≡ Less
up_to_less x y z less up =
    elim (object_cmp y z) as (λ r. object_cmp y z ≡ r → is_gt r ≡ false → object_cmp x z ≡ Less) [
      | Less ↦ λ e _. object_cmp_total.trans x y z less e
      | Equal ↦ λ e _.
          object_cmp_total.antisymm x z
          ∙ ap ordering_reverse (object_cmp_total.congr z y x (tied_back object_cmp_total y z e))
          ∙ sym (object_cmp_total.antisymm x y) ∙ less
      | Greater ↦ λ e f. absurd (false≢true (sym f))
    ] refl up

after_less : (x y : VersionData) (zs : List VersionData) → object_cmp x y ≡ Less → AllByRecursion (λ z. version_cmp y z ≡ Less) zs →
    Apart x zs
after_less x y [] less h = tt
after_less x y (z ∷ zs) less h = (up_to_less x y z less (object_rises y z h.0), after_less x y zs less h.1)

-- a version that stays is of another object than the next one
other_object : (r : Ordering) (w : VersionData) → is_gt r ≡ false → is_none (option_map moment (cond (is_eq r) (Some w) None)) ≡ true →
    r ≡ Less
other_object Less w h k = refl
other_object Equal w h k = absurd (false≢true k)
other_object Greater w h k = absurd (false≢true (sym h))

kept_apart : (x : VersionData) (xs : List VersionData) → IsStrictlySortedBy version_cmp (x ∷ xs) → keeps Newest x (first xs) ≡ true →
    Apart x xs
unfolding IsStrictlySortedBy
kept_apart x [] h k = tt
kept_apart x (y ∷ ys) h k =
    let less : object_cmp x y ≡ Less = other_object (object_cmp x y) y (object_rises x y h.0.0) k in
    (less, after_less x y ys less h.1.0)

newest_ascends : (xs : List VersionData) → IsStrictlySortedBy version_cmp xs → IsStrictlySortedBy object_cmp (newest_of xs)
unfolding IsStrictlySortedBy
newest_ascends [] h = tt
newest_ascends (x ∷ xs) h =
    elim (keeps Newest x (first xs)) as (λ b. keeps Newest x (first xs) ≡ b →
    IsStrictlySortedBy object_cmp (singleton_if b x ++ newest_of xs)) [
      | true ↦ λ e. (all_kept _ xs (kept_apart x xs h e), newest_ascends xs h.1)
      | false ↦ λ _. newest_ascends xs h.1
    ] refl

-- The list of a snapshot ascends strictly by objects.
pub snapshot_ascends : (s : VersionSet) → IsStrictlySortedBy object_cmp (to_list (snapshot s))
snapshot_ascends s = subst (IsStrictlySortedBy object_cmp) (pass_of_set Newest s) (newest_ascends (to_list s) (strict-listed s))

-- the list of a history that is its own snapshot ascends strictly by objects, too
pub kept_ascends : (s : VersionSet) → s ≡ snapshot s → IsStrictlySortedBy object_cmp (to_list s)
kept_ascends s is = subst (λ (t : VersionSet). IsStrictlySortedBy object_cmp (to_list t)) (sym is) (snapshot_ascends s)

-- ---- sets
listed_union : (s t : VersionSet) → to_list (union s t) ≡ merge version_cmp (to_list s) (to_list t)
listed_union s t =
    ap to_list (sym (from_list-merged version_cmp_total version_cmp-IsAntisymmetric (to_list s) (to_list t)))
    ∙ to_list-from_list version_cmp_total version_cmp-IsAntisymmetric _
    (sorted_merged version_cmp_total (to_list s) (to_list t) (strict-listed s) (strict-listed t))

joined_listed : (order : OrderBy) (s t : VersionSet) → IsStrictlySortedBy (order_of order) (to_list s) →
    IsStrictlySortedBy (order_of order) (to_list t) →
    merge_by (order_of order) (to_list s) (to_list t) ≡ to_list (union_by order s t)
joined_listed Versions s t h g = joined_versions (to_list s) (to_list t) ∙ sym (listed_union s t)
joined_listed Objects s t h g = joined_objects (to_list s) (to_list t) h g ∙ ap newest_of (sym (listed_union s t))
    ∙ pass_of_set Newest (union s t)

-- The merge of two lists that ascend by an order ascends strictly.
pub joined_ascends : (order : OrderBy) (s t : VersionSet) → IsStrictlySortedBy (order_of order) (to_list s) →
    IsStrictlySortedBy (order_of order) (to_list t) →
    IsStrictlySortedBy version_cmp (merge_by (order_of order) (to_list s) (to_list t))
joined_ascends order s t h g = subst (IsStrictlySortedBy version_cmp) (sym (joined_listed order s t h g))
    (strict-listed (union_by order s t))

-- The set of the merge of two lists is the union by the order.
pub joined_set : (order : OrderBy) (s t : VersionSet) → IsStrictlySortedBy (order_of order) (to_list s) →
    IsStrictlySortedBy (order_of order) (to_list t) →
    from_list {R = version_cmp} (merge_by (order_of order) (to_list s) (to_list t)) ≡ union_by order s t
joined_set order s t h g = ap (from_list {R = version_cmp}) (joined_listed order s t h g) ∙ set_listed (union_by order s t)

-- the snapshot of a union needs only the newest versions of the right set
pub newest_enough : (s t : VersionSet) → snapshot (union s (snapshot t)) ≡ snapshot (union s t)
newest_enough s t =
    snapshot_of_union s (snapshot t)
    ∙ ap (λ u. snapshot (union (snapshot s) u)) (snapshot_of_snapshot t)
    ∙ sym (snapshot_of_union s t)
