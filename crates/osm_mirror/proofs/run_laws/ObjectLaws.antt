-- The objects of an ascending list: the versions of one object are adjacent, and the last of them is its newest.
use Rattle.std.proofs.Common.{◌≡◌, suc, ◌+◌, Bool, true, false, not, ◌&&◌, ◌||◌, cond, List, [], ◌∷◌, length, refl, sym, ap, ◌∙◌, arith}
use Rattle.std.proofs.Common.{Some, None}
use Rattle.std.proofs.lemmas.Bool.{false≢true, false_from_ne_true}
use Rattle.std.specs.declared.cmp.Ordering.TheVariants.{Less}
use Rattle.std.specs.Ordering.{is_lt, ordering_reverse}
use Rattle.std.specs.Cmp.{tied_itself}
use Rattle.std.specs.List.{list_any, filter, AllByRecursion}
use Rattle.std.specs.List.Sorted.{IsStrictlySortedBy}
use Rattle.std.proofs.lemmas.List.Kept.{IsStrictlySortedBy-filter}
use Rattle.std.proofs.Math.Bool.{and-true, and-false}
use Rattle.osm_model.specs.Data.{VersionData}
use Rattle.osm_model.specs.Order.{version_cmp, version_cmp_total}
use Rattle.osm_model.specs.Sets.{to_list}
use Rattle.osm_model.specs.VersionSet.{VersionSet}
use Rattle.osm_model.proofs.ObjectLaws.{objects_together}
use Rattle.osm_model.proofs.SetLaws.{strict-listed}
use Rattle.osm_model.proofs.VersionLaws.{to_list-view}
use Rattle.osm_merge.specs.Pass.{same_object}
use Rattle.osm_merge.specs.Selected.{beats}
use Rattle.osm_mirror.specs.run.Check.{new_objects, objects_after, object_count}

-- ---- greater versions of an object
-- no version is greater than itself, or than a version above it
not_itself : (v : VersionData) → beats v v ≡ false
not_itself v = ap (λ b. same_object v v && b) (ap is_lt (tied_itself version_cmp_total v)) ∙ and-false (same_object v v)

not_below : (v w : VersionData) → version_cmp w v ≡ Less → beats v w ≡ false
not_below v w less = ap (λ b. same_object v w && b) (ap is_lt (version_cmp_total.antisymm v w) ∙ ap (λ r. is_lt (ordering_reverse r)) less)
    ∙ and-false (same_object v w)

-- after a version of another object, an ascending list has no version of this object
none_after : (v w : VersionData) → version_cmp v w ≡ Less → same_object v w ≡ false → (xs : List VersionData) →
    AllByRecursion (λ x. version_cmp w x ≡ Less) xs → list_any (beats v) xs ≡ false
none_after v w less other [] h = refl
none_after v w less other (x ∷ xs) h =
    let apart : same_object v x ≡ false =
    false_from_ne_true (same_object v x) (λ t. false≢true (sym other ∙ objects_together v w x less h.0 t)) in
    ap (λ b. (b && is_lt (version_cmp v x)) || list_any (beats v) xs) apart ∙ none_after v w less other xs h.1

-- the newest version of an object in a list
abbrev newest : List VersionData → VersionData → Bool
newest xs v = not (list_any (beats v) xs)

-- the first version of an ascending list is the newest of its object exactly if the second is of another object
first_newest : (v w : VersionData) (xs : List VersionData) → version_cmp v w ≡ Less → AllByRecursion (λ x. version_cmp w x ≡ Less) xs →
    newest (v ∷ w ∷ xs) v ≡ not (same_object v w)
first_newest v w xs less above =
    let second : beats v w ≡ same_object v w = ap (λ b. same_object v w && b) (ap is_lt less) ∙ and-true (same_object v w) in
    (λ i. not (not_itself v i || (second i || list_any (beats v) xs)))
    ∙ (elim (same_object v w) as (λ b. same_object v w ≡ b → not (b || list_any (beats v) xs) ≡ not b) [
      | true ↦ λ e. refl
      | false ↦ λ e. ap not (none_after v w less e xs above)
    ] refl)

-- one more version at the front of a list changes nothing about which of the others are newest
same_after : (v : VersionData) (all xs : List VersionData) → AllByRecursion (λ x. version_cmp v x ≡ Less) xs →
    filter (newest (v ∷ all)) xs ≡ filter (newest all) xs
same_after v all [] h = refl
same_after v all (x ∷ xs) h =
    (λ i. cond (not (not_below x v h.0 i || list_any (beats x) all)) (x ∷ same_after v all xs h.1 i) (same_after v all xs h.1 i))

abbrev newest_of : List VersionData → List VersionData
newest_of xs = filter (newest xs) xs

counted_if : (b : Bool) (v : VersionData) (xs : List VersionData) → length (cond (not b) (v ∷ xs) xs) ≡ cond b 0 1 + length xs
counted_if true v xs = sym (let e : 0 + length xs ≡ length xs = omega arith in e)
counted_if false v xs = let e : suc (length xs) ≡ 1 + length xs = omega arith in e

-- the number of newest versions is that of the objects that begin
newest_count : (v : VersionData) (xs : List VersionData) → IsStrictlySortedBy version_cmp (v ∷ xs) →
    length (newest_of (v ∷ xs)) ≡ 1 + objects_after (Some v) xs
unfolding IsStrictlySortedBy
newest_count v [] h = ap (λ b. length (cond (not (b || false)) (v ∷ []) [])) (not_itself v)
newest_count v (w ∷ xs) h =
    let rest = newest_count w xs h.1 in
    let after : filter (newest (v ∷ w ∷ xs)) (w ∷ xs) ≡ newest_of (w ∷ xs) = same_after v (w ∷ xs) (w ∷ xs) h.0 in
    let here : newest (v ∷ w ∷ xs) v ≡ not (same_object v w) = first_newest v w xs h.0.0 h.1.0 in
    let count : length (newest_of (v ∷ w ∷ xs)) ≡ new_objects (Some v) w + length (newest_of (w ∷ xs)) =
    (λ i. length (cond (here i) (v ∷ after i) (after i))) ∙ counted_if (same_object v w) v (newest_of (w ∷ xs)) in
    omega (arith, count, rest)

all_count : (xs : List VersionData) → IsStrictlySortedBy version_cmp xs → length (newest_of xs) ≡ objects_after None xs
all_count [] h = refl
all_count (v ∷ xs) h = newest_count v xs h

-- in the list of a set the number of objects that begin is the number of versions of its snapshot
pub objects_begun : (set : VersionSet) → objects_after None (to_list set) ≡ object_count set
objects_begun set =
    sym (all_count (to_list set) (strict-listed set))
    ∙ ap length (sym (to_list-view (newest_of (to_list set))
    (IsStrictlySortedBy-filter version_cmp (newest (to_list set)) (to_list set) (strict-listed set))))
