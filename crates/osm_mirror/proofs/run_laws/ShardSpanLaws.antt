-- The bounds between shards ascend, and each shard has the span between its two bounds.
use Rattle.std.proofs.Common.{◌≡◌, ℕ, zero, suc, ◌+◌, ◌-◌, ◌*◌, ◌≤◌, ◌<◌, ◌==◌, true, false, not, cond, nat_lt, if◌then◌else◌}
use Rattle.std.proofs.Common.{List, [], ◌∷◌, length, refl, sym, ap, ◌∙◌, subst, arith, Option, Some, None}
use Rattle.std.proofs.lemmas.Bool.{false≢true, leb-true, le-leb, lt-ltb, ltb-true, ltb-false}
use Rattle.std.proofs.lemmas.Bool.Decides.{nat_tests}
use Rattle.std.proofs.lemmas.Nat.{mul-le}
use Rattle.std.specs.List.{AllByRecursion}
use Rattle.std.specs.List.Sorted.{IsSorted, IsPermutation}
use Rattle.std.proofs.lemmas.List.Elements.{All-contains, All-from_recursion}
use Rattle.std.proofs.lemmas.List.Sorted.{IsPermutation-refl}
use Rattle.osm_model.specs.declared.object.Object.{Object}
use Rattle.osm_model.specs.Order.{object_order}
use Rattle.osm_merge.specs.declared.span.Span.{Span}
use Rattle.osm_merge.specs.Slice.{span_of, spans_from, spans, is_ascending, is_ascending_between}
use Rattle.osm_merge.proofs.SliceLaws.{ascending_spans_are_sorted}
use Rattle.osm_mirror.specs.declared.run.bounds.Found.{Found}
use Rattle.osm_mirror.specs.run.Bounds.{total_weight, weight_below, is_past, bound_of, bound_then, bounds_from, bounds_of, span_at}
use Rattle.osm_mirror.specs.run.Bounds.{shard_span}
use Rattle.osm_mirror.specs.run.Bounds.{found_in_all, step_of}
use Rattle.osm_mirror.specs.run.ShardSpan.{bound_after, span_from, span_of_number}
use Rattle.osm_mirror.proofs.run_laws.BoundLaws.{lt, IsLeast, objects, least_is, one_least, bound_moved}

module _ (count : ℕ) (found : List Found) where
  abbrev bound : ℕ → Option Object
  bound number = bound_of number count found

  bound_is : (number : ℕ) → IsLeast (is_past number count found) (objects found) (bound number)
  bound_is number = least_is (is_past number count found) (objects found)

  -- an object that is past more shares is past fewer
  past_before : (number : ℕ) (x : Object) → is_past (number + 1) count found x ≡ true → is_past number count found x ≡ true
  past_before number x e =
      let far = leb-true (total_weight found * (number + 1)) (weight_below found x * count) e in
      let fewer = mul-le (total_weight found) number (total_weight found) (number + 1) (omega arith) (omega arith) in
      le-leb (total_weight found * number) (weight_below found x * count) (omega (arith, far, fewer))

  not_past : (number : ℕ) (x : Object) → is_past number count found x ≡ false → is_past (number + 1) count found x ≡ false
  not_past number x h = elim (is_past (number + 1) count found x) as (λ t. is_past (number + 1) count found x ≡ t → t ≡ false) [
    | true ↦ λ e. absurd (false≢true (sym h ∙ past_before number x e))
    | false ↦ λ e. refl
  ] refl

  none_past : (number : ℕ) (xs : List Object) → AllByRecursion (λ y. is_past number count found y ≡ false) xs →
      AllByRecursion (λ y. is_past (number + 1) count found y ≡ false) xs
  none_past number [] h = tt
  none_past number (x ∷ xs) h = (not_past number x h.0, none_past number xs h.1)

  -- after a missing bound there is none
  none_next : (number : ℕ) → bound number ≡ None → bound (number + 1) ≡ None
  none_next number e =
      let none : IsLeast (is_past number count found) (objects found) None =
      subst (IsLeast (is_past number count found) (objects found)) e (bound_is number) in
      one_least (is_past (number + 1) count found) (objects found) (objects found) (IsPermutation-refl (objects found))
      (bound (number + 1)) None (bound_is (number + 1)) (none_past number (objects found) none)

  none_on : (more number : ℕ) → bound number ≡ None → bound (number + more) ≡ None
  none_on zero number e = ap bound (omega arith) ∙ e
  none_on (suc more) number e = ap bound (omega arith) ∙ none_on more (number + 1) (none_next number e)

  -- a bound isn't below the one before it
  next_above : (number : ℕ) (x y : Object) → bound number ≡ Some x → bound (number + 1) ≡ Some y → lt y x ≡ false
  next_above number x y e f =
      let low = subst (IsLeast (is_past number count found) (objects found)) e (bound_is number) in
      let high = subst (IsLeast (is_past (number + 1) count found) (objects found)) f (bound_is (number + 1)) in
      All-contains (λ z. is_past number count found z ≡ true → lt z x ≡ false) (objects found) y
      (All-from_recursion (λ z. is_past number count found z ≡ true → lt z x ≡ false) (objects found) low.2) high.0
      (past_before number y high.1)

  -- ---- the spans ascend
  abbrev Ascends : Span → Type 0
  Ascends span = is_ascending span ≡ true

  -- no bound from a number on is below the lower one
  abbrev Before : Option Object → ℕ → Type 0
  Before None number = Unit {0}
  Before (Some x) number = (y : Object) → bound number ≡ Some y → lt y x ≡ false

  last_ascends : (from : Option Object) → Ascends (span_of from None)
  last_ascends None = refl
  last_ascends (Some x) = refl

  ascends_to : (from : Option Object) (number : ℕ) (y : Object) → Before from number → bound number ≡ Some y
      → Ascends (span_of from (Some y))
  ascends_to None number y h e = refl
  ascends_to (Some x) number y h e = ap not (h y e)

  spans_ascend : (most number : ℕ) (from : Option Object) → Before from number →
      AllByRecursion Ascends (spans_from from (bounds_from most number count found))
  spans_ascend zero number from h = (last_ascends from, tt)
  spans_ascend (suc most) number from h =
      elim (bound number) as (λ o. bound number ≡ o →
      AllByRecursion Ascends (spans_from from (bound_then o (bounds_from most (number + 1) count found)))) [
        | None ↦ λ e. (last_ascends from, tt)
        | Some x ↦ λ e. (ascends_to from number x h e, spans_ascend most (number + 1) (Some x) (λ y f. next_above number x y e f))
      ] refl

  bounds_sorted : (most number : ℕ) → IsSorted object_order (bounds_from most number count found)
  bounds_sorted most number =
      ascending_spans_are_sorted (bounds_from most number count found)
      (All-from_recursion Ascends (spans (bounds_from most number count found)) (spans_ascend most number None tt))

  -- ---- the span with an index
  abbrev upper : ℕ → ℕ → Option Object
  upper most number = if nat_lt 0 most then bound number else None

  first_of : (from next : Option Object) (bounds : List Object)
      → span_at (spans_from from (bound_then next bounds)) 0 ≡ Some (span_of from next)
  first_of from None bounds = refl
  first_of from (Some x) bounds = refl

  first_span : (most number : ℕ) (from : Option Object) →
      span_at (spans_from from (bounds_from most number count found)) 0 ≡ Some (span_of from (upper most number))
  first_span zero number from = refl
  first_span (suc most) number from =
      let more : bound number ≡ upper (suc most) number =
      ap (λ t. cond t (bound number) None) (sym (lt-ltb 0 (suc most) (omega arith))) in
      first_of from (bound number) (bounds_from most (number + 1) count found) ∙ ap (λ b. Some (span_of from b)) more

  later_span : (index most number : ℕ) (from : Option Object) → index < most →
      span_at (spans_from from (bounds_from most number count found)) (suc index)
      ≡ span_from (bound (number + index)) (upper (most - suc index) (number + suc index))
  later_span index zero number from low = absurd (omega (arith, low))
  later_span zero (suc most) number from low =
      let same : number ≡ number + 0 = omega arith in
      let left : most ≡ suc most - 1 = omega arith in
      elim (bound number) as (λ o. bound number ≡ o →
      span_at (spans_from from (bound_then o (bounds_from most (number + 1) count found))) 1
      ≡ span_from (bound (number + 0)) (upper (suc most - 1) (number + 1))) [
        | None ↦ λ e. ap (λ b. span_from b (upper (suc most - 1) (number + 1))) (sym e ∙ ap bound same)
        | Some x ↦ λ e. first_span most (number + 1) (Some x)
            ∙ ap (λ m. Some (span_of (Some x) (upper m (number + 1)))) left
            ∙ ap (λ b. span_from b (upper (suc most - 1) (number + 1))) (sym e ∙ ap bound same)
      ] refl
  later_span (suc index) (suc most) number from low =
      let counted : number + 1 + index ≡ number + suc index = omega arith in
      let next : number + 1 + suc index ≡ number + suc (suc index) = omega arith in
      elim (bound number) as (λ o. bound number ≡ o →
      span_at (spans_from from (bound_then o (bounds_from most (number + 1) count found))) (suc (suc index))
      ≡ span_from (bound (number + suc index)) (upper (suc most - suc (suc index)) (number + suc (suc index)))) [
        | None ↦ λ e. sym (ap (λ b. span_from b (upper (suc most - suc (suc index)) (number + suc (suc index)))) (none_on
            (suc index) number e))
        | Some x ↦ λ e. later_span index most (number + 1) (Some x) (omega (arith, low))
            ∙ (let left : most - suc index ≡ suc most - suc (suc index) = omega arith in
            λ i. span_from (bound (counted i)) (upper (left i) (next i)))
      ] refl

  after_is : (number : ℕ) → upper (count - number) number ≡ bound_after number count found
  after_is number = elim (nat_lt number count) as (λ t. nat_lt number count ≡ t → upper (count - number) number ≡ cond t
      (bound number) None) [
        | true ↦ λ e. (let far = ltb-true number count e in
            ap (λ t. cond t (bound number) None) (lt-ltb 0 (count - number) (omega (arith, far))))
        | false ↦ λ e. (let near = ltb-false number count e in
            let none : count - number ≡ 0 = omega (arith, near) in
            ap (λ n. upper n number) none)
      ] refl

  -- the span of a shard
  pub span_is : (number : ℕ) → 0 < number → number ≤ count →
      span_at (spans (bounds_from (count - 1) 1 count found)) (number - 1) ≡ span_of_number number count found
  span_is zero some within = absurd (omega (arith, some))
  span_is (suc zero) some within =
      ap (span_at (spans (bounds_from (count - 1) 1 count found))) (omega arith) ∙ first_span (count - 1) 1 None ∙ ap (λ b. Some
      (span_of None b)) (after_is 1)
  span_is (suc (suc index)) some within =
      ap (span_at (spans (bounds_from (count - 1) 1 count found))) (omega arith)
      ∙ later_span index (count - 1) 1 None (omega (arith, within))
      ∙ (let counted : 1 + index ≡ suc index = omega arith in
      let next : 1 + suc index ≡ suc (suc index) = omega arith in
      let left : count - 1 - suc index ≡ count - suc (suc index) = omega arith in
      λ i. span_from (bound (counted i)) (upper (left i) (next i)))
      ∙ ap (span_from (bound (suc index))) (after_is (suc (suc index)))
      ∙ (let before : suc index ≡ suc (suc index) - 1 = omega arith in
      ap (λ n. span_from (bound n) (bound_after (suc (suc index)) count found)) before)
      ∙ (let later : (suc (suc index) == 1) ≡ false = grind (arith, nat_tests) in
      ap (λ t. cond t (Some (span_of None (bound_after (suc (suc index)) count found)))
      (span_from (bound (suc (suc index) - 1)) (bound_after (suc (suc index)) count found))) (sym later))

  few_bounds : (most number : ℕ) → length (bounds_from most number count found) ≤ most
  few_bounds zero number = omega arith
  few_bounds (suc most) number =
      elim (bound number) as (λ o. length (bound_then o (bounds_from most (number + 1) count found)) ≤ suc most) [
        | None ↦ omega arith
        | Some x ↦ (let few = few_bounds most (number + 1) in omega (arith, few))
      ]

span_count : (from : Option Object) (bounds : List Object) → length (spans_from from bounds) ≡ suc (length bounds)
span_count from [] = refl
span_count from (bound ∷ bounds) = ap suc (span_count (Some bound) bounds)

-- there are no more spans than shards
pub few_spans : (count : ℕ) (all : List (List ℕ)) → 0 < count → length (spans (bounds_of count all)) ≤ count
few_spans count all some =
    let found : List Found = found_in_all (step_of count all) all in
    let few = few_bounds count found (count - 1) 1 in
    let is = span_count None (bounds_from (count - 1) 1 count found) in
    omega (arith, few, is, some)

pub bounds_ascend : (count : ℕ) (all : List (List ℕ)) → IsSorted object_order (bounds_of count all)
bounds_ascend count all = bounds_sorted count (found_in_all (step_of count all) all) (count - 1) 1

at_index : (P : Span → Type 0) (ss : List Span) → AllByRecursion P ss → (index : ℕ) (span : Span) → span_at ss index ≡ Some span → P span
at_index P [] h index span e = absurd (let no : None ≡ Some span = e in cc)
at_index P (s ∷ ss) h zero span e = let same : s ≡ span = (let both : Some s ≡ Some span = e in cc) in subst P same h.0
at_index P (s ∷ ss) h (suc index) span e = at_index P ss h.1 index span e

-- the span of a shard ascends
pub shard_ascends : (number count : ℕ) (all : List (List ℕ)) (span : Span) → shard_span number count all ≡ Some span
    → is_ascending span ≡ true
shard_ascends number count all span e =
    let found : List Found = found_in_all (step_of count all) all in
    at_index (λ s. is_ascending s ≡ true) (spans (bounds_of count all)) (spans_ascend count found (count - 1) 1 None tt) (number - 1) span e

-- the span of a shard, by the objects in any order
pub moved_span : (number count : ℕ) (found others : List Found) → IsPermutation found others →
    span_of_number number count found ≡ span_of_number number count others
moved_span number count found others moved =
    let after : bound_after number count found ≡ bound_after number count others =
    ap (λ b. if nat_lt number count then b else None) (bound_moved number count found others moved) in
    let before = bound_moved (number - 1) count found others moved in
    λ i. if number == 1 then Some (span_of None (after i)) else span_from (before i) (after i)

pub span_of_found : (number count : ℕ) (all : List (List ℕ)) (found : List Found) → 0 < number → number ≤ count →
    IsPermutation (found_in_all (step_of count all) all) found → span_of_number number count found ≡ shard_span number count all
span_of_found number count all found some within moved =
    sym (span_is count (found_in_all (step_of count all) all) number some within
    ∙ moved_span number count (found_in_all (step_of count all) all) found moved)

-- the span between two bounds of any objects ascends
pub number_ascends : (number count : ℕ) (found : List Found) (span : Span) → 0 < number → number ≤ count
    → span_of_number number count found ≡ Some span → is_ascending span ≡ true
number_ascends number count found span some within e =
    at_index (λ s. is_ascending s ≡ true) (spans (bounds_from (count - 1) 1 count found)) (spans_ascend count found (count - 1) 1 None tt)
    (number - 1) span (span_is count found number some within ∙ e)

-- the two bounds of a shard after the first one ascend
pub bounds_between : (number count : ℕ) (found : List Found) (from : Object) (to : Option Object) → 1 < number → number ≤ count
    → bound_of (number - 1) count found ≡ Some from → bound_after number count found ≡ to
    → is_ascending_between (Some from) to ≡ true
bounds_between number count found from to some within low high =
    let later : (number == 1) ≡ false = grind (arith, nat_tests) in
    let is : span_of_number number count found ≡ Some (span_of (Some from) to) =
    ap (λ t. cond t (Some (span_of None (bound_after number count found)))
    (span_from (bound_of (number - 1) count found) (bound_after number count found))) later
    ∙ (λ i. span_from (low i) (high i)) in
    number_ascends number count found (span_of (Some from) to) (omega (arith, some)) within is

-- the span between the two bounds of a shard after the first one, if its upper bound is kept where the span ascends
pub later_span_is : (number count : ℕ) (found : List Found) (from : Object) (to kept : Option Object) → 1 < number → number ≤ count
    → Some from ≡ bound_of (number - 1) count found → to ≡ bound_after number count found
    → (is_ascending_between (Some from) to ≡ true → kept ≡ to)
    → Some (span_of (Some from) kept) ≡ span_of_number number count found
later_span_is number count found from to kept some within low high keep =
    let later : (number == 1) ≡ false = grind (arith, nat_tests) in
    let same = keep (bounds_between number count found from to some within (sym low) (sym high)) in
    ap (λ t. Some (span_of (Some from) t)) same
    ∙ (λ i. span_from (low i) (high i))
    ∙ sym (ap (λ t. cond t (Some (span_of None (bound_after number count found)))
    (span_from (bound_of (number - 1) count found) (bound_after number count found))) later)
