-- Slices: a set's list is cut at its bounds, and only an object's versions decide its selection.
use Rattle.std.proofs.Common.{◌≡◌, ℕ, suc, ◌+◌, Bool, true, false, not, ◌&&◌, cond, List, [], ◌∷◌, ◌++◌, map, refl, sym, ap, ◌∙◌, arith}
use Rattle.std.proofs.Common.{Option, Some, None, option_map, is_none, append-nil, ◌<◌, zero, get_or, length}
use Rattle.std.proofs.lemmas.Bool.{false≢true, not-true}
use Rattle.std.specs.declared.cmp.Ordering.{Ordering}
use Rattle.std.specs.declared.cmp.Ordering.TheVariants.{Less}
use Rattle.std.specs.Ordering.{is_lt}
use Rattle.std.specs.Cmp.{Equal-is, first_so}
use Rattle.std.specs.List as list
use Rattle.std.specs.List.{filter, flat_map, concat, AllByRecursion}
use Rattle.std.specs.List.Sorted.{IsStrictlySortedBy, IsSorted}
use Rattle.std.proofs.lemmas.List.Elements.{filter_agree, All-head, All-tail}
use Rattle.std.proofs.lemmas.Grind.{flat_map-append}
use Rattle.std.proofs.Math.Bool.{and-true}
use Rattle.osm_model.specs.declared.object.Object.{Object}
use Rattle.osm_model.specs.Data.{VersionData}
use Rattle.osm_model.specs.Order.{version_cmp, version_cmp_total, object_cmp, object_of, object_order, object_order_total}
use Rattle.osm_model.specs.VersionSet.{VersionSet}
use Rattle.osm_model.specs.Sets.{to_list, contains}
use Rattle.osm_model.proofs.SetLaws.{same_set, strict-listed}
use Rattle.osm_model.proofs.VersionLaws.{version_cmp-IsAntisymmetric}
use Rattle.osm_model.proofs.ObjectLaws.{below_is, not_below, object_rises}
use Rattle.osm_files.specs.declared.format.Format.TheVariants.{Opl}
use Rattle.osm_files.specs.Spell.{line_with_end, spell}
use Rattle.osm_files.proofs.LineLists.{lines, spell_is_lines}
use Rattle.osm_merge.specs.declared.span.Span.{Span}
use Rattle.osm_merge.specs.declared.selection.Selection.{Selection}
use Rattle.osm_merge.specs.declared.selection.Selection.TheVariants.{All, Visible, Newest, NewestVisible, State, StateVisible, Between}
use Rattle.osm_merge.specs.Members.{retain, least, union_all}
use Rattle.osm_merge.specs.Pass.{stays, same_object}
use Rattle.osm_merge.specs.Selected.{moment, is_visible, beats, snapshot, is_by, next_in, selection_of}
use Rattle.osm_merge.specs.Slice.{reaches, is_under, is_within, is_ascending, slice_of, span_of, spans_from, spans}
use Rattle.osm_merge.specs.SliceLaws.{LinesOfSlices, SelectedOfSlice, SliceOfUnions, SlicesWriteTheWhole, AscendingSpansAreSorted}
use Rattle.osm_merge.proofs.PassLaws.{filter_filter, filter_none}
use Rattle.osm_merge.proofs.SelectedLaws.{listed_with, none_next}
use Rattle.osm_merge.proofs.SnapLaws.{contains-retain, retain_all}
use Rattle.osm_files.proofs.SpellLaws.{equal_sets as equal}

-- ---- a bound
-- a version that is less than one under a bound is under it, too
pub under_down : (bound : Object) (v w : VersionData) → version_cmp v w ≡ Less → is_under (Some bound) w ≡ true →
    is_under (Some bound) v ≡ true
under_down bound v w less h =
    elim (is_under (Some bound) v) as (λ b. is_under (Some bound) v ≡ b → b ≡ true) [
      | true ↦ λ e. refl
      | false ↦ λ e. absurd (false≢true (sym (not_below (object_of w) (object_of v) bound
          (below_is (object_of w) (object_of v) ∙ object_rises v w less) e) ∙ h))
    ] refl

-- ---- an ascending list is cut at the end of a test
module _ {K : Type 0} (R : K → K → Ordering) (p : K → Bool) (down : (x y : K) → R x y ≡ Less → p y ≡ true → p x ≡ true) where
  -- In an ascending list no member passes the test after one that fails it.
  pub none_after : (x : K) (ys : List K) → p x ≡ false → AllByRecursion (λ y. R x y ≡ Less) ys → AllByRecursion (λ y. p y ≡ false) ys
  none_after x [] e h = tt
  none_after x (y ∷ ys) e h = (
    elim (p y) as (λ b. p y ≡ b → b ≡ false) [
      | true ↦ λ t. absurd (false≢true (sym e ∙ down x y h.0 t))
      | false ↦ λ t. refl
    ] refl,
    none_after x ys e h.1,
  )

  pub cut_at : (xs : List K) → IsStrictlySortedBy R xs → xs ≡ filter p xs ++ filter (λ x. not (p x)) xs
  unfolding IsStrictlySortedBy
  cut_at [] h = refl
  cut_at (x ∷ xs) h =
      let rest : List K = filter (λ x. not (p x)) xs in
      elim (p x) as (λ b. p x ≡ b → x ∷ xs ≡ cond b (x ∷ filter p xs) (filter p xs) ++ cond (not b) (x ∷ rest) rest) [
        | true ↦ λ e. ap (λ t. x ∷ t) (cut_at xs h.1)
        | false ↦ λ e.
            let none : filter p xs ≡ [] = filter_none p xs (none_after x xs e h.0) in
            ap (λ t. x ∷ t) (cut_at xs h.1 ∙ ap (λ t. t ++ rest) none) ∙ ap (λ t. t ++ x ∷ rest) (sym none)
      ] refl

-- ---- the slices' lists
-- `bound` isn't below a lower bound, if there is one
abbrev pub IsAtMost : Option Object → Object → Type 0
IsAtMost None bound = Unit {0}
IsAtMost (Some from) bound = is_lt (object_order bound from) ≡ false

after_bound : (r n : Bool) → (n ≡ true → r ≡ true) → ((r && true) && n) ≡ (n && true)
after_bound true n h = sym (and-true n)
after_bound false true h = absurd (false≢true (h refl))
after_bound false false h = refl

-- A version that reaches a bound reaches each lower one.
pub reaches_lower : (from : Option Object) (bound : Object) → IsAtMost from bound → (v : VersionData) →
    not (is_under (Some bound) v) ≡ true → reaches from v ≡ true
reaches_lower None bound low v h = refl
reaches_lower (Some from) bound low v h = ap not (not_below (object_of v) bound from (not-true _ h) low)

cut_slice : (from : Option Object) (bound : Object) (s : VersionSet) → IsAtMost from bound →
    to_list (slice_of from None s) ≡ to_list (slice_of from (Some bound) s) ++ to_list (slice_of (Some bound) None s)
cut_slice from bound s low =
    let under : VersionData → Bool = is_under (Some bound) in
    let over : VersionData → Bool = λ v. not (is_under (Some bound) v) in
    let whole : List VersionData = to_list (slice_of from None s) in
    let front : filter under whole ≡ to_list (slice_of from (Some bound) s) =
    ap (filter under) (listed_with s (is_within from None)) ∙ filter_filter (is_within from None) under (to_list s)
    ∙ filter_agree (λ v. is_within from None v && under v) (is_within from (Some bound))
    (λ v. ap (λ b. b && under v) (and-true (reaches from v))) (to_list s)
    ∙ sym (listed_with s (is_within from (Some bound))) in
    let back : filter over whole ≡ to_list (slice_of (Some bound) None s) =
    ap (filter over) (listed_with s (is_within from None)) ∙ filter_filter (is_within from None) over (to_list s)
    ∙ filter_agree (λ v. is_within from None v && over v) (is_within (Some bound) None)
    (λ v. after_bound (reaches from v) (over v) (reaches_lower from bound low v)) (to_list s)
    ∙ sym (listed_with s (is_within (Some bound) None)) in
    cut_at version_cmp under (under_down bound) whole (strict-listed (slice_of from None s)) ∙ (λ i. front i ++ back i)

-- the bounds ascend from a lower bound on
abbrev pub Rise : Option Object → List Object → Type 0
Rise from [] = Unit {0}
Rise from (bound ∷ bounds) = IsAtMost from bound × Rise (Some bound) bounds

-- The slices of a set from a bound on.
abbrev pub slices_from : Option Object → List Object → VersionSet → List VersionSet
slices_from from bounds s = map (λ span. slice_of span.from span.to s) (spans_from from bounds)

cut_slices : (from : Option Object) (bounds : List Object) (s : VersionSet) → Rise from bounds →
    to_list (slice_of from None s) ≡ flat_map to_list (slices_from from bounds s)
cut_slices from [] s h = sym (append-nil (to_list (slice_of from None s)))
cut_slices from (bound ∷ bounds) s h = cut_slice from bound s h.0
    ∙ ap (λ t. to_list (slice_of from (Some bound) s) ++ t) (cut_slices (Some bound) bounds s h.1)

rise_from : (from : Option Object) (bound : Object) (bounds : List Object) → IsAtMost from bound → IsSorted object_order (bound ∷ bounds) →
    Rise from (bound ∷ bounds)
rise_from from bound [] low h = (low, tt)
rise_from from bound (next ∷ bounds) low h = (
  low,
  rise_from (Some bound) next bounds (h 0 bound (omega arith) (omega arith))
      (λ k d first within. let e : suc k + 1 ≡ suc (k + 1) = omega arith in rw e at (h (suc k) d (omega arith) (omega arith))),
)

-- Bounds that are sorted rise from no bound on.
pub rise : (bounds : List Object) → IsSorted object_order bounds → Rise None bounds
rise [] h = tt
rise (bound ∷ bounds) h = rise_from None bound bounds tt h

bound_at : (from : Option Object) (bounds : List Object) → Rise from bounds → (k : ℕ) (d : Object) → k + 1 < length bounds →
    is_lt (object_order (get_or bounds (k + 1) d) (get_or bounds k d)) ≡ false
bound_at from [] h k d within = absurd (omega (arith, within))
bound_at from (bound ∷ []) h k d within = absurd (omega (arith, within))
bound_at from (bound ∷ next ∷ bounds) h zero d within = h.1.0
bound_at from (bound ∷ next ∷ bounds) h (suc k) d within = let e : suc k + 1 ≡ suc (k + 1) = omega arith in
    rw e (bound_at (Some bound) (next ∷ bounds) h.1 k d (omega (arith, within)))

spans_rise : (from : Option Object) (bounds : List Object) → list.All (λ span. is_ascending span ≡ true) (spans_from from bounds) →
    Rise from bounds
spans_rise from [] h = tt
spans_rise None (bound ∷ bounds) h = (
  tt,
  spans_rise (Some bound) bounds (All-tail (λ span. is_ascending span ≡ true) (span_of None (Some bound))
      (spans_from (Some bound) bounds) h),
)
spans_rise (Some from) (bound ∷ bounds) h = (
  not-true _ (All-head (λ span. is_ascending span ≡ true) (span_of (Some from) (Some bound)) (spans_from (Some bound) bounds) h),
  spans_rise (Some bound) bounds
      (All-tail (λ span. is_ascending span ≡ true) (span_of (Some from) (Some bound)) (spans_from (Some bound) bounds) h),
)

-- Bounds are sorted if each span between them ascends.
pub ascending_spans_are_sorted : AscendingSpansAreSorted
ascending_spans_are_sorted bounds h = λ k d from within. bound_at None bounds (spans_rise None bounds h) k d within

whole_slice : (s : VersionSet) → slice_of None None s ≡ s
whole_slice s =
    same_set version_cmp_total version_cmp-IsAntisymmetric _ _ (λ q.
    contains-retain version_cmp_total version_cmp-IsAntisymmetric s (is_within None None) q ∙ and-true (contains s q))

-- ---- lines
lines_of_all : (sets : List VersionSet) → lines (flat_map to_list sets) ≡ concat (map (spell Opl) sets)
lines_of_all [] = refl
lines_of_all (s ∷ sets) =
    flat_map-append line_with_end (to_list s) (flat_map to_list sets)
    ∙ (λ i. sym (spell_is_lines s) i ++ lines_of_all sets i)

-- The OPL file of a set is the OPL files of its slices in sequence.
pub lines_of_slices : LinesOfSlices
lines_of_slices bounds s h =
    ap (spell Opl) (sym (whole_slice s)) ∙ spell_is_lines (slice_of None None s) ∙ ap lines (cut_slices None bounds s (rise bounds h))
    ∙ lines_of_all (slices_from None bounds s)

-- ---- selections
-- two versions of one object are within the same bounds
order_same : (v w : VersionData) (bound : Object) → same_object v w ≡ true →
    object_order (object_of v) bound ≡ object_order (object_of w) bound
order_same v w bound e = object_order_total.congr (object_of v) (object_of w) bound ((Equal-is (object_cmp v w)).0 e)

reaches_same : (from : Option Object) (v w : VersionData) → same_object v w ≡ true → reaches from v ≡ reaches from w
reaches_same None v w e = refl
reaches_same (Some from) v w e = ap (λ r. not (is_lt r)) (order_same v w from e)

under_same : (to : Option Object) (v w : VersionData) → same_object v w ≡ true → is_under to v ≡ is_under to w
under_same None v w e = refl
under_same (Some to) v w e = ap is_lt (order_same v w to e)

within_same : (from to : Option Object) (v w : VersionData) → same_object v w ≡ true → is_within from to v ≡ is_within from to w
within_same from to v w e = λ i. reaches_same from v w e i && under_same to v w e i

-- A filtered set contains the members of the set that pass.
pub kept_in : (s : VersionSet) (p : VersionData → Bool) (q : VersionData) → contains (retain s p) q ≡ (contains s q && p q)
kept_in = contains-retain version_cmp_total version_cmp-IsAntisymmetric

pub and_turn : (a p b : Bool) → ((a && p) && b) ≡ ((a && b) && p)
and_turn true true true = refl
and_turn true true false = refl
and_turn true false true = refl
and_turn true false false = refl
and_turn false p b = refl

and_none : (a b : Bool) → ((a && false) && b) ≡ (a && false)
and_none true b = refl
and_none false b = refl

and_own : (a p b c : Bool) → (p ≡ true → b ≡ c) → ((a && p) && b) ≡ ((a && c) && p)
and_own a true b c h = ap (λ t. (a && true) && t) (h refl) ∙ and_turn a true c
and_own true false b c h = sym (and_none true c ∙ refl) ∙ and_turn true false c
and_own false false b c h = refl

and_next : (a b p : Bool) → (b ≡ true → p ≡ true) → ((a && p) && b) ≡ (a && b)
and_next a true p h = and-true (a && p) ∙ ap (λ t. a && t) (h refl)
and_next a false p h = and_turn a p false ∙ and_none a p

-- two tests can be applied in either order
pub retain_turn : (s : VersionSet) (p q : VersionData → Bool) → retain (retain s p) q ≡ retain (retain s q) p
retain_turn s p q =
    equal _ _ (λ v.
    kept_in (retain s p) q v ∙ ap (λ b. b && q v) (kept_in s p v) ∙ and_turn (contains s v) (p v) (q v)
    ∙ sym (kept_in (retain s q) p v ∙ ap (λ b. b && p v) (kept_in s q v)))

-- a test with the same result for all versions of an object
module _ (p : VersionData → Bool) (objects : (v w : VersionData) → same_object v w ≡ true → p v ≡ p w) where
  -- if a version passes the test, its next version is the same before and after the set is filtered
  next_left : (s : VersionSet) (v : VersionData) → p v ≡ true → next_in (retain s p) v ≡ next_in s v
  next_left s v e =
      ap least (equal (retain (retain s p) (beats v)) (retain s (beats v)) (λ q.
      kept_in (retain s p) (beats v) q ∙ ap (λ b. b && beats v q) (kept_in s p q)
      ∙ and_next (contains s q) (beats v q) (p q) (λ over. sym (objects v q (first_so _ _ over)) ∙ e)
      ∙ sym (kept_in s (beats v) q)))

  -- versions that are kept by the next version of their object can be filtered before or after
  by_next : (keep : VersionData → Option VersionData → Bool) (s : VersionSet) →
      retain (retain s p) (λ v. keep v (next_in (retain s p) v)) ≡ retain (retain s (λ v. keep v (next_in s v))) p
  by_next keep s =
      equal _ _ (λ q.
      kept_in (retain s p) (λ v. keep v (next_in (retain s p) v)) q ∙ ap (λ b. b && keep q (next_in (retain s p) q)) (kept_in s p q)
      ∙ and_own (contains s q) (p q) (keep q (next_in (retain s p) q)) (keep q (next_in s q)) (λ e. ap (keep q) (next_left s q e))
      ∙ sym (kept_in (retain s (λ v. keep v (next_in s v))) p q ∙ ap (λ b. b && p q) (kept_in s (λ v. keep v (next_in s v)) q)))

  snapshot_by_next : (s : VersionSet) → snapshot s ≡ retain s (λ v. is_none (option_map moment (next_in s v)))
  snapshot_by_next s = λ i. retain s (λ v. none_next s v i)

  snapshot_left : (s : VersionSet) → snapshot (retain s p) ≡ retain (snapshot s) p
  snapshot_left s = snapshot_by_next (retain s p) ∙ by_next (λ v next. is_none (option_map moment next)) s
      ∙ ap (λ t. retain t p) (sym (snapshot_by_next s))

  state_left : (s : VersionSet) (t : ℕ) → snapshot (retain (retain s p) (is_by t)) ≡ retain (snapshot (retain s (is_by t))) p
  state_left s t = ap snapshot (retain_turn s p (is_by t)) ∙ snapshot_left (retain s (is_by t))

  pub selected_left : (selection : Selection) (s : VersionSet) → selection_of selection (retain s p) ≡ retain (selection_of selection s) p
  selected_left All s = refl
  selected_left Visible s = retain_turn s p is_visible
  selected_left Newest s = snapshot_left s
  selected_left NewestVisible s = ap (λ t. retain t is_visible) (snapshot_left s) ∙ retain_turn (snapshot s) p is_visible
  selected_left (State t) s = state_left s t
  selected_left (StateVisible t) s = ap (λ r. retain r is_visible) (state_left s t)
      ∙ retain_turn (snapshot (retain s (is_by t))) p is_visible
  selected_left (Between from to) s = by_next (λ v next. stays (Between from to) v (option_map moment next)) s

-- The selection of a slice is the slice of the selection.
pub selected_of_slice : SelectedOfSlice
selected_of_slice selection from to s = selected_left (is_within from to) (within_same from to) selection s

-- ---- unions
-- The slice of a union is the union of the slices.
pub slice_of_unions : SliceOfUnions
slice_of_unions from to sets = retain_all (is_within from to) sets

-- ---- span by span
module _ (selection : Selection) (sets : List VersionSet) where
  one_span : (from to : Option Object) → slice_of from to (selection_of selection (union_all sets))
      ≡ selection_of selection (union_all (map (slice_of from to) sets))
  one_span from to = sym (selected_of_slice selection from to (union_all sets)) ∙ ap (selection_of selection) (slice_of_unions from to sets)

  each_span : (spans : List Span)
      → concat (map (spell Opl) (map (λ span. slice_of span.from span.to (selection_of selection (union_all sets))) spans))
      ≡ concat (map (λ span. spell Opl (selection_of selection (union_all (map (slice_of span.from span.to) sets)))) spans)
  each_span [] = refl
  each_span (span ∷ spans) = λ i. spell Opl (one_span span.from span.to i) ++ each_span spans i

-- The files of the selections of the slices, in sequence, are the file of the selection of the whole.
pub slices_write_the_whole : SlicesWriteTheWhole
slices_write_the_whole selection bounds sets rise = lines_of_slices bounds (selection_of selection (union_all sets)) rise
    ∙ each_span selection sets (spans bounds)
