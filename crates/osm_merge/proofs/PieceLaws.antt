-- Sets within the spans of bounds are the slices of their union.
use Rattle.std.proofs.Common.{◌≡◌, Bool, true, false, not, ◌&&◌, ◌||◌, List, [], ◌∷◌, map, refl, sym, ap, ◌∙◌, Option, Some, None}
use Rattle.std.proofs.lemmas.Bool.{false≢true}
use Rattle.std.specs.Cmp.{first_so, second_so}
use Rattle.std.specs.List.{AllByRecursion}
use Rattle.std.proofs.Math.Bool.{or-false}
use Rattle.osm_model.specs.declared.object.Object.{Object}
use Rattle.osm_model.specs.Data.{VersionData}
use Rattle.osm_model.specs.Order.{version_cmp_total}
use Rattle.osm_model.specs.Pairwise.{Pairwise}
use Rattle.osm_model.specs.VersionSet.{VersionSet}
use Rattle.osm_model.specs.Sets.{contains, union, empty}
use Rattle.osm_model.proofs.SetLaws.{contains-union, contains-from_list}
use Rattle.osm_merge.specs.declared.span.Span.{Span}
use Rattle.osm_merge.specs.Members.{union_all}
use Rattle.osm_merge.specs.Slice.{reaches, is_under, is_within, slice_of, span_of, spans_from, IsWithin}
use Rattle.osm_merge.specs.SliceLaws.{SetsWithinAreSlices}
use Rattle.osm_merge.proofs.SliceLaws.{kept_in, Rise, rise, reaches_lower, slices_from}
use Rattle.osm_files.proofs.SpellLaws.{equal_sets as equal}
use Rattle.osm_merge.proofs.UnionAllLaws.{in_union_all, some_has}

-- Each member of a set within a span is within the span.
pub has_within : (span : Span) (s : VersionSet) → IsWithin span s → (v : VersionData) → contains s v ≡ true →
    is_within span.from span.to v ≡ true
has_within span s is v has =
    second_so (contains s v) (is_within span.from span.to v)
    (sym (kept_in s (is_within span.from span.to) v) ∙ ap (λ t. contains t v) is ∙ has)

not_both : (b : Bool) → not b ≡ true → b ≡ true → ⊥
not_both true n e = false≢true n
not_both false n e = false≢true e

either : (a b : Bool) (C : Type 0) → (a || b) ≡ true → (a ≡ true → C) → (b ≡ true → C) → C
either true b C e f g = f refl
either false b C e f g = g e

-- the members of sets within spans reach the bound at which the first span begins
pub all_reach : (from : Option Object) (bounds : List Object) (sets : List VersionSet) → Rise from bounds →
    Pairwise IsWithin (spans_from from bounds) sets → (v : VersionData) → some_has sets v ≡ true → reaches from v ≡ true
all_reach from [] [] h k v e = absurd k
all_reach from [] (s ∷ t ∷ sets) h k v e = absurd k.1
all_reach from [] (s ∷ []) h k v e = first_so _ _ (has_within (span_of from None) s k.0 v (sym (or-false (contains s v)) ∙ e))
all_reach from (bound ∷ bounds) [] h k v e = absurd k
all_reach from (bound ∷ bounds) (s ∷ sets) h k v e =
    either (contains s v) (some_has sets v) (reaches from v ≡ true) e
    (λ here. first_so _ _ (has_within (span_of from (Some bound)) s k.0 v here))
    (λ there. reaches_lower from bound h.0 v (all_reach (Some bound) bounds sets h.1 k.1 v there))

own : (a b w : Bool) → (a ≡ true → w ≡ true) → (b ≡ true → w ≡ true → ⊥) → ((a || b) && w) ≡ a
own true b w h k = h refl
own false true true h k = absurd (k refl refl)
own false true false h k = refl
own false false w h k = refl

other : (a b w : Bool) → (a ≡ true → w ≡ true → ⊥) → ((a || b) && w) ≡ (b && w)
other true true w k = refl
other true false true k = absurd (k refl refl)
other true false false k = refl
other false b w k = refl

own_slice : (span : Span) (s others : VersionSet) → IsWithin span s →
    ((v : VersionData) → contains others v ≡ true → is_within span.from span.to v ≡ true → ⊥) →
    slice_of span.from span.to (union s others) ≡ s
own_slice span s others is apart =
    equal _ _ (λ v.
    kept_in (union s others) (is_within span.from span.to) v
    ∙ ap (λ b. b && is_within span.from span.to v) (contains-union version_cmp_total s others v)
    ∙ own (contains s v) (contains others v) (is_within span.from span.to v) (has_within span s is v) (apart v))

other_slice : (span : Span) (s others : VersionSet) → ((v : VersionData) → contains s v ≡ true → is_within span.from span.to v ≡ true → ⊥) →
    slice_of span.from span.to (union s others) ≡ slice_of span.from span.to others
other_slice span s others apart =
    equal _ _ (λ v.
    kept_in (union s others) (is_within span.from span.to) v
    ∙ ap (λ b. b && is_within span.from span.to v) (contains-union version_cmp_total s others v)
    ∙ other (contains s v) (contains others v) (is_within span.from span.to v) (apart v)
    ∙ sym (kept_in others (is_within span.from span.to) v))

-- each version that reaches a span reaches the bound `base`
abbrev IsAbove : Option Object → Span → Type 0
IsAbove base span = (v : VersionData) → reaches span.from v ≡ true → reaches base v ≡ true

spans_above : (base from : Option Object) (bounds : List Object) → Rise from bounds →
    ((v : VersionData) → reaches from v ≡ true → reaches base v ≡ true) → AllByRecursion (IsAbove base) (spans_from from bounds)
spans_above base from [] h f = (f, tt)
spans_above base from (bound ∷ bounds) h f = (f, spans_above base (Some bound) bounds h.1 (λ v r. f v (reaches_lower from bound h.0 v r)))

other_slices : (from : Option Object) (bound : Object) (s others : VersionSet) → IsWithin (span_of from (Some bound)) s →
    (spans : List Span) → AllByRecursion (IsAbove (Some bound)) spans
    → map (λ span. slice_of span.from span.to (union s others)) spans ≡ map (λ span. slice_of span.from span.to others) spans
other_slices from bound s others is [] h = refl
other_slices from bound s others is (span ∷ spans) h = λ i.
    other_slice span s others (λ v has w. not_both (is_under (Some bound) v) (h.0 v (first_so _ _ w))
    (second_so _ _ (has_within (span_of from (Some bound)) s is v has))) i
    ∷ other_slices from bound s others is spans h.1 i

pieces : (from : Option Object) (bounds : List Object) (sets : List VersionSet) → Rise from bounds →
    Pairwise IsWithin (spans_from from bounds) sets → slices_from from bounds (union_all sets) ≡ sets
pieces from [] [] h k = absurd k
pieces from [] (s ∷ t ∷ sets) h k = absurd k.1
pieces from [] (s ∷ []) h k = ap (λ t. t ∷ []) (own_slice (span_of from None) s empty k.0
    (λ v has w. false≢true (sym (contains-from_list version_cmp_total [] v) ∙ has)))
pieces from (bound ∷ bounds) [] h k = absurd k
pieces from (bound ∷ bounds) (s ∷ sets) h k = λ i.
    own_slice (span_of from (Some bound)) s (union_all sets) k.0
    (λ v has w. not_both (is_under (Some bound) v) (all_reach (Some bound) bounds sets h.1 k.1 v (sym (in_union_all sets v) ∙ has))
    (second_so _ _ w)) i
    ∷ (other_slices from bound s (union_all sets) k.0 (spans_from (Some bound) bounds)
    (spans_above (Some bound) (Some bound) bounds h.1 (λ v r. r)) ∙ pieces (Some bound) bounds sets h.1 k.1) i

-- Sets within the spans of bounds are the slices of their union.
pub sets_within_are_slices : SetsWithinAreSlices
sets_within_are_slices bounds sets h k = pieces None bounds sets (rise bounds h) k
