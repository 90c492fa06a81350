-- The versions that sources give within a span are the slices of the versions that they give.
use Rattle.std.proofs.Common.{◌≡◌, ℕ, Bool, true, false, List, [], ◌∷◌, refl, sym, ap, ◌∙◌, Option, Some, None, ◌&&◌, if◌then◌else◌}
use Rattle.std.proofs.Common.{length, arith}
use Rattle.std.proofs.lemmas.Bool.{false≢true}
use Rattle.std.specs.Prelude.{is_none}
use Rattle.std.specs.declared.cmp.Ordering.TheVariants.{Less}
use Rattle.std.specs.List.{filter}
use Rattle.std.specs.List.Sorted.{IsStrictlySortedBy}
use Rattle.std.proofs.lemmas.List.Kept.{IsStrictlySortedBy-filter}
use Rattle.std.proofs.lemmas.List.Sums.{length-filter, count_by-le-length}
use Rattle.osm_model.specs.declared.object.Object.{Object}
use Rattle.osm_model.specs.Data.{VersionData}
use Rattle.osm_model.specs.Order.{version_cmp, version_cmp_total}
use Rattle.osm_model.specs.Sets.{from_list, to_list, contains}
use Rattle.osm_model.proofs.SetLaws.{contains-from_list}
use Rattle.osm_model.proofs.VersionLaws.{to_list-view}
use Rattle.osm_files.specs.declared.fault.Fault.{Fault}
use Rattle.osm_files.specs.Source.{Ascends}
use Rattle.osm_files.specs.Stream.{end_whole, front, end_refused}
use Rattle.osm_merge.specs.declared.span.Span.{Span}
use Rattle.osm_merge.specs.Slice.{reaches, is_under, is_within, slice_of, IsWithin}
use Rattle.osm_merge.specs.ToCome.{VersionsToCome, rest}
use Rattle.osm_merge.specs.Within.{up_to, from_bound, dropped_outside, refused_outside, stray_fault}
use Rattle.osm_merge.proofs.AscendingLaws.{first_below, rest_ascends}
use Rattle.osm_merge.proofs.PassLaws.{filter_filter, filter_none}
use Rattle.osm_merge.proofs.SliceLaws.{none_after, under_down, kept_in}
use Rattle.osm_files.proofs.SpellLaws.{equal_sets as equal}
use Rattle.osm_merge.proofs.UnionLaws.{among_filter}

under_falls : (to : Option Object) (v w : VersionData) → version_cmp v w ≡ Less → is_under to w ≡ true → is_under to v ≡ true
under_falls None v w less h = refl
under_falls (Some to) v w less h = under_down to v w less h

-- in an ascending list, the versions before the first one above the upper bound are those below the bound
up_to_list : (to : Option Object) (r : Option Fault) (vs : List VersionData) → IsStrictlySortedBy version_cmp vs →
    (up_to (is_under to) end_whole r vs).list ≡ filter (is_under to) vs
up_to_list to r [] h = refl
up_to_list to r (v ∷ vs) h =
    elim (is_under to v) as (λ b. is_under to v ≡ b → (if b then front v (up_to (is_under to) end_whole r vs) else end_whole).list
    ≡ (if b then v ∷ filter (is_under to) vs else filter (is_under to) vs)) [
      | true ↦ λ e. ap (λ t. v ∷ t) (up_to_list to r vs (rest_ascends version_cmp v vs h))
      | false ↦ λ e. sym (filter_none (is_under to) vs
          (none_after version_cmp (is_under to) (under_falls to) v vs e (first_below version_cmp v vs h)))
    ] refl

-- the set of a filtered list has the members of the set of the list that pass
filtered : (p : VersionData → Bool) (vs : List VersionData) (v : VersionData) →
    contains (from_list {R = version_cmp} (filter p vs)) v ≡ (contains (from_list {R = version_cmp} vs) v && p v)
filtered p vs v =
    contains-from_list version_cmp_total (filter p vs) v ∙ among_filter p v vs
    ∙ ap (λ b. b && p v) (sym (contains-from_list version_cmp_total vs v))

set_filtered : (from to : Option Object) (vs : List VersionData) →
    from_list {R = version_cmp} (filter (is_within from to) vs) ≡ slice_of from to (from_list vs)
set_filtered from to vs = equal _ _ (λ v. filtered (is_within from to) vs v ∙ sym (kept_in (from_list vs) (is_within from to) v))

-- a source whose versions outside are dropped gives the slice of its versions
pub dropped_is_slice : (span : Span) (c : VersionsToCome) → Ascends c →
    from_list {R = version_cmp} (dropped_outside span c).list ≡ slice_of span.from span.to (from_list c.list)
dropped_is_slice span c h =
    let from : VersionsToCome = from_bound span c in
    ap (from_list {R = version_cmp})
    (up_to_list span.to from.refusal from.list (IsStrictlySortedBy-filter version_cmp (reaches span.from) c.list h)
    ∙ filter_filter (reaches span.from) (is_under span.to) c.list)
    ∙ set_filtered span.from span.to c.list

whole_up_to : (p : VersionData → Bool) (r : Option Fault) (vs : List VersionData) → r ≡ None →
    (up_to p end_whole r vs).refusal ≡ None
whole_up_to p r [] none = none
whole_up_to p r (v ∷ vs) none = elim (p v) as (λ b. (if b then front v (up_to p end_whole r vs) else end_whole).refusal ≡ None) [
  | true ↦ whole_up_to p r vs none
  | false ↦ refl
]

-- a source that is whole is whole within any span
pub dropped_of_whole : (span : Span) (c : VersionsToCome) → c.refusal ≡ None → (dropped_outside span c).refusal ≡ None
dropped_of_whole span c none = let from : VersionsToCome = from_bound span c in
    whole_up_to (is_under span.to) from.refusal from.list none

refusal_after : (r : Option Fault) (vs : List VersionData) → (up_to (is_under None) end_whole r vs).refusal ≡ r
refusal_after r [] = refl
refusal_after r (v ∷ vs) = refusal_after r vs

-- without an upper bound the rest ends with the refusal of the source
pub dropped_to_the_end : (span : Span) (c : VersionsToCome) → span.to ≡ None → (dropped_outside span c).refusal ≡ c.refusal
dropped_to_the_end span c none = let from : VersionsToCome = from_bound span c in
    ap (λ to. (up_to (is_under to) end_whole from.refusal from.list).refusal) none ∙ refusal_after from.refusal from.list

-- all versions pass, and the source is whole
record AllInside (p : VersionData → Bool) (r : Option Fault) (fault : Fault) (vs : List VersionData) : Type 0 where
  whole : r ≡ None
  list : (up_to p (end_refused fault) r vs).list ≡ vs
  inside : filter p vs ≡ vs

all_inside : (p : VersionData → Bool) (r : Option Fault) (fault : Fault) (vs : List VersionData) →
    (up_to p (end_refused fault) r vs).refusal ≡ None → AllInside p r fault vs
all_inside p r fault [] none = record { whole = none; list = refl; inside = refl }
all_inside p r fault (v ∷ vs) none =
    elim (p v) as (λ b. p v ≡ b → (if b then front v (up_to p (end_refused fault) r vs) else end_refused fault).refusal ≡ None →
    AllInside p r fault (v ∷ vs)) [
      | true ↦ λ e h. let more = all_inside p r fault vs h in record {
        whole = more.whole;
        list = rw e (ap (λ t. v ∷ t) more.list);
        inside = rw e (ap (λ t. v ∷ t) more.inside);
      }
      | false ↦ λ e h. absurd (false≢true (ap is_none h))
    ] refl none

-- a source whose first version outside would be refused, and that is whole, has no version outside
pub record IsInside (input : ℕ) (span : Span) (c : VersionsToCome) : Type 0 where
  pub whole : c.refusal ≡ None
  pub list : (refused_outside input span c).list ≡ c.list
  pub within : IsWithin span (from_list {R = version_cmp} c.list)

-- If no version is refused for being outside the span, all versions are inside.
pub refused_is_inside : (input : ℕ) (span : Span) (c : VersionsToCome) → (refused_outside input span c).refusal ≡ None →
    IsInside input span c
refused_is_inside input span c none =
    let all = all_inside (is_within span.from span.to) c.refusal (stray_fault input) c.list none in record {
      whole = all.whole;
      list = all.list;
      within = sym (set_filtered span.from span.to c.list) ∙ ap (from_list {R = version_cmp}) all.inside;
    }

all_pass : (p : VersionData → Bool) (end : VersionsToCome) (r : Option Fault) (vs : List VersionData) → filter p vs ≡ vs →
    up_to p end r vs ≡ record { list = vs; refusal = r }
all_pass p end r [] is = refl
all_pass p end r (v ∷ vs) is =
    elim (p v) as (λ b. (if b then v ∷ filter p vs else filter p vs) ≡ v ∷ vs →
    (if b then front v (up_to p end r vs) else end) ≡ record { list = v ∷ vs; refusal = r }) [
      | true ↦ λ h. ap (front v) (all_pass p end r vs (ap rest h))
      | false ↦ λ h. absurd (let more : length (filter p vs) ≡ length (v ∷ vs) = ap length h in
          omega (arith, more, length-filter p vs, count_by-le-length p vs))
    ] is

-- a source without versions outside gives all its versions
pub inside_is_given : (input : ℕ) (span : Span) (c : VersionsToCome) → Ascends c → IsWithin span (from_list {R = version_cmp} c.list) →
    refused_outside input span c ≡ c
inside_is_given input span c up within =
    let p : VersionData → Bool = is_within span.from span.to in
    let same : from_list {R = version_cmp} (filter p c.list) ≡ from_list c.list = set_filtered span.from span.to c.list ∙ within in
    all_pass p (end_refused (stray_fault input)) c.refusal c.list
    (sym (to_list-view (filter p c.list) (IsStrictlySortedBy-filter version_cmp p c.list up)) ∙ ap to_list same ∙ to_list-view c.list up)
