-- The versions that a source gives within a span of objects: an own rule of this project.
use Rattle.std.proofs.Common.{subst, sym, refl}
use Rattle.std.specs.Prelude.{◌≡◌, ℕ, Bool, true, false, List, [], ◌∷◌, Option, if◌then◌else◌}
use Rattle.std.specs.List.{filter, AllByRecursion}
use Rattle.std.specs.List.Sorted.{IsStrictlySortedBy}
use Rattle.std.specs.declared.cmp.Ordering.TheVariants.{Less}
use Rattle.std.proofs.lemmas.List.Kept.{IsStrictlySortedBy-filter}
use Rattle.osm_model.specs.Data.{VersionData}
use Rattle.osm_model.specs.Order.{version_cmp}
use Rattle.osm_files.specs.declared.fault.Fault.{Fault}
use Rattle.osm_files.specs.declared.reason.Reason.TheVariants.{Unsorted}
use Rattle.osm_files.specs.Fault.{failed_fault, fault_at}
use Rattle.osm_files.specs.Source.{Ascends}
use Rattle.osm_files.specs.Stream.{end_whole, end_refused, front}
use Rattle.osm_merge.specs.declared.span.Span.{Span}
use Rattle.osm_merge.specs.declared.within.Outside.{Outside}
use Rattle.osm_merge.specs.declared.within.Outside.TheVariants.{Dropped, Refused}
use Rattle.osm_merge.specs.declared.within.State.{State}
use Rattle.osm_merge.specs.declared.within.State.TheVariants.{Open, Ended, Failed}
use Rattle.osm_merge.specs.declared.within.Within.{Within}
use Rattle.osm_merge.specs.Slice.{reaches, is_under, is_within}
use Rattle.osm_merge.specs.ToCome.{VersionsToCome}

-- a rest without the versions below the lower bound
abbrev pub from_bound : Span → VersionsToCome → VersionsToCome
from_bound span c = record { list = filter (reaches span.from) c.list; refusal = c.refusal }

-- the versions before the first one that doesn't pass `p`, and then `end`; if all pass, all versions and `refusal`
abbrev pub up_to : (VersionData → Bool) → VersionsToCome → Option Fault → List VersionData → VersionsToCome
up_to p end refusal [] = record { list = []; refusal = refusal }
up_to p end refusal (v ∷ versions) = if p v then front v (up_to p end refusal versions) else end

-- a rest without the versions outside the span: the first version above the span is the end, whatever comes after it
abbrev pub dropped_outside : Span → VersionsToCome → VersionsToCome
dropped_outside span c = let from = from_bound span c in up_to (is_under span.to) end_whole from.refusal from.list

-- the fault of a version outside the span, whose place isn't known
abbrev pub stray_fault : ℕ → Fault
stray_fault input = fault_at input 0 Unsorted

-- a rest that is refused at the first version outside the span
abbrev pub refused_outside : ℕ → Span → VersionsToCome → VersionsToCome
refused_outside input span c = up_to (is_within span.from span.to) (end_refused (stray_fault input)) c.refusal c.list

-- the rest of a source within a span
abbrev pub given_within : Outside → ℕ → Span → VersionsToCome → VersionsToCome
given_within Dropped input span c = dropped_outside span c
given_within Refused input span c = refused_outside input span c

-- the rest of a source within a span, by its state: nothing after the end, and Failed after a refusal
abbrev pub still_in : State → Outside → ℕ → Span → VersionsToCome → VersionsToCome
still_in Open outside input span c = given_within outside input span c
still_in Ended outside input span c = end_whole
still_in Failed outside input span c = end_refused (failed_fault input)

abbrev pub still_within : {S : Type 0} → Within S → VersionsToCome → VersionsToCome
still_within w c = still_in w.state w.outside w.input w.span c

-- a source within a span, before the first call
abbrev pub within_span : {S : Type 0} → Outside → Span → ℕ → S → Within S
within_span outside span input source = record {
  source = source;
  input = input;
  span = span;
  outside = outside;
  state = Open;
}

-- a source within a span can give each rest that its source can give, within the span
abbrev pub WithinCanGive : {S : Type 0} → (S → VersionsToCome → Type 0) → Within S → VersionsToCome → Type 0
WithinCanGive can w still = (c : VersionsToCome) × can w.source c × (still ≡ still_within w c)

abbrev pub has_failed : State → Bool
has_failed Open = false
has_failed Ended = false
has_failed Failed = true

-- ---- the versions within a span ascend
above_front : (v : VersionData) (p : VersionData → Bool) (end : VersionsToCome) (r : Option Fault)
    (versions : List VersionData) → end.list ≡ [] → AllByRecursion (λ y. version_cmp v y ≡ Less) versions
    → AllByRecursion (λ y. version_cmp v y ≡ Less) (up_to p end r versions).list
above_front v p end r [] none h = tt
above_front v p end r (w ∷ versions) none h =
    elim (p w) as (λ b. AllByRecursion (λ y. version_cmp v y ≡ Less)
    (if b then front w (up_to p end r versions) else end).list) [
      | true ↦ (h.0, above_front v p end r versions none h.1)
      | false ↦ subst (AllByRecursion (λ y. version_cmp v y ≡ Less)) (sym none) tt
    ]

nothing_ascends : (end : VersionsToCome) → end.list ≡ [] → Ascends {E = Fault} end
unfolding IsStrictlySortedBy
nothing_ascends end none = subst (IsStrictlySortedBy version_cmp) (sym none) tt

up_to_ascends : (p : VersionData → Bool) (end : VersionsToCome) (r : Option Fault) (versions : List VersionData)
    → end.list ≡ [] → IsStrictlySortedBy version_cmp versions → Ascends (up_to p end r versions)
unfolding IsStrictlySortedBy
up_to_ascends p end r [] none h = tt
up_to_ascends p end r (v ∷ versions) none h =
    elim (p v) as (λ b. Ascends (if b then front v (up_to p end r versions) else end)) [
      | true ↦ (above_front v p end r versions none h.0, up_to_ascends p end r versions none h.1)
      | false ↦ nothing_ascends end none
    ]

pub ascends_in : (state : State) (outside : Outside) (input : ℕ) (span : Span) (c : VersionsToCome) → Ascends c →
    Ascends (still_in state outside input span c)
ascends_in Open Dropped input span c h =
    up_to_ascends (is_under span.to) end_whole c.refusal (filter (reaches span.from) c.list) refl
    (IsStrictlySortedBy-filter version_cmp (reaches span.from) c.list h)
ascends_in Open Refused input span c h =
    up_to_ascends (is_within span.from span.to) (end_refused (stray_fault input)) c.refusal c.list refl h
ascends_in Ended outside input span c h = nothing_ascends end_whole refl
ascends_in Failed outside input span c h = nothing_ascends (end_refused (failed_fault input)) refl

pub within_ascends : {S : Type 0} (can : S → VersionsToCome → Type 0)
    → ((s : S) (c : VersionsToCome) → can s c → Ascends c) → (w : Within S) (still : VersionsToCome)
    → WithinCanGive can w still → Ascends still
within_ascends can up w still h =
    subst Ascends (sym h.2) (ascends_in w.state w.outside w.input w.span h.0 (up w.source h.0 h.1))
