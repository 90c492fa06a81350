-- The versions of a refused source: the key groups before the last one that began before the fault.
use Rattle.std.proofs.Common.{◌≡◌, ℕ, ◌+◌, ◌-◌, ◌≤◌, Bool, true, false, ◌||◌, ◌&&◌, cond, List, [], ◌∷◌, ◌++◌, length, filter, slice_get}
use Rattle.std.proofs.Common.{refl, ap, sym, ◌∙◌, arith, Option, Some, None, option_map, append-nil, append_assoc, nat_lt}
use Rattle.std.proofs.lemmas.Bool.{false≢true, and_right, le-ltb, lt-ltb}
use Rattle.std.proofs.lemmas.List.Folds.{list_any-append}
use Rattle.std.proofs.lemmas.Map.Views.{any-filter_same}
use Rattle.std.proofs.lemmas.Option.{none-some, same_Some}
use Rattle.std.specs.declared.cmp.Ordering.{Ordering}
use Rattle.std.specs.declared.cmp.Ordering.TheVariants.{Less, Equal, Greater}
use Rattle.std.specs.Cmp.{Equal-is, alike_right, tied_itself, upto}
use Rattle.std.specs.List.{AllByRecursion}
use Rattle.std.specs.Ordering.{eq_by_cmp, is_eq, is_gt, is_lt, ordering_reverse}
use Rattle.osm_model.specs.Data.{VersionData}
use Rattle.osm_model.specs.Order.{key_cmp, key_cmp_total, version_cmp}
use Rattle.osm_model.proofs.VersionLaws.{version_cmp-IsAntisymmetric}
use Rattle.osm_files.specs.declared.fault.Fault.{Fault}
use Rattle.osm_files.specs.declared.reason.Reason.TheVariants.{Unsorted}
use Rattle.osm_files.specs.declared.end_rule.EndRule.TheVariants as rule
use Rattle.osm_files.specs.EndRule.{new_test}
use Rattle.osm_files.specs.Groups.{IsGroup, to_ascending, given_at, groups, last_group, new_source, sorted_source, versions_then}
use Rattle.osm_files.specs.Input.{InputRest}
use Rattle.osm_files.specs.Position.{fault_of, with_rest, units_from}
use Rattle.osm_files.specs.SourceLaws.{FaultyInputGivesTheGroupsBefore, RefusedSourceGivesTheGroupsBefore, groups_before}
use Rattle.osm_files.specs.SourceLaws.{groups_before_last, input_verdict}
use Rattle.osm_files.specs.Stream.{Placed, SourceRest, Verdict, end_refused, verdict_at}
use Rattle.osm_files.specs.Verdict.{is_below, is_below_last, sorted_verdict, versions_of}
use Rattle.osm_files.proofs.GroupLaws.{ascending_is, group_joined, has, has_ascending}
use Rattle.osm_files.proofs.HoldLaws.{below_first, members_are, source_refusal}
use Rattle.osm_files.proofs.OffsetLaws.{Follow, input_follows}
use Rattle.osm_files.proofs.RiseLaws.{groups_rise, less_from, member, source_begins_known, source_is}

-- ---- keys
turned : (o : Ordering) → is_gt (ordering_reverse o) ≡ is_lt o
turned Less = refl
turned Equal = refl
turned Greater = refl

not_below : (v w : VersionData) → is_lt (key_cmp w v) ≡ false → is_gt (key_cmp v w) ≡ false
not_below v w e = ap is_gt (key_cmp_total.antisymm v w) ∙ turned (key_cmp w v) ∙ e

less_upto : (u v w : VersionData) → key_cmp u v ≡ Less → is_gt (key_cmp v w) ≡ false → key_cmp u w ≡ Less
less_upto u v w less up =
    elim (key_cmp v w) as (λ o. key_cmp v w ≡ o → is_gt o ≡ false → key_cmp u w ≡ Less) [
      | Less ↦ λ e h. key_cmp_total.trans u v w less e
      | Equal ↦ λ e h. sym (alike_right key_cmp_total v w u e) ∙ less
      | Greater ↦ λ e h. absurd (false≢true (sym h))
    ] refl up

-- ---- the last of some versions
abbrev pub last_of : VersionData → List VersionData → VersionData
last_of v [] = v
last_of v (w ∷ ws) = last_of w ws

pub at_last : (v : VersionData) (ws : List VersionData) (n : ℕ) → n ≡ length ws → slice_get (v ∷ ws) n ≡ Some (last_of v ws)
at_last v [] n e = ap (slice_get (v ∷ [])) e
at_last v (w ∷ ws) n e = ap (slice_get (v ∷ w ∷ ws)) e ∙ at_last w ws (length ws) refl

below_last : (v w : VersionData) (ws : List VersionData) → is_below_last v (w ∷ ws) ≡ is_lt (key_cmp v (last_of w ws))
below_last v w ws = ap (is_below v) (at_last w ws (length (w ∷ ws) - 1) (omega arith))

last_after : (v : VersionData) (vs : List VersionData) (w : VersionData) (ws : List VersionData) → last_of v (vs ++ w ∷ ws) ≡ last_of w ws
last_after v [] w ws = refl
last_after v (u ∷ vs) w ws = last_after u vs w ws

last_holds : (P : VersionData → Type 0) (v : VersionData) (vs : List VersionData) → P v → AllByRecursion P vs → P (last_of v vs)
last_holds P v [] h k = h
last_holds P v (w ∷ vs) h k = last_holds P w vs k.0 k.1

-- ---- the groups before the last one
-- one of these versions, with a key below that of the last one
abbrev is_given : VersionData → List VersionData → Bool
is_given v versions = is_below_last v versions && has v versions

kept : (v : VersionData) (versions : List VersionData) → has v (groups_before_last versions) ≡ is_given v versions
kept v versions =
    any-filter_same (eq_by_cmp version_cmp v) (λ w. is_below_last w versions) (is_below_last v versions)
    (λ w e. ap (λ x. is_below_last x versions) (sym (version_cmp-IsAntisymmetric v w ((Equal-is (version_cmp v w)).0 e)))) versions

spread : (a p b : Bool) → (a ≡ true → p ≡ true) → a || (p && b) ≡ p && (a || b)
spread true p b h = sym (ap (λ t. t && true) (h refl))
spread false p b h = refl

module _ (v first : VersionData) (others : List VersionData) (group : IsGroup first others) where
  of_group : has v (first ∷ others) ≡ true → key_cmp first v ≡ Equal
  of_group e = member (λ w. key_cmp first w ≡ Equal) (first ∷ others) (tied_itself key_cmp_total first, group) v e

  none_given : is_given v (first ∷ others) ≡ false
  none_given =
      let last : VersionData = last_of first others in
      let same : key_cmp first last ≡ Equal =
      last_holds (λ w. key_cmp first w ≡ Equal) first others (tied_itself key_cmp_total first) group in
      elim (has v (first ∷ others)) as (λ t. has v (first ∷ others) ≡ t → is_below_last v (first ∷ others) && t ≡ false) [
        | true ↦ λ e. (
            let level : key_cmp v last ≡ Equal = sym (key_cmp_total.congr first v last (of_group e)) ∙ same in
            ap (λ t. t && true) (below_last v first others ∙ ap is_lt level))
        | false ↦ λ e. and_right (is_below_last v (first ∷ others)) false refl
      ] refl

  -- a group is given if versions with greater keys come after it
  group_given : (next : VersionData) (later : List VersionData) → key_cmp first next ≡ Less
      → is_gt (key_cmp next (last_of next later)) ≡ false
      → has v (first ∷ others) || is_given v (next ∷ later) ≡ is_given v ((first ∷ others) ++ next ∷ later)
  group_given next later less up =
      let last : VersionData = last_of next later in
      let whole : is_below_last v ((first ∷ others) ++ next ∷ later) ≡ is_lt (key_cmp v last) =
      below_last v first (others ++ next ∷ later) ∙ ap (λ w. is_lt (key_cmp v w)) (last_after first others next later) in
      let below : has v (first ∷ others) ≡ true → is_lt (key_cmp v last) ≡ true =
      λ e. ap is_lt (less_upto v next last (less_from first v next less (of_group e)) up) in
      ap (λ t. has v (first ∷ others) || (t && has v (next ∷ later))) (below_last v next later)
      ∙ spread (has v (first ∷ others)) (is_lt (key_cmp v last)) (has v (next ∷ later)) below
      ∙ (λ i. sym whole i && sym (list_any-append (eq_by_cmp version_cmp v) (first ∷ others) (next ∷ later)) i)

-- ---- the units before a fault
module _ (fault : Verdict) where
  abbrev pub is_early : Placed → Bool
  is_early unit = nat_lt unit.offset fault.place

  -- the versions of the units that begin before the fault
  abbrev pub early : List Placed → List VersionData
  early us = versions_of (filter is_early us)

  early_by : (u : Placed) (us : List Placed) (t : Bool) → is_early u ≡ t
      → early (u ∷ us) ≡ versions_of (cond t (u ∷ filter is_early us) (filter is_early us))
  early_by u us t e = ap (λ b. versions_of (cond b (u ∷ filter is_early us) (filter is_early us))) e

  none_early : (from : ℕ) (us : List Placed) (refusal : Option Verdict) → Follow from us refusal → fault.place ≤ from → early us ≡ []
  none_early from [] refusal h le = refl
  none_early from (u ∷ us) refusal h le =
      early_by u us false (le-ltb u.offset fault.place (omega (arith, le, h.0)))
      ∙ none_early (u.offset + 1) us refusal h.1 (omega (arith, le, h.0))

  module _ (close : Option Verdict) where
    -- the units from this offset on meet the fault, if this version is before them
    abbrev pub Meets : Option VersionData → ℕ → List Placed → Type 0
    Meets before from us = Follow from us close × (sorted_verdict close before us ≡ Some fault)

    module _ (before : Option VersionData) (u : Placed) (us : List Placed) (met : sorted_verdict close before (u ∷ us) ≡ Some fault) where
      met_by : (t : Bool) → is_below u.version before ≡ t
          → cond t (Some (verdict_at u.offset Unsorted)) (sorted_verdict close (Some u.version) us) ≡ Some fault
      met_by t e = ap (λ b. cond b (Some (verdict_at u.offset Unsorted)) (sorted_verdict close (Some u.version) us)) (sym e) ∙ met

      at_fault : is_below u.version before ≡ true → u.offset ≡ fault.place
      at_fault e = ap (λ v. v.place) (same_Some (verdict_at u.offset Unsorted) fault (met_by true e))

    fault_from : (from : ℕ) (us : List Placed) (before : Option VersionData) → Meets before from us → from ≤ fault.place
    fault_from from [] before m = closed_from close m
      where
        closed_from : (end : Option Verdict) → Follow from [] end × (end ≡ Some fault) → from ≤ fault.place
        closed_from None h = absurd (none-some fault h.1)
        closed_from (Some v) h = let place = ap (λ (x : Verdict). x.place) (same_Some v fault h.1) in omega (arith, place, h.0)
    fault_from from (u ∷ us) before m =
        elim (is_below u.version before) as (λ t. is_below u.version before ≡ t → from ≤ fault.place) [
          | true ↦ λ e. (let place = at_fault before u us m.1 e in omega (arith, place, m.0.0))
          | false ↦ λ e. (
              let later = fault_from (u.offset + 1) us (Some u.version) (m.0.1, met_by before u us m.1 false e) in
              omega (arith, later, m.0.0))
        ] refl

    module _ (before : Option VersionData) (from : ℕ) (u : Placed) (us : List Placed) (m : Meets before from (u ∷ us)) where
      pub stops : is_below u.version before ≡ true → early (u ∷ us) ≡ []
      stops e =
          let place = at_fault before u us m.1 e in
          none_early u.offset (u ∷ us) close (omega arith, m.0.1) (omega (arith, place))

      pub goes_on : is_below u.version before ≡ false → (early (u ∷ us) ≡ u.version ∷ early us) × Meets (Some u.version) (u.offset + 1) us
      goes_on e =
          let on : Meets (Some u.version) (u.offset + 1) us = (m.0.1, met_by before u us m.1 false e) in
          let later = fault_from (u.offset + 1) us (Some u.version) on in
          (early_by u us true (lt-ltb u.offset fault.place (omega (arith, later))), on)

    -- no key before the fault is below that of the version before it
    last_up : (from : ℕ) (us : List Placed) (v : VersionData) → Meets (Some v) from us → is_gt (key_cmp v (last_of v (early us))) ≡ false
    last_up from [] v m = ap is_gt (tied_itself key_cmp_total v)
    last_up from (u ∷ us) v m =
        let P : List VersionData → Bool = λ vs. is_gt (key_cmp v (last_of v vs)) in
        elim (is_below u.version (Some v)) as (λ t. is_below u.version (Some v) ≡ t → P (early (u ∷ us)) ≡ false) [
          | true ↦ λ e. ap P (stops (Some v) from u us m e) ∙ ap is_gt (tied_itself key_cmp_total v)
          | false ↦ λ e. (
              let on = goes_on (Some v) from u us m e in
              let up : is_gt (key_cmp u.version (last_of u.version (early us))) ≡ false = last_up (u.offset + 1) us u.version on.1 in
              ap P on.0 ∙ upto key_cmp_total v u.version (last_of u.version (early us)) (not_below v u.version e) up)
        ] refl

    -- ---- the versions that the groups give
    module _ (input : ℕ) where
      abbrev still : List Placed → List VersionData → SourceRest VersionData Fault
      still us group = groups input (option_map (fault_of input) close) us group

      -- after a group, by how the group's key compares with that of the next unit
      abbrev still_by : VersionData → List VersionData → Placed → List Placed → Ordering → SourceRest VersionData Fault
      still_by first others u us o =
          cond (is_eq o) (still us (first ∷ (others ++ u.version ∷ [])))
          (cond (is_lt o) (versions_then (to_ascending (first ∷ others)) (still us (u.version ∷ [])))
          (end_refused (fault_of input (verdict_at u.offset Unsorted))))

      module _ (v : VersionData) where
        abbrev GivesEarly : List Placed → VersionData → List VersionData → Type 0
        GivesEarly us first others = has v (still us (first ∷ others)).list ≡ is_given v ((first ∷ others) ++ early us)

        module _ (first : VersionData) (others : List VersionData) (group : IsGroup first others) where
          nothing_given : (us : List Placed) → early us ≡ [] → false ≡ is_given v ((first ∷ others) ++ early us)
          nothing_given us none =
              sym (ap (λ vs. is_given v (first ∷ (others ++ vs))) none
              ∙ ap (λ vs. is_given v (first ∷ vs)) (append-nil others)
              ∙ none_given v first others group)

          closed_given : (end : Option Verdict) → end ≡ Some fault
              → has v (last_group (option_map (fault_of input) end) (first ∷ others)).list ≡ is_given v ((first ∷ others) ++ [])
          closed_given None is = absurd (none-some fault is)
          closed_given (Some w) is = nothing_given [] refl

          next_given : (u : Placed) (us : List Placed) → (early (u ∷ us) ≡ u.version ∷ early us) × Meets (Some u.version) (u.offset + 1) us
              → key_cmp first u.version ≡ Less → GivesEarly us u.version []
              → has v (to_ascending (first ∷ others) ++ (still us (u.version ∷ [])).list) ≡ is_given v ((first ∷ others) ++ early (u ∷ us))
          next_given u us on less rest =
              list_any-append (eq_by_cmp version_cmp v) (to_ascending (first ∷ others)) (still us (u.version ∷ [])).list
              ∙ (λ i. has_ascending v (first ∷ others) i || rest i)
              ∙ group_given v first others group u.version (early us) less (last_up (u.offset + 1) us u.version on.1)
              ∙ ap (λ vs. is_given v ((first ∷ others) ++ vs)) (sym on.0)

        group_gives : (us : List Placed) (first : VersionData) (others : List VersionData) (before : VersionData) (from : ℕ)
            → IsGroup first others → key_cmp first before ≡ Equal → Meets (Some before) from us → GivesEarly us first others
        group_gives [] first others before from group same m = closed_given first others group close m.1
        group_gives (u ∷ us) first others before from group same m =
            let below = λ (o : Ordering) (e : key_cmp first u.version ≡ o).
            below_first first before u.version same ∙ ap (λ p. is_lt (ordering_reverse p)) e in
            elim (key_cmp first u.version) as (λ o. key_cmp first u.version ≡ o
            → has v (still_by first others u us o).list ≡ is_given v ((first ∷ others) ++ early (u ∷ us))) [
              | Less ↦ λ e. (
                  let on = goes_on (Some before) from u us m (below Less e) in
                  next_given first others group u us on e
                  (group_gives us u.version [] u.version (u.offset + 1) tt (tied_itself key_cmp_total u.version) on.1))
              | Equal ↦ λ e. (
                  let on = goes_on (Some before) from u us m (below Equal e) in
                  let joined = group_joined first others u.version group (ap is_lt e) (ap is_gt e) in
                  group_gives us first (others ++ u.version ∷ []) u.version (u.offset + 1) joined e on.1
                  ∙ ap (λ vs. is_given v (first ∷ vs)) (append_assoc others (u.version ∷ []) (early us))
                  ∙ ap (λ vs. is_given v ((first ∷ others) ++ vs)) (sym on.0))
              | Greater ↦ λ e.
                  nothing_given first others group (u ∷ us) (stops (Some before) from u us m (below Greater e))
            ] refl

        nothing_begun : (end : Option Verdict) → end ≡ Some fault → has v (last_group (option_map (fault_of input) end) []).list ≡ false
        nothing_begun None is = absurd (none-some fault is)
        nothing_begun (Some w) is = refl

        all_given : (us : List Placed) → Meets None 0 us → has v (still us []).list ≡ is_given v (early us)
        all_given [] m = nothing_begun close m.1
        all_given (u ∷ us) m =
            let on = goes_on None 0 u us m refl in
            group_gives us u.version [] u.version (u.offset + 1) tt (tied_itself key_cmp_total u.version) on.1
            ∙ ap (is_given v) (sym on.0)

      groups_given : (us : List Placed) → Meets None 0 us → (still us []).list ≡ to_ascending (groups_before_last (early us))
      groups_given us m =
          members_are (still us []).list (groups_before_last (early us)) (groups_rise input (option_map (fault_of input) close) us)
          (λ v. all_given v us m ∙ sym (kept v (early us)))
          ∙ sym (ascending_is (groups_before_last (early us)))

-- ---- a faulty input
pub faulty_input_gives : FaultyInputGivesTheGroupsBefore
faulty_input_gives input c fault is =
    let us = units_from None 0 c in
    let list : (sorted_source input c).list ≡ groups_before fault.place c =
    ap (λ s. s.list) (source_is input c) ∙ groups_given fault us.refusal input us.list (input_follows c, is) in
    let refusal : (sorted_source input c).refusal ≡ Some (fault_of input fault) =
    source_refusal input c ∙ ap (option_map (fault_of input)) is in
    (λ i. record { list = list i; refusal = refusal i })

refused_by : (input : ℕ) (c : InputRest) (fault : Fault) (verdict : Option Verdict) → input_verdict c ≡ verdict
    → option_map (fault_of input) verdict ≡ Some fault → (sorted_source input c).list ≡ groups_before fault.place c
refused_by input c fault None e is = absurd (none-some fault is)
refused_by input c fault (Some v) e is =
    ap (λ s. s.list) (faulty_input_gives input c v e)
    ∙ ap (λ (f : Fault). groups_before f.place c) (same_Some (fault_of input v) fault is)

-- ---- an opened source
opened_gives : {R : Type 0} (input : ℕ) (reader : R) (c : InputRest) → given_at (new_source input reader) c ≡ Some (sorted_source input c)
opened_gives input reader c = source_begins_known (new_test rule.Any) (with_rest (new_source input reader).units c) [] input (Some c) refl
    refl

-- A refused source gives the key groups before the last one that began before the fault.
pub refused_source_gives : {R : Type 0} (can : R → InputRest → Type 0) → RefusedSourceGivesTheGroupsBefore can
refused_source_gives can input reader versions fault =
    let still : SourceRest VersionData Fault = record { list = versions; refusal = Some fault } in (
      λ h. (
          let is : sorted_source input h.0 ≡ still =
          same_Some (sorted_source input h.0) still (sym (opened_gives input reader h.0) ∙ h.2) in
          let refusal : option_map (fault_of input) (input_verdict h.0) ≡ Some fault =
          sym (source_refusal input h.0) ∙ ap (λ s. s.refusal) is in
          (h.0, h.1, (refusal, ap (λ s. s.list) (sym is) ∙ refused_by input h.0 fault (input_verdict h.0) refl refusal))),
      λ g. (
          let list : (sorted_source input g.0).list ≡ versions = refused_by input g.0 fault (input_verdict g.0) refl g.2.0 ∙ sym g.2.1 in
          let refusal : (sorted_source input g.0).refusal ≡ Some fault = source_refusal input g.0 ∙ g.2.0 in
          (g.0, g.1, opened_gives input reader g.0 ∙ ap Some (λ i. record { list = list i; refusal = refusal i }))),
    )
