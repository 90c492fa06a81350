-- The versions that groups give ascend, whatever was known before.
use Rattle.std.proofs.Common.{◌≡◌, ◌⊎◌, ⊎_elim, inl, inr, ℕ, true, false, cond, ◌||◌, List, [], ◌∷◌, ◌++◌, refl, ap, sym, ◌∙◌, subst}
use Rattle.std.proofs.Common.{Option, Some, None, option_map, option_to_list, IfSome, Result, Ok, Err}
use Rattle.std.proofs.lemmas.Bool.{false≢true, or_left, or_right}
use Rattle.std.proofs.lemmas.List.{append-nil}
use Rattle.std.specs.declared.cmp.Ordering.{Ordering}
use Rattle.std.specs.declared.cmp.Ordering.TheVariants.{Less, Equal, Greater}
use Rattle.std.specs.Cmp.{tied_itself}
use Rattle.std.specs.Ordering.{eq_by_cmp, is_eq, ordering_reverse}
use Rattle.std.specs.List.{AllByRecursion}
use Rattle.std.specs.List.Sorted.{IsStrictlySortedBy}
use Rattle.std.proofs.lemmas.Option.{IfSome_then}
use Rattle.osm_model.specs.Data.{VersionData}
use Rattle.osm_model.specs.Order.{key_cmp, key_cmp_total, version_cmp, version_cmp_total}
use Rattle.osm_model.specs.Sets.{from_list}
use Rattle.osm_model.proofs.SetLaws.{strict-listed, to_list-from_list, is_less}
use Rattle.osm_model.proofs.VersionLaws.{version_cmp-IsAntisymmetric, less_by_key}
use Rattle.osm_files.specs.declared.fault.Fault.{Fault}
use Rattle.osm_files.specs.Fault.{memory_fault, failed_fault}
use Rattle.osm_files.specs.Groups.{to_ascending, last_group, groups, sorted_source, still_with_ready, IsGroup, Gathers, StillSet, as_set}
use Rattle.osm_files.specs.Groups.{still_given}
use Rattle.osm_files.specs.Groups.{FileSourceData, FileCanGive, FileSteps, FileAscends, still_at, given_at, IsKnown, known_or_whole}
use Rattle.osm_files.specs.Groups.{one_given}
use Rattle.osm_files.specs.Input.{InputRest}
use Rattle.osm_files.specs.Position.{KnownPosition, with_input, units_from, rest_of_units, units_or_failed, KeepsRest, at_start_with}
use Rattle.osm_files.specs.declared.end_rule.EndTest.{EndTest}
use Rattle.osm_files.specs.EndRule.{by_test}
use Rattle.osm_files.specs.Source.{Ascends, SourceStep, SourceSteps}
use Rattle.osm_files.specs.Stream.{Placed, SourceRest, end_whole, end_refused, front}
use Rattle.osm_files.proofs.GroupLaws.{has, has_ascending, ascending_is, ascending_nil, strict_nil, all_append}

-- ---- keys
-- the same key on the right
less_on : (v first w : VersionData) → key_cmp v first ≡ Less → key_cmp first w ≡ Equal → key_cmp v w ≡ Less
less_on v first w less same =
    let o = key_cmp_total in
    o.antisymm v w ∙ ap ordering_reverse (sym (o.congr first w v same) ∙ o.antisymm first v ∙ ap ordering_reverse less)

-- the same key on the left
pub less_from : (first v w : VersionData) → key_cmp first w ≡ Less → key_cmp first v ≡ Equal → key_cmp v w ≡ Less
less_from first v w less same = let o = key_cmp_total in sym (o.congr first v w same) ∙ less

-- ---- lists
all_weaker : (P Q : VersionData → Type 0) (versions : List VersionData) → ((v : VersionData) → P v → Q v) → AllByRecursion P versions →
    AllByRecursion Q versions
all_weaker P Q [] f h = tt
all_weaker P Q (v ∷ versions) f h = (f v h.0, all_weaker P Q versions f h.1)

tied_is : (o : Ordering) → is_eq o ≡ true → o ≡ Equal
tied_is Less h = absurd (false≢true h)
tied_is Equal h = refl
tied_is Greater h = absurd (false≢true h)

all_members : (P : VersionData → Type 0) (versions : List VersionData) → ((v : VersionData) → has v versions ≡ true → P v) →
    AllByRecursion P versions
all_members P [] f = tt
all_members P (v ∷ versions) f = (
  f v (or_left _ _ (ap is_eq (tied_itself version_cmp_total v))),
  all_members P versions (λ w h. f w (or_right (eq_by_cmp version_cmp w v) _ h)),
)

-- A property of all versions is one of each of them.
pub member : (P : VersionData → Type 0) (versions : List VersionData) → AllByRecursion P versions → (w : VersionData) →
    has w versions ≡ true → P w
member P [] h w e = absurd (false≢true e)
member P (v ∷ versions) h w e =
    elim (eq_by_cmp version_cmp w v) as (λ t. eq_by_cmp version_cmp w v ≡ t → t || has w versions ≡ true → P w) [
      | true ↦ λ k l. subst P (sym (version_cmp-IsAntisymmetric w v (tied_is (version_cmp w v) k))) h.0
      | false ↦ λ k l. member P versions h.1 w l
    ] refl e

-- a property of each version of a list is one of each version of its ascending list
all_ascending : (P : VersionData → Type 0) (versions : List VersionData) → AllByRecursion P versions →
    AllByRecursion P (to_ascending versions)
all_ascending P versions h = all_members P (to_ascending versions) (λ v e. member P versions h v (sym (has_ascending v versions) ∙ e))

ascending_rises : (versions : List VersionData) → IsStrictlySortedBy version_cmp (to_ascending versions)
ascending_rises versions = subst (IsStrictlySortedBy version_cmp) (sym (ascending_is versions))
    (strict-listed (from_list {R = version_cmp} versions))

strict_append : (versions others : List VersionData) → IsStrictlySortedBy version_cmp versions → IsStrictlySortedBy version_cmp others →
    AllByRecursion (λ v. AllByRecursion (λ w. version_cmp v w ≡ Less) others) versions
    → IsStrictlySortedBy version_cmp (versions ++ others)
unfolding IsStrictlySortedBy
strict_append [] others h k below = k
strict_append (v ∷ versions) others h k below = (all_append _ versions others h.0 below.0, strict_append versions others h.1 k below.1)

-- A strictly ascending list ascends strictly without its first version.
pub strict_rest : (v : VersionData) (versions : List VersionData) → IsStrictlySortedBy version_cmp (v ∷ versions) →
    IsStrictlySortedBy version_cmp versions
unfolding IsStrictlySortedBy
strict_rest v versions h = h.1

-- ---- groups
-- each of these versions has a greater key than this one
abbrev Above : VersionData → List VersionData → Type 0
Above v versions = AllByRecursion (λ w. key_cmp v w ≡ Less) versions

-- the versions after a group that has the key of `first`: they ascend strictly, and each key below that of `first` is below theirs
record Rises (first : VersionData) (versions : List VersionData) : Type 0 where
  strict : IsStrictlySortedBy version_cmp versions
  above : (v : VersionData) → key_cmp v first ≡ Less → Above v versions

group_above : (first v : VersionData) (others : List VersionData) → key_cmp v first ≡ Less → IsGroup first others →
    Above v (to_ascending (first ∷ others))
group_above first v others less group = all_ascending (λ w. key_cmp v w ≡ Less) (first ∷ others)
    (less, all_weaker _ _ others (λ w same. less_on v first w less same) group)

of_group : (first : VersionData) (others : List VersionData) → IsGroup first others →
    AllByRecursion (λ v. key_cmp first v ≡ Equal) (to_ascending (first ∷ others))
of_group first others group = all_ascending (λ v. key_cmp first v ≡ Equal) (first ∷ others) (tied_itself key_cmp_total first, group)

-- a group, and the versions above it
group_then : (first next : VersionData) (others versions : List VersionData) → IsGroup first others → key_cmp first next ≡ Less →
    Rises next versions → Rises first (to_ascending (first ∷ others) ++ versions)
group_then first next others versions group less rest = record {
  strict =
      strict_append (to_ascending (first ∷ others)) versions (ascending_rises (first ∷ others)) rest.strict
      (all_weaker _ _ (to_ascending (first ∷ others)) (λ v same.
      all_weaker _ _ versions (λ w e. less_by_key v w e) (rest.above v (less_from first v next less same)))
      (of_group first others group));
  above =
      λ v e. all_append (λ w. key_cmp v w ≡ Less) (to_ascending (first ∷ others)) versions (group_above first v others e group)
      (rest.above v (key_cmp_total.trans v first next e less));
}

last_rises : (close : Option Fault) (first : VersionData) (others : List VersionData) → IsGroup first others →
    Rises first (last_group close (first ∷ others)).list
last_rises None first others group = record { strict = ascending_rises (first ∷ others); above = λ v e. group_above first v others e group }
last_rises (Some fault) first others group = record { strict = strict_nil; above = λ v e. tt }

group_on : (first : VersionData) (others : List VersionData) (v : VersionData) → IsGroup first others → key_cmp first v ≡ Equal →
    IsGroup first (others ++ v ∷ [])
group_on first others v group same = all_append (λ w. key_cmp first w ≡ Equal) others (v ∷ []) group (same, tt)

module _ (input : ℕ) (close : Option Fault) where
  rises : (us : List Placed) (first : VersionData) (others : List VersionData) → IsGroup first others →
      Rises first (groups input close us (first ∷ others)).list
  rises [] first others group = last_rises close first others group
  rises (u ∷ us) first others group =
      elim (key_cmp first u.version) as (λ o. key_cmp first u.version ≡ o →
      Rises first (groups input close (u ∷ us) (first ∷ others)).list) [
        | Less ↦ λ e. rw e (group_then first u.version others (groups input close us (u.version ∷ [])).list group e
            (rises us u.version [] tt))
        | Equal ↦ λ e. rw e (rises us first (others ++ u.version ∷ []) (group_on first others u.version group e))
        | Greater ↦ λ e. rw e (record { strict = strict_nil; above = λ v less. tt })
      ] refl

end_rises : (close : Option Fault) → IsStrictlySortedBy version_cmp (last_group close []).list
end_rises None = ascending_rises []
end_rises (Some fault) = strict_nil

-- The versions that groups give ascend strictly.
pub groups_rise : (input : ℕ) (close : Option Fault) (us : List Placed) → IsStrictlySortedBy version_cmp (groups input close us []).list
groups_rise input close [] = end_rises close
groups_rise input close (u ∷ us) = (rises input close us u.version [] tt).strict

-- ---- the versions that a source gives
module _ (input : ℕ) (first : VersionData) (others : List VersionData) (group : IsGroup first others) where
  next_rises : (after : Option (SourceRest Placed Fault)) (v : VersionData) → key_cmp first v ≡ Less →
      IfSome (still_with_ready input after (v ∷ []) (to_ascending (first ∷ others))) Ascends
  next_rises None v less = tt
  next_rises (Some s) v less = (group_then first v others (groups input s.refusal s.list (v ∷ [])).list group less
      (rises input s.refusal s.list v [] tt)).strict

  end_given : IsStrictlySortedBy version_cmp (to_ascending (first ∷ others) ++ to_ascending [])
  end_given = rw (ascending_nil, append-nil (to_ascending (first ∷ others))) (ascending_rises (first ∷ others))

-- groups rise after a group of one key, even if nothing was known before
pub gathers_rise : (input : ℕ) (before : Option (SourceRest Placed Fault)) (has_begun : List VersionData)
    (after : Option (SourceRest Placed Fault))
    (first : VersionData) (others : List VersionData) (next : Option VersionData) → Gathers input before has_begun after first others next
    → IfSome (still_with_ready input after (option_to_list next) (to_ascending (first ∷ others))) Ascends
gathers_rise input before has_begun after first others None h =
    let P : Option (SourceRest Placed Fault) → Type 0 = λ o. IfSome (still_with_ready input o [] (to_ascending (first ∷ others))) Ascends in
    subst P (sym (h.end refl)) (end_given input first others h.group)
gathers_rise input before has_begun after first others (Some v) h =
    next_rises input first others h.group after v (is_less (key_cmp first v) h.above)

-- The versions still to come ascend strictly, also without the first one.
pub ready_rises : (input : ℕ) (units : Option (SourceRest Placed Fault)) (group ready : List VersionData) (v : VersionData) →
    IfSome (still_with_ready input units group (v ∷ ready)) Ascends → IfSome (still_with_ready input units group ready) Ascends
ready_rises input None group ready v h = tt
ready_rises input (Some s) group ready v h = strict_rest v (ready ++ (groups input s.refusal s.list group).list) h

-- if nothing is ready, and at most one version was read of the next group
pub pending_rises : (input : ℕ) (units : Option (SourceRest Placed Fault)) (pending : Option VersionData) →
    IfSome (still_with_ready input units (option_to_list pending) []) Ascends
pending_rises input None pending = tt
pending_rises input (Some s) None = groups_rise input s.refusal s.list
pending_rises input (Some s) (Some v) = (rises input s.refusal s.list v [] tt).strict

whole_rises : (known : Option (SourceRest VersionData Fault)) → known ≡ Some end_whole → IfSome known Ascends
whole_rises known e = let P : Option (SourceRest VersionData Fault) → Type 0 = λ o. IfSome o Ascends in subst P (sym e) strict_nil

-- after the first of the ready versions
pub rest_rises : (input : ℕ) (units : Option (SourceRest Placed Fault)) (group : List VersionData) (given : Option VersionData)
    (ready : List VersionData) → IfSome (still_with_ready input units group (option_to_list given ++ ready)) Ascends →
    IfSome (still_with_ready input units group ready) Ascends
rest_rises input units group None ready h = h
rest_rises input units group (Some v) ready h = ready_rises input units group ready v h

-- a list that ascends is that of its set
pub set_is_known : (known : Option (SourceRest VersionData Fault)) → IfSome known Ascends → still_given (option_map as_set known) ≡ known
set_is_known None h = refl
set_is_known (Some s) h =
    ap (λ vs. let t : SourceRest VersionData Fault = record { list = vs; refusal = s.refusal } in Some t)
    (to_list-from_list version_cmp_total version_cmp-IsAntisymmetric s.list h)

-- ---- at the beginning of an input
pub source_is : (input : ℕ) (c : InputRest) → sorted_source input c
    ≡ (let units = with_input input (units_from None 0 c) in groups input units.refusal units.list [])
unfolding sorted_source
source_is input c = refl

-- The versions that a sorted file's source gives ascend strictly.
pub source_rises : (input : ℕ) (c : InputRest) → Ascends (sorted_source input c)
source_rises input c =
    subst Ascends (sym (source_is input c)) (let units = with_input input (units_from None 0 c) in
    groups_rise input units.refusal units.list)

begins_so : (e : EndTest) (input : ℕ) (rest : Option InputRest)
    → still_with_ready input (units_or_failed (at_start_with e input rest)) [] []
    ≡ option_map (λ c. sorted_source input (by_test e c)) rest
begins_so e input None = refl
begins_so e input (Some c) = ap Some (sym (source_is input (by_test e c)))

begins_rising : (e : EndTest) (input : ℕ) (rest : Option InputRest)
    → IfSome (option_map (λ c. sorted_source input (by_test e c)) rest) Ascends
begins_rising e input None = tt
begins_rising e input (Some c) = source_rises input (by_test e c)

module _ (e : EndTest) (p : KnownPosition) (ready : List VersionData) (input : ℕ) (rest : Option InputRest)
    (begins : p ≡ at_start_with e input rest) (nothing : ready ≡ []) where
  pub source_begins : still_with_ready p.input (units_or_failed p) [] ready ≡ option_map (λ c. sorted_source input (by_test e c)) rest
  source_begins = (λ i. still_with_ready (begins i).input (units_or_failed (begins i)) [] (nothing i)) ∙ begins_so e input rest

  pub source_begins_rising : IfSome (still_with_ready p.input (units_or_failed p) [] ready) Ascends
  source_begins_rising = subst (λ (o : Option (SourceRest VersionData Fault)). IfSome o Ascends) (sym source_begins)
      (begins_rising e input rest)

  -- A source of which nothing was read gives the same as the sorted file's source.
  pub source_begins_known : still_given (option_map as_set (still_with_ready p.input (units_or_failed p) [] ready))
      ≡ option_map (λ c. sorted_source input (by_test e c)) rest
  source_begins_known = set_is_known (still_with_ready p.input (units_or_failed p) [] ready) source_begins_rising ∙ source_begins

-- a reading that read bytes before it gave anything
opens_so : (e : EndTest) (input : ℕ) (rest : Option InputRest) (q : KnownPosition) → KeepsRest (at_start_with e input rest) q →
    IfSome rest (λ c. still_with_ready q.input (units_or_failed q) [] [] ≡ Some (sorted_source input (by_test e c)))
opens_so e input None q on = tt
opens_so e input (Some c) q on =
    let fine : units_or_failed q ≡ rest_of_units q =
    ap (λ b. cond b (Some (end_refused (failed_fault q.input))) (rest_of_units q)) on.failed in
    (λ i. still_with_ready (on.input i) ((fine ∙ on.keeps) i) [] []) ∙ ap Some (sym (source_is input (by_test e c)))

-- A source that was opened gives the same as the sorted file's source.
pub source_opens_known : (e : EndTest) (p q : KnownPosition) (ready : List VersionData) (input : ℕ) (rest : Option InputRest) →
    p ≡ at_start_with e input rest →
    KeepsRest p q → ready ≡ [] → IfSome rest (λ c. still_given (option_map as_set (still_with_ready q.input (units_or_failed q) [] ready))
    ≡ Some (sorted_source input (by_test e c)))
source_opens_known e p q ready input rest begins on nothing =
    let rises : IfSome (still_with_ready q.input (units_or_failed q) [] ready) Ascends =
    subst (λ (xs : List VersionData). IfSome (still_with_ready q.input (units_or_failed q) [] xs) Ascends) (sym nothing)
    (pending_rises q.input (units_or_failed q) None) in
    IfSome_then rest (opens_so e input rest q (subst (λ (x : KnownPosition). KeepsRest x q) begins on))
    (λ c is. set_is_known (still_with_ready q.input (units_or_failed q) [] ready) rises
    ∙ (λ i. still_with_ready q.input (units_or_failed q) [] (nothing i)) ∙ is)

-- A source that can't be opened is refused as the sorted file's source is, or for Memory.
pub opens_refused : (e : EndTest) (input : ℕ) (rest : Option InputRest) (fault : Fault) (after : Option (SourceRest Placed Fault)) →
    SourceStep {A = Placed} (units_or_failed (at_start_with e input rest)) (Err fault) after
    → (fault ≡ memory_fault) ⊎ IfSome rest (λ c. (sorted_source input (by_test e c)).refusal ≡ Some fault)
opens_refused e input None fault after step = ⊎_elim (λ memory. inl memory) (λ k. inr tt) step.0
opens_refused e input (Some c) fault after step =
    ⊎_elim (λ memory. inl memory) (λ k. inr (ap (λ (s : SourceRest VersionData Fault). s.refusal) (source_is input (by_test e c))
    ∙ ap (λ (s : SourceRest Placed Fault). (groups input s.refusal s.list []).refusal) k)) step.0

-- a call, in terms of sets
pub step_as_sets : (value : Option StillSet) (before after : Option (SourceRest VersionData Fault))
    (r : Result (Option VersionData) Fault) →
    option_map as_set before ≡ value → IfSome before Ascends → IfSome after Ascends → SourceStep before r after
    → SourceStep (still_given value) r (still_given (option_map as_set after))
step_as_sets value before after r is up on h =
    let first : before ≡ still_given value = sym (set_is_known before up) ∙ ap still_given is in
    subst (λ (o : Option (SourceRest VersionData Fault)). SourceStep o r (still_given (option_map as_set after))) first
    (subst (λ (o : Option (SourceRest VersionData Fault)). SourceStep before r o) (sym (set_is_known after on)) h)

-- a rest that was known is known
known_by : (o : Option (SourceRest VersionData Fault)) (still : SourceRest VersionData Fault) →
    still_given (option_map as_set o) ≡ Some still →
    IsKnown o
known_by None still e = absurd (let f : None ≡ Some still = e in cc)
known_by (Some s) still e = tt

-- the rest after a step ascends, if the rest before was known
step_rises : (before after : Option (SourceRest VersionData Fault)) (r : Result (Option VersionData) Fault) → IsKnown before →
    IfSome before Ascends → SourceStep before r after → IfSome after Ascends
step_rises None after r known up h = absurd known
step_rises (Some s) after (Ok (Some v)) known up h =
    let P : Option (SourceRest VersionData Fault) → Type 0 = λ o. IfSome o Ascends in
    let rising : Ascends (front v h.0) = subst Ascends h.1 up in
    subst P (sym h.2) (strict_rest v (h.0).list rising)
step_rises (Some s) after (Ok None) known up h = whole_rises after h.1
step_rises (Some s) after (Err fault) known up h = let P : Option (SourceRest VersionData Fault) → Type 0 = λ o. IfSome o Ascends in
    subst P (sym h.1.1) strict_nil

-- a call of a source, over all that its reader can give
pub file_step : {R : Type 0} (can : R → InputRest → Type 0) (s t : FileSourceData R) (r : Result (Option VersionData) Fault) →
    FileAscends can s →
    t.units.input ≡ s.units.input → FileSteps can s r t
    → SourceSteps (FileCanGive can) s r t
file_step can s t r up same steps later h =
    let x = steps h.0 h.1 in
    let after : still_given (option_map as_set (still_at s.units.input t h.0)) ≡ Some later =
    (λ i. still_given (option_map as_set (still_at (sym same i) t h.0))) ∙ h.2 in
    let from = still_at s.units.input s x.0 in
    let rises = step_rises from (still_at s.units.input t h.0) r (known_by from (known_or_whole (given_at s x.0)) (one_given s x.0))
    (up x.0 x.1) x.2 in
    let shown = step_as_sets (option_map as_set (still_at s.units.input s x.0)) (still_at s.units.input s x.0)
    (still_at s.units.input t h.0) r refl (up x.0 x.1) rises x.2 in (
      known_or_whole (given_at s x.0),
      (x.0, x.1, one_given s x.0),
      subst (λ (o : Option (SourceRest VersionData Fault)). SourceStep o r (Some later)) (one_given s x.0)
          (subst (λ (o : Option (SourceRest VersionData Fault)). SourceStep (given_at s x.0) r o) after shown),
    )
