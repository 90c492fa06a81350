-- Key groups, one unit at a time.
use Rattle.std.proofs.Common.{◌≡◌, ℕ, ◌⊎◌, inl, inr, Bool, true, false, ◌||◌, List, [], ◌∷◌, ◌++◌, length, refl, ap, sym, ◌∙◌, subst}
use Rattle.std.proofs.Common.{Option, Some, None, option_to_list, is_some, IfSome, Result, Ok, Err}
use Rattle.std.proofs.lemmas.Bool.{false≢true}
use Rattle.std.proofs.lemmas.List.{append-nil}
use Rattle.std.specs.declared.cmp.Ordering.{Ordering}
use Rattle.std.specs.declared.cmp.Ordering.TheVariants.{Less, Equal, Greater}
use Rattle.std.specs.Cmp.{tied_itself}
use Rattle.std.specs.Ordering.{eq_by_cmp, is_eq, is_lt, is_gt}
use Rattle.std.specs.List.{list_any, dedup, AllByRecursion}
use Rattle.std.specs.List.Sorted.{IsStrictlySortedBy, IsSorted, IsPermutation}
use Rattle.std.proofs.lemmas.List.Sorted.{IsPermutation-append_comm, IsPermutation-trans}
use Rattle.std.proofs.lemmas.Option.{IfSome_then}
use Rattle.osm_model.specs.Data.{VersionData}
use Rattle.osm_model.specs.Order.{key_cmp, version_cmp, version_cmp_total}
use Rattle.osm_model.specs.Sets.{to_list, from_list}
use Rattle.osm_model.proofs.SetLaws.{to_list-from_list, to_list-of_sorted, contains-listed, contains-from_list}
use Rattle.osm_model.proofs.VersionLaws.{version_cmp-IsAntisymmetric}
use Rattle.osm_files.specs.declared.fault.Fault.{Fault}
use Rattle.osm_files.specs.declared.reason.Reason.TheVariants.{Unsorted}
use Rattle.osm_files.specs.Fault.{memory_fault, failed_fault}
use Rattle.osm_files.specs.Groups.{to_ascending, is_in_group, is_after_group, versions_then, groups, still_with_ready, IsGroup, Gathers}
use Rattle.osm_files.specs.Groups.{RefusesGroup}
use Rattle.osm_files.specs.Position.{Keeps, fault_of}
use Rattle.osm_files.specs.Source.{SourceStep}
use Rattle.osm_files.specs.Stream.{verdict_at, Placed, SourceRest, end_whole, end_refused, front}
use Rattle.osm_files.proofs.FillLaws.{keeps_on}

-- a property of a known value that is unchanged
pub from_kept : {A : Type 0} (before after : Option A) (P : A → Type 0) → Keeps before after → IfSome after P → IfSome before P
from_kept None after P k h = tt
from_kept {A} (Some x) after P k h = let Q : Option A → Type 0 = λ o. IfSome o P in subst Q k h

-- ---- ascending lists
pub strict_nil : IsStrictlySortedBy version_cmp []
unfolding IsStrictlySortedBy
strict_nil = tt

strict_one : (v : VersionData) → IsStrictlySortedBy version_cmp (v ∷ [])
unfolding IsStrictlySortedBy
strict_one v = (tt, tt)

-- The ascending list of some versions is the list of their set.
pub ascending_is : (versions : List VersionData) → to_ascending versions ≡ to_list (from_list {R = version_cmp} versions)
unfolding to_ascending
ascending_is versions = refl

pub ascending_strict : (versions : List VersionData) → IsStrictlySortedBy version_cmp versions → to_ascending versions ≡ versions
ascending_strict versions h = ascending_is versions ∙ to_list-from_list version_cmp_total version_cmp-IsAntisymmetric versions h

-- The ascending list of no versions is empty.
pub ascending_nil : to_ascending [] ≡ []
ascending_nil = ascending_strict [] strict_nil

-- The ascending list of one version is this version.
pub ascending_one : (v : VersionData) → to_ascending (v ∷ []) ≡ v ∷ []
ascending_one v = ascending_strict (v ∷ []) (strict_one v)

-- does the list have a version that ties with this one?
abbrev pub has : VersionData → List VersionData → Bool
has v versions = list_any (eq_by_cmp version_cmp v) versions

-- The ascending list has the versions of the list.
pub has_ascending : (v : VersionData) (versions : List VersionData) → has v (to_ascending versions) ≡ has v versions
has_ascending v versions =
    ap (has v) (ascending_is versions) ∙ sym (contains-listed {R = version_cmp} (from_list versions) v)
    ∙ contains-from_list version_cmp_total versions v

has_first : (v : VersionData) (versions : List VersionData) → has v (v ∷ versions) ≡ true
has_first v versions = ap (λ o. is_eq o || has v versions) (tied_itself version_cmp_total v)

-- The ascending list of a version and others isn't empty.
pub ascending_some : (v : VersionData) (versions : List VersionData) → to_ascending (v ∷ versions) ≡ [] → ⊥
ascending_some v versions e =
    let none : false ≡ true = sym (ap (has v) e) ∙ has_ascending v (v ∷ versions) ∙ has_first v versions in
    false≢true none

-- ---- a version of the key of a group, above it or below it
pub less_follows : (o : Ordering) → is_lt o ≡ true → is_eq o ≡ false
less_follows Less h = refl
less_follows Equal h = absurd (false≢true h)
less_follows Greater h = absurd (false≢true h)

pub greater_falls : (o : Ordering) → is_gt o ≡ true → (is_eq o ≡ false) × (is_lt o ≡ false)
greater_falls Less h = absurd (false≢true h)
greater_falls Equal h = absurd (false≢true h)
greater_falls Greater h = (refl, refl)

pub neither_joins : (o : Ordering) → is_lt o ≡ false → is_gt o ≡ false → o ≡ Equal
neither_joins Less h k = absurd (false≢true (sym h))
neither_joins Equal h k = refl
neither_joins Greater h k = absurd (false≢true (sym k))

-- ---- a unit, and its effect on the current group
module _ (input : ℕ) where
  joined : (before after : Option (SourceRest Placed Fault)) (group : List VersionData) (u : Placed) →
      SourceStep before (Ok (Some u)) after →
      is_in_group group u.version ≡ true → Keeps (still_with_ready input before group [])
      (still_with_ready input after (group ++ u.version ∷ []) [])
  joined None after group u h j = tt
  joined (Some s) after group u h j =
      let same : still_with_ready input (Some (front u h.0)) group [] ≡ still_with_ready input (Some h.0) (group ++ u.version ∷ []) [] =
      rw j refl in
      ap (λ o. still_with_ready input o (group ++ u.version ∷ []) []) h.2 ∙ sym same
      ∙ ap (λ x. still_with_ready input (Some x) group []) (sym h.1)

  followed : (before after : Option (SourceRest Placed Fault)) (group : List VersionData) (u : Placed) →
      SourceStep before (Ok (Some u)) after →
      is_in_group group u.version ≡ false → is_after_group group u.version ≡ true
      → Keeps (still_with_ready input before group []) (still_with_ready input after (u.version ∷ []) (to_ascending group))
  followed None after group u h j f = tt
  followed (Some s) after group u h j f =
      let same : still_with_ready input (Some (front u h.0)) group [] ≡ still_with_ready input (Some h.0) (u.version ∷ [])
      (to_ascending group) =
      rw (j, f) refl in
      ap (λ o. still_with_ready input o (u.version ∷ []) (to_ascending group)) h.2 ∙ sym same
      ∙ ap (λ x. still_with_ready input (Some x) group []) (sym h.1)

  fell : (before after : Option (SourceRest Placed Fault)) (group : List VersionData) (u : Placed) → SourceStep before (Ok (Some u)) after →
      is_in_group group u.version ≡ false → is_after_group group u.version ≡ false
      → IfSome (still_with_ready input before group []) (λ s. s ≡ end_refused (fault_of input (verdict_at u.offset Unsorted)))
  fell None after group u h j f = tt
  fell (Some s) after group u h j f =
      let same : versions_then [] (groups input h.0.refusal (u ∷ h.0.list) group) ≡ end_refused
      (fault_of input (verdict_at u.offset Unsorted)) =
      rw (j, f) refl in
      ap (λ x. versions_then [] (groups input x.refusal x.list group)) h.1 ∙ same

  finished : (before after : Option (SourceRest Placed Fault)) (group : List VersionData) → SourceStep before (Ok None) after →
      Keeps (still_with_ready input before group []) (still_with_ready input after [] (to_ascending group))
  finished None after group h = tt
  finished (Some s) after group h =
      let same : still_with_ready input (Some end_whole) group [] ≡ still_with_ready input (Some end_whole) [] (to_ascending group) =
      rw (ascending_nil, append-nil (to_ascending group)) refl in
      ap (λ o. still_with_ready input o [] (to_ascending group)) h.1 ∙ sym same
      ∙ ap (λ x. still_with_ready input (Some x) group []) (sym h.0)

  broken_by : (before : Option (SourceRest Placed Fault)) (group : List VersionData) (fault : Fault) →
      (fault ≡ memory_fault) ⊎ IfSome before (λ s. s ≡ end_refused fault) →
      (fault ≡ memory_fault) ⊎ IfSome (still_with_ready input before group []) (λ s. s ≡ end_refused fault)
  broken_by before group fault (inl e) = inl e
  broken_by None group fault (inr h) = inr tt
  broken_by (Some s) group fault (inr h) = inr (ap (λ x. versions_then [] (groups input x.refusal x.list group)) h)

  -- ---- a whole group
  module _ (start : Option (SourceRest Placed Fault)) (has_begun : List VersionData) (before after : Option (SourceRest Placed Fault))
      (first : VersionData) (others : List VersionData)
      (keeps : Keeps (still_with_ready input start (first ∷ has_begun) []) (still_with_ready input before (first ∷ others) [])) where
    -- A version of the key of the group joins it.
    pub joins_group : (u : Placed) → SourceStep before (Ok (Some u)) after → is_lt (key_cmp first u.version) ≡ false →
        is_gt (key_cmp first u.version) ≡ false
        → Keeps (still_with_ready input start (first ∷ has_begun) []) (still_with_ready input after (first ∷ (others ++ u.version ∷ [])) [])
    joins_group u h less greater =
        keeps_on (still_with_ready input start (first ∷ has_begun) []) (still_with_ready input before (first ∷ others) [])
        (still_with_ready input after (first ∷ (others ++ u.version ∷ [])) []) keeps
        (joined before after (first ∷ others) u h (ap is_eq (neither_joins (key_cmp first u.version) less greater)))

    -- At the end of the units the group is complete.
    pub ends_group : IsGroup first others → SourceStep before (Ok None) after → Gathers input start has_begun after first others None
    ends_group group h = record {
      keeps = keeps_on (still_with_ready input start (first ∷ has_begun) []) (still_with_ready input before (first ∷ others) [])
          (still_with_ready input after [] (to_ascending (first ∷ others))) keeps (finished before after (first ∷ others) h);
      group = group;
      above = tt;
      end = λ e. h.1;
    }

    -- A version of a greater key completes the group and begins the next one.
    pub begins_next : IsGroup first others → (u : Placed) → SourceStep before (Ok (Some u)) after → is_lt (key_cmp first u.version) ≡ true →
        Gathers input start has_begun after first others (Some u.version)
    begins_next group u h less = record {
      keeps =
          keeps_on (still_with_ready input start (first ∷ has_begun) []) (still_with_ready input before (first ∷ others) [])
          (still_with_ready input after (u.version ∷ []) (to_ascending (first ∷ others))) keeps
          (followed before after (first ∷ others) u h (less_follows (key_cmp first u.version) less) less);
      group = group;
      above = less;
      end = λ e. absurd (let f : Some u.version ≡ None = e in cc);
    }

    known : (P : SourceRest VersionData Fault → Type 0) → IfSome (still_with_ready input before (first ∷ others) []) P →
        IfSome (still_with_ready input start (first ∷ has_begun) []) P
    known P h = from_kept (still_with_ready input start (first ∷ has_begun) []) (still_with_ready input before (first ∷ others) []) P keeps
        h

    known_or : (fault : Fault) → (fault ≡ memory_fault)
        ⊎ IfSome (still_with_ready input before (first ∷ others) []) (λ s. s ≡ end_refused fault) →
        (fault ≡ memory_fault) ⊎ IfSome (still_with_ready input start (first ∷ has_begun) []) (λ s. s ≡ end_refused fault)
    known_or fault (inl e) = inl e
    known_or fault (inr h) = inr (known (λ s. s ≡ end_refused fault) h)

    -- A unit that can't be read refuses the group.
    pub refuses_read : (fault : Fault) → SourceStep before (Err fault) after →
        RefusesGroup (still_with_ready input start (first ∷ has_begun) []) fault after
    refuses_read fault h = (known_or fault (broken_by before (first ∷ others) fault h.0), h.1)

    -- A version of a lesser key refuses the group as Unsorted.
    pub refuses_unsorted : (u : Placed) (fault : Fault) (failed : Option (SourceRest Placed Fault)) (number : ℕ) →
        SourceStep before (Ok (Some u)) after → is_gt (key_cmp first u.version) ≡ true →
        fault ≡ fault_of input (verdict_at u.offset Unsorted)
        → failed ≡ Some (end_refused (failed_fault number)) →
        RefusesGroup (still_with_ready input start (first ∷ has_begun) []) fault failed
    refuses_unsorted u fault failed number h greater is e =
        let falls = greater_falls (key_cmp first u.version) greater in (
          inr (known (λ s. s ≡ end_refused fault) (IfSome_then (still_with_ready input before (first ∷ others) [])
              (fell before after (first ∷ others) u h falls.0 falls.1)
              (λ s k. k ∙ ap end_refused (sym is)))),
          (number, e),
        )

-- What holds of each item of two lists holds of each item of both.
pub all_append : {K : Type 0} (P : K → Type 0) (xs ys : List K) → AllByRecursion P xs → AllByRecursion P ys → AllByRecursion P (xs ++ ys)
all_append P [] ys h k = k
all_append P (x ∷ xs) ys h k = (h.0, all_append P xs ys h.1 k)

-- A version of the key of a group makes a group with it.
pub group_joined : (first : VersionData) (others : List VersionData) (v : VersionData) → IsGroup first others →
    is_lt (key_cmp first v) ≡ false → is_gt (key_cmp first v) ≡ false → IsGroup first (others ++ v ∷ [])
group_joined first others v h less greater = all_append (λ w. key_cmp first w ≡ Equal) others (v ∷ []) h
    (neither_joins (key_cmp first v) less greater, tt)

-- ---- the first group begins, or there is none
pub first_begins : (input : ℕ) (before after : Option (SourceRest Placed Fault)) (u : Placed) → SourceStep before (Ok (Some u)) after →
    Keeps (still_with_ready input before [] []) (still_with_ready input after (u.version ∷ []) [])
first_begins input before after u h = joined input before after [] u h refl

no_more : (input : ℕ) → still_with_ready input (Some end_whole) [] [] ≡ Some end_whole
no_more input = rw ascending_nil refl

-- No group begins at the end of the units.
pub none_begins : (input : ℕ) (before after : Option (SourceRest Placed Fault)) → SourceStep before (Ok None) after →
    SourceStep (still_with_ready input before [] []) (Ok None) (still_with_ready input after [] [])
none_begins input None after h = (tt, ap (λ o. still_with_ready input o [] []) h.1 ∙ no_more input)
none_begins input (Some s) after h = (
  (let e : Some (versions_then [] (groups input s.refusal s.list [])) ≡ Some end_whole = ap (λ x. still_with_ready input (Some x) [] []) h.0
      ∙ no_more input in cc),
  ap (λ o. still_with_ready input o [] []) h.1 ∙ no_more input,
)

-- No group begins at a unit that can't be read.
pub refused_begins : (input : ℕ) (before after : Option (SourceRest Placed Fault)) (fault : Fault) →
    SourceStep {A = Placed} before (Err fault) after →
    RefusesGroup (still_with_ready input before [] []) fault after
refused_begins input before after fault h = (broken_by input before [] fault h.0, h.1)

-- ---- the ready versions are given one by one
first_of : (input : ℕ) (after : Option (SourceRest Placed Fault)) (group ready : List VersionData) (v : VersionData)
    (s : SourceRest VersionData Fault) → still_with_ready input after group (v ∷ ready) ≡ Some s
    → (t : SourceRest VersionData Fault) × (s ≡ front v t) × (still_with_ready input after group ready ≡ Some t)
first_of input None group ready v s e = absurd (let f : None ≡ Some s = e in cc)
first_of input (Some w) group ready v s e =
    let t : SourceRest VersionData Fault = versions_then ready (groups input w.refusal w.list group) in
    (t, (let f : Some (front v t) ≡ Some s = e in cc), refl)

-- A version that is ready is given first.
pub gives_ready : (input : ℕ) (units : Option (SourceRest Placed Fault)) (group ready : List VersionData) (v : VersionData) →
    SourceStep (still_with_ready input units group (v ∷ ready)) (Ok (Some v)) (still_with_ready input units group ready)
gives_ready input None group ready v = tt
gives_ready input (Some w) group ready v = (versions_then ready (groups input w.refusal w.list group), refl, refl)

-- The first version of a complete group is given, and the others are ready.
pub gives_first : (input : ℕ) (before : Option (SourceRest Placed Fault)) (has_begun : List VersionData)
    (after : Option (SourceRest Placed Fault))
    (first : VersionData) (others : List VersionData) (next : Option VersionData) (v : VersionData) (ready : List VersionData)
    → Gathers input before has_begun after first others next → to_ascending (first ∷ others) ≡ v ∷ ready →
    SourceStep (still_with_ready input before (first ∷ has_begun) []) (Ok (Some v))
    (still_with_ready input after (option_to_list next) ready)
gives_first input before has_begun after first others next v ready h e =
    IfSome_then (still_with_ready input before (first ∷ has_begun) []) h.keeps
    (λ s k. first_of input after (option_to_list next) ready v s (ap (still_with_ready input after (option_to_list next)) (sym e) ∙ k))

-- ---- the result of a call, from an unchanged rest
pub step_on : {A : Type 0} (start before after : Option (SourceRest A Fault)) (r : Result (Option A) Fault) → Keeps start before →
    SourceStep before r after → SourceStep start r after
step_on start before after (Ok (Some x)) k h = from_kept start before _ k h
step_on start before after (Ok None) k h = (from_kept start before _ k h.0, h.1)
step_on start before after (Err fault) k (inl e, a) = (inl e, a)
step_on start before after (Err fault) k (inr h, a) = (inr (from_kept start before _ k h), a)

-- A refused group is a refused step of the source.
pub refused_step : (input : ℕ) (before : Option (SourceRest VersionData Fault)) (after : Option (SourceRest Placed Fault))
    (group : List VersionData)
    (fault : Fault) → RefusesGroup before fault after → SourceStep before (Err fault) (still_with_ready input after group [])
refused_step input before after group fault (h, (number, a)) = (h, (number, ap (λ o. still_with_ready input o group []) a))

-- ---- the result of a sort and a `dedup` of a group
pub sorted_group : (first : VersionData) (others sorted : List VersionData) → IsPermutation (others ++ first ∷ []) sorted →
    IsSorted version_cmp sorted → dedup (eq_by_cmp version_cmp) sorted ≡ to_ascending (first ∷ others)
sorted_group first others sorted moved up =
    to_list-of_sorted version_cmp_total version_cmp-IsAntisymmetric (first ∷ others) sorted
    (IsPermutation-trans (first ∷ others) (others ++ first ∷ []) sorted (IsPermutation-append_comm (first ∷ []) others) moved) up
    ∙ sym (ascending_is (first ∷ others))

-- An option with a value is a list of one item.
pub one_in : {A : Type 0} (o : Option A) → is_some o ≡ true → length (option_to_list o) ≡ 1
one_in None h = absurd (false≢true h)
one_in (Some x) h = refl

-- An option that isn't None has a value.
pub some_from : {A : Type 0} (o : Option A) → (o ≡ None → ⊥) → is_some o ≡ true
some_from None h = absurd (h refl)
some_from (Some x) h = refl
