-- The extents of files that a job for a span reads give the slices of the files' sets, or show that a file isn't sorted.
use Rattle.std.proofs.Common.{◌≡◌, ◌⊎◌, inl, inr, ⊎_elim, ℕ, ◌-◌, ◌≤◌, ◌<◌, ◌^◌, Bool, true, false, not, ◌&&◌, ◌||◌, List, []}
use Rattle.std.proofs.Common.{◌∷◌, ◌++◌, length, take, drop, Option, Some, None, IfSome, refl, sym, ap, ◌∙◌, subst, arith, append-nil}
use Rattle.std.specs.Cmp.{Equal-is, tied_itself}
use Rattle.std.specs.Ordering.{eq_by_cmp, is_eq}
use Rattle.std.specs.declared.cmp.Ordering.TheVariants.{Less}
use Rattle.std.specs.List.{list_any, AllByRecursion}
use Rattle.std.specs.List.Sorted.{IsStrictlySortedBy}
use Rattle.std.proofs.lemmas.Bool.{false≢true, cases_lt}
use Rattle.std.proofs.lemmas.List.{take_all}
use Rattle.std.proofs.lemmas.List.Folds.{list_any-append}
use Rattle.osm_model.specs.Data.{VersionData}
use Rattle.osm_model.specs.Order.{version_cmp, version_cmp_total}
use Rattle.osm_model.specs.VersionSet.{VersionSet}
use Rattle.osm_model.specs.Sets.{contains, from_list, to_list}
use Rattle.osm_model.proofs.SetLaws.{contains-from_list, contains-listed, strict-listed}
use Rattle.osm_model.proofs.VersionLaws.{version_cmp-IsAntisymmetric}
use Rattle.osm_files.specs.declared.reason.Reason.{Reason}
use Rattle.osm_files.specs.declared.fault.Fault.{Fault}
use Rattle.osm_files.specs.declared.sorted_run.SortedRun.{SortedRun}
use Rattle.osm_files.specs.Extent.{RunCanGive}
use Rattle.osm_files.specs.FileRuns.{IsReadFailure}
use Rattle.osm_files.specs.Groups.{sorted_source}
use Rattle.osm_files.specs.Input.{InputRest}
use Rattle.osm_files.specs.Held.{HoldsSorted}
use Rattle.osm_files.specs.SortedRun.{run_bytes, whole_run}
use Rattle.osm_files.specs.Stream.{Verdict, end_whole, end_refused}
use Rattle.osm_files.specs.Verdict.{verdict_sorted}
use Rattle.osm_files.proofs.FailureLaws.{never_failed}
use Rattle.osm_files.proofs.FaultyLaws.{failed_is_refused}
use Rattle.osm_files.proofs.FileLaws.{sorted_files_are_read}
use Rattle.osm_files.proofs.FrontLaws.{front_given}
use Rattle.osm_files.proofs.HoldLaws.{source_gives_held, set_listed}
use Rattle.osm_files.proofs.RunBytes.{run_given}
use Rattle.osm_files.proofs.RunOrderLaws.{run_refuses, run_front, broken_fails, failure_of}
use Rattle.osm_files.proofs.SpellLaws.{held_is_one_set}
use Rattle.osm_merge.specs.declared.span.Span.{Span}
use Rattle.osm_merge.specs.declared.within.Outside.{Outside}
use Rattle.osm_merge.specs.declared.within.Outside.TheVariants.{Dropped, Refused}
use Rattle.osm_merge.specs.Slice.{slice_of, is_within, is_under, is_ascending}
use Rattle.osm_merge.specs.ToCome as source
use Rattle.osm_merge.specs.Within.{from_bound, stray_fault}
use Rattle.osm_merge.proofs.SliceLaws.{kept_in, under_down, none_after}
use Rattle.osm_files.proofs.SpellLaws.{equal_sets as equal}
use Rattle.osm_mirror.specs.declared.run.shard_extent.FileExtent.{FileExtent}
use Rattle.std.proofs.Common.{Result, Ok, Err, IfOk}
use Rattle.osm_model.specs.declared.object.Object.{Object}
use Rattle.osm_mirror.specs.run.Cut.{BeginsAs, BeginsLinesOf, IsCutOf, IsCutRefusal}
use Rattle.osm_mirror.specs.run.ShardExtent.{is_read_whole, outside_if, lines_between, IsFileExtent, IsExtentOf, BeginsAtOf, EndsAtOf}
use Rattle.osm_mirror.specs.run.Merge.{GivesSorted}
use Rattle.osm_mirror.specs.run.ShardRefusal.{IsFileRefusal}
use Rattle.osm_mirror.specs.run.SliceJob.{given_slice, IsPartRead, HasSlice, GivesSlice}
use Rattle.osm_mirror.proofs.run_laws.InputRefusalLaws.{up_to_refused}
use Rattle.osm_mirror.proofs.run_laws.ShardExtentLaws.{part_holds, part_rises}
use Rattle.osm_mirror.proofs.run_laws.ProbeLaws.{opl_is, opl_starts, probe_refuses}
use Rattle.osm_mirror.proofs.fleet_laws.MergesLaws.{as_held}
use Rattle.osm_mirror.proofs.run_laws.SourceLaws.{slices_are_within}

-- ---- the extent of a file
pub lines_part : (known : Option (List ℕ)) (span : Span) (size_is start end : ℕ) → BeginsAs known 0 false →
    IfSome known (λ all. false ≡ is_read_whole all) → IfSome known (λ all. size_is ≡ length all) → BeginsAtOf known span.from start →
    EndsAtOf known span.to end → start ≤ end →
    IsExtentOf span known (record { run = lines_between start end; size = size_is; outside = Refused })
lines_part None span size_is start end h by_lines is begins ends up = tt
lines_part (Some all) span size_is start end h by_lines is begins ends up = record {
  size = sym is;
  outside = ap outside_if by_lines;
  read = inr (record {
    opl = opl_is all false h;
    outside = refl;
    run = (start, end, refl, record { begins = begins; ends = ends; ascends = up });
  });
}

pub whole_extent : (known : Option (List ℕ)) (span : Span) (size_is : ℕ) (run : SortedRun) →
    IfSome known (λ all. true ≡ is_read_whole all) → IfSome known (λ all. size_is ≡ length all) → run ≡ whole_run →
    IsExtentOf span known (record { run = run; size = size_is; outside = Dropped })
whole_extent None span size_is run whole is run_is = tt
whole_extent (Some all) span size_is run whole is run_is =
    record { size = sym is; outside = ap outside_if whole; read = inl (refl, run_is) }

-- a cut at which a line begins is where the extent of a file begins or ends
pub cut_begins : (known : Option (List ℕ)) (bound : Object) (start : ℕ) → IsCutOf known bound start → BeginsLinesOf known start →
    BeginsAtOf known (Some bound) start
cut_begins None bound start cut begins = tt
cut_begins (Some all) bound start cut begins = (cut.1, begins, cut.0)

pub cut_ends : (known : Option (List ℕ)) (bound : Object) (end : ℕ) → IsCutOf known bound end → BeginsLinesOf known end →
    EndsAtOf known (Some bound) end
cut_ends None bound end cut begins = tt
cut_ends (Some all) bound end cut begins = (cut.1, begins, cut.0)

pub both_ok : {E : Type 0} (P Q R : ℕ → Type 0) → ((n : ℕ) → P n → Q n → R n) → (result : Result ℕ E) → IfOk result P →
    IfOk result Q → IfOk result R
both_ok P Q R f (Ok n) p q = f n p q
both_ok P Q R f (Err e) p q = tt

-- ---- refusals of a file before its extent is read
-- a refusal of a cut of an OPL file is one of the file
pub cut_refuses : (Fails : Type 0) (known : Option (List ℕ)) (fault : Fault) → BeginsAs known 0 false → IsCutRefusal Fails known fault →
    IsFileRefusal Fails known fault
cut_refuses Fails None fault opl refused = inr tt
cut_refuses Fails (Some all) fault opl refused = probe_refuses Fails (Some all) (length all) fault (opl_is all false opl, refl) refused

-- a file whose extent ends before it begins isn't sorted
pub part_falls : (Fails : Type 0) (known : Option (List ℕ)) (span : Span) (start end : ℕ) (fault : Fault) → is_ascending span ≡ true →
    BeginsAs known 0 false → BeginsAtOf known span.from start → EndsAtOf known span.to end → end < start →
    IsFileRefusal Fails known fault
part_falls Fails None span start end fault rises opl begins ends down = inr tt
part_falls Fails (Some all) span start end fault rises opl begins ends down = inr (λ held h.
    let up = part_rises span all start end held rises (opl_starts all (opl_is all false opl)) h begins ends in
    absurd (omega (arith, up, down)))

-- ---- lists of versions
-- a member of a list that passes a test
witness : (q : VersionData → Bool) (versions : List VersionData) → list_any q versions ≡ true →
    (v : VersionData) × (q v ≡ true) × (list_any (eq_by_cmp version_cmp v) versions ≡ true)
witness q [] h = absurd (false≢true h)
witness q (v ∷ versions) h =
    elim (q v) as (λ t. q v ≡ t → (t || list_any q versions) ≡ true →
    (w : VersionData) × (q w ≡ true) × (list_any (eq_by_cmp version_cmp w) (v ∷ versions) ≡ true)) [
      | true ↦ λ e k. (v, e, ap (λ o. is_eq o || list_any (eq_by_cmp version_cmp v) versions) (tied_itself version_cmp_total v))
      | false ↦ λ e k. (let more = witness q versions k in (
        more.0,
        more.1,
        (elim (eq_by_cmp version_cmp more.0 v) as (λ t. (t || list_any (eq_by_cmp version_cmp more.0) versions) ≡ true) [
          | true ↦ refl
          | false ↦ more.2
        ]),
      ))
    ] refl h

any_of_front : (q : VersionData → Bool) (front rest : List VersionData) → list_any q front ≡ true → list_any q (front ++ rest) ≡ true
any_of_front q front rest h = list_any-append q front rest ∙ ap (λ t. t || list_any q rest) h

-- the versions that a set has within a span
none_outside : (span : Span) (set : VersionSet) (front rest : List VersionData) → to_list (slice_of span.from span.to set) ≡ front ++ rest
    → list_any (λ v. not (is_within span.from span.to v)) front ≡ true → ⊥
none_outside span set front rest are h =
    let p : VersionData → Bool = is_within span.from span.to in
    let extent : VersionSet = slice_of span.from span.to set in
    let w = witness (λ v. not (p v)) (to_list extent) (ap (list_any (λ v. not (p v))) are ∙ any_of_front (λ v. not (p v)) front rest h) in
    let kept : (contains set w.0 && p w.0) ≡ true = sym (kept_in set p w.0) ∙ contains-listed extent w.0 ∙ w.2 in
    (elim (p w.0) as (λ t. not t ≡ true → (contains set w.0 && t) ≡ true → ⊥) [
      | true ↦ λ e k. false≢true e
      | false ↦ λ e k. (elim (contains set w.0) as (λ t. (t && false) ≡ true → ⊥) [
        | true ↦ λ no. false≢true no
        | false ↦ λ no. false≢true no
      ]) k
    ]) w.1 kept

-- ---- the versions below a bound
module _ (to : Option Object) where
  abbrev under : VersionData → Bool
  under = is_under to

  abbrev NoneUnder : List VersionData → Type 0
  NoneUnder versions = AllByRecursion (λ w. under w ≡ false) versions

  none_later : (to_is : Option Object) → to ≡ to_is → (v : VersionData) (later : List VersionData) → under v ≡ false
      → AllByRecursion (λ w. version_cmp v w ≡ Less) later → NoneUnder later
  none_later None is v later over up = absurd (let no : true ≡ false = sym (ap (λ t. is_under t v) is) ∙ over in false≢true (sym no))
  none_later (Some bound) is v later over up =
      subst (λ t. AllByRecursion (λ w. is_under t w ≡ false) later) (sym is)
      (none_after version_cmp (is_under (Some bound)) (under_down bound) v later (ap (λ t. is_under t v) (sym is) ∙ over) up)

  later_only : (p : VersionData → Type 0) (earlier later : List VersionData) → AllByRecursion p (earlier ++ later) → AllByRecursion p later
  later_only p [] later h = h
  later_only p (v ∷ earlier) later h = later_only p earlier later h.1

  -- the versions after one that isn't below the bound aren't below it
  over_stays : (front rest : List VersionData) → IsStrictlySortedBy version_cmp (front ++ rest)
      → list_any (λ v. not (under v)) front ≡ true → NoneUnder rest
  unfolding IsStrictlySortedBy
  over_stays [] rest up h = absurd (false≢true h)
  over_stays (v ∷ front) rest up h =
      elim (under v) as (λ t. under v ≡ t → (not t || list_any (λ w. not (under w)) front) ≡ true → NoneUnder rest) [
        | true ↦ λ e k. over_stays front rest up.1 k
        | false ↦ λ e k. none_later to refl v rest e (later_only (λ w. version_cmp v w ≡ Less) front rest up.0)
      ] refl h

  no_member : (q : VersionData) (versions : List VersionData) → NoneUnder versions →
      (list_any (eq_by_cmp version_cmp q) versions && under q) ≡ false
  no_member q [] h = refl
  no_member q (v ∷ versions) h =
      elim (eq_by_cmp version_cmp q v) as (λ t. eq_by_cmp version_cmp q v ≡ t →
      ((t || list_any (eq_by_cmp version_cmp q) versions) && under q) ≡ false) [
        | true ↦ λ e. (let same : q ≡ v = version_cmp-IsAntisymmetric q v ((Equal-is (version_cmp q v)).0 e) in ap under same ∙ h.0)
        | false ↦ λ e. no_member q versions h.1
      ] refl

without_rest : (a b c d : Bool) → (b && d) ≡ false → (a && (c && d)) ≡ ((a || b) && (c && d))
without_rest true b c d h = refl
without_rest false true true true h = sym h
without_rest false true true false h = refl
without_rest false true false d h = refl
without_rest false false c d h = refl

-- The slice of a set is that of its first versions, if one of these isn't below the upper bound.
front_slice : (span : Span) (set : VersionSet) (front rest : List VersionData) → to_list set ≡ front ++ rest
    → list_any (λ v. not (is_under span.to v)) front ≡ true
    → slice_of span.from span.to (from_list {R = version_cmp} front) ≡ slice_of span.from span.to set
front_slice span set front rest are over =
    let p : VersionData → Bool = is_within span.from span.to in
    let later = over_stays span.to front rest (subst (IsStrictlySortedBy version_cmp) are (strict-listed {R = version_cmp} set)) over in
    equal _ _ (λ v.
    kept_in (from_list front) p v
    ∙ ap (λ t. t && p v) (contains-from_list version_cmp_total front v)
    ∙ without_rest (list_any (eq_by_cmp version_cmp v) front) (list_any (eq_by_cmp version_cmp v) rest) _ (is_under span.to v)
    (no_member span.to v rest later)
    ∙ ap (λ t. t && p v) (sym (list_any-append (eq_by_cmp version_cmp v) front rest) ∙ ap (list_any (eq_by_cmp version_cmp v)) (sym are)
    ∙ sym (contains-listed set v))
    ∙ sym (kept_in set p v))

-- ---- the bytes of an extent
whole_bytes : (all : List ℕ) → length all < 2 ^ 62 → run_bytes whole_run all ≡ all
whole_bytes all short = append-nil (take (2 ^ 64 - 1) all) ∙ take_all (2 ^ 64 - 1) all (omega (arith, short))

lines_bytes : (all : List ℕ) (start end : ℕ) → run_bytes (lines_between start end) all ≡ take (end - start) (drop start all)
lines_bytes all start end = append-nil (take (end - start) (drop start all))

-- what the extent of a sorted file holds: the slice, or all of the file
module _ (span : Span) (all : List ℕ) (extent : FileExtent) (set : VersionSet) where
  abbrev PartSet : Outside → VersionSet → Type 0
  PartSet Refused held = held ≡ slice_of span.from span.to set
  PartSet Dropped held = held ≡ set

  record PartHolds : Type 0 where
    held : VersionSet
    holds : HoldsSorted (run_bytes extent.run all) held
    is : PartSet extent.outside held

  holds_part : IsFileExtent span all extent → HoldsSorted all set → PartHolds
  holds_part is h =
      ⊎_elim (λ (outside, run). record {
        held = set;
        holds = subst (λ b. HoldsSorted b set) (sym (ap (λ (r : SortedRun). run_bytes r all) run ∙ whole_bytes all h.short)) h;
        is = subst (λ (x : Outside). PartSet x set) (sym outside) refl;
      })
      (λ lines. let p = lines.run in record {
        held = slice_of span.from span.to set;
        holds = subst (λ b. HoldsSorted b (slice_of span.from span.to set))
            (sym (ap (λ (r : SortedRun). run_bytes r all) p.2 ∙ lines_bytes all p.0 p.1))
            (part_holds span all p.0 p.1 set (opl_starts all lines.opl) h p.3);
        is = subst (λ (x : Outside). PartSet x (slice_of span.from span.to set)) (sym lines.outside) refl;
      }) is.read

-- ---- what the input of an extent gives
module _ (span : Span) (Fails : Type 0) (all : List ℕ) (extent : FileExtent) (part_is : IsFileExtent span all extent)
    (outside : Outside) (outside_is : outside ≡ extent.outside) where
  -- ---- a sorted file
  module _ (set : VersionSet) (h : HoldsSorted all set) where
    is : IsFileExtent span all extent
    is = part_is

    p : PartHolds span all extent set
    p = holds_part span all extent set is h

    set_is : (o : Outside) → o ≡ outside → PartSet span all extent set o p.held
    set_is o e = subst (λ (x : Outside). PartSet span all extent set x p.held) (sym (e ∙ outside_is)) p.is

    whole_input : (c : InputRest) → RunCanGive Fails (Some all) extent.run extent.size c → c.failure ≡ None → HoldsSorted c.bytes p.held
    whole_input c gives unbroken =
        subst (λ b. HoldsSorted b p.held) (sym (run_given Fails all extent.run extent.size c is.size gives unbroken)) p.holds

    -- what a source gives is the front of what the extent holds
    given_front : (number : ℕ) (bytes : List ℕ) (failure : Option Reason)
        → RunCanGive Fails (Some all) extent.run extent.size (record { bytes = bytes; failure = failure })
        → (rest : List VersionData)
        × (to_list p.held ≡ (sorted_source number (record { bytes = bytes; failure = failure })).list ++ rest)
    given_front number bytes (Some reason) gives =
        let front = run_front Fails all extent.run extent.size reason bytes gives in
        front_given reason number bytes front.0 p.held (subst (λ b. HoldsSorted b p.held) front.1 p.holds)
    given_front number bytes None gives = (
      [],
      ap (λ s. s.list) (sym (source_gives_held number bytes p.held (whole_input (record { bytes = bytes; failure = None }) gives refl)))
          ∙ sym (append-nil (sorted_source number (record { bytes = bytes; failure = None })).list),
    )

    dropped_is : (number : ℕ) (bytes : List ℕ) (failure : Option Reason) (found : VersionSet)
        → RunCanGive Fails (Some all) extent.run extent.size (record { bytes = bytes; failure = failure }) → p.held ≡ set
        → IsPartRead span (sorted_source number (record { bytes = bytes; failure = failure })) found
        → found ≡ slice_of span.from span.to set
    dropped_is number bytes failure found gives whole read =
        let c : InputRest = record { bytes = bytes; failure = failure } in
        let front = given_front number bytes failure gives in
        ⊎_elim
        (λ ends. (
        let unbroken : failure ≡ None = (elim failure as (λ t. (sorted_source number (record { bytes = bytes; failure = t })).refusal
        ≡ None → t ≡ None) [
          | Some reason ↦ λ none. absurd (failed_is_refused reason number bytes none)
          | None ↦ λ none. refl
        ]) ends in
        let list : (sorted_source number c).list ≡ to_list p.held =
        ap (λ t. (sorted_source number (record { bytes = bytes; failure = t })).list) unbroken
        ∙ ap (λ s. s.list) (source_gives_held number bytes p.held
        (whole_input (record { bytes = bytes; failure = None })
        (subst (λ t. RunCanGive Fails (Some all) extent.run extent.size (record { bytes = bytes; failure = t })) unbroken gives) refl)) in
        read.slice ∙ ap (λ vs. slice_of span.from span.to (from_list {R = version_cmp} vs)) list
        ∙ ap (slice_of span.from span.to) (set_listed p.held ∙ whole)))
        (λ over. read.slice ∙ front_slice span p.held (sorted_source number c).list front.0 front.1 over
        ∙ ap (slice_of span.from span.to) whole)
        read.complete

    -- the set that a job takes of the extent is the slice
    pub found_is : (given : Outside × InputRest) (found : VersionSet) → given.0 ≡ outside
        → RunCanGive Fails (Some all) extent.run extent.size given.1 → HasSlice span given found → found ≡ slice_of span.from span.to set
    found_is (Refused, c) found e gives slice =
        held_is_one_set c.bytes found p.held (as_held c.bytes found slice.0.file)
        (as_held c.bytes p.held (whole_input c gives slice.0.unbroken)) ∙ set_is Refused e
    found_is (Dropped, c) found e gives slice = dropped_is slice.2 c.bytes c.failure found gives (set_is Dropped e) slice.3

    -- the extent of a good file has the slice
    pub good_is : (Fails → ⊥) → (given : Outside × InputRest) → given.0 ≡ outside
        → RunCanGive Fails (Some all) extent.run extent.size given.1 → GivesSlice span given (slice_of span.from span.to set)
    good_is never (Refused, c) e gives =
        let unbroken = never_failed c.failure
        (λ reason failed. never (broken_fails Fails all extent.run extent.size c is.size gives reason failed).0) in (
          subst (λ (s : VersionSet). GivesSorted c s) (set_is Refused e)
              (record { unbroken = unbroken; file = whole_input c gives unbroken }),
          slices_are_within span set,
        )
    good_is never (Dropped, c) e gives =
        let unbroken = never_failed c.failure
        (λ reason failed. never (broken_fails Fails all extent.run extent.size c is.size gives reason failed).0) in (
          set,
          subst (λ (s : VersionSet). GivesSorted c s) (set_is Dropped e)
              (record { unbroken = unbroken; file = whole_input c gives unbroken }),
          refl,
        )

    -- no version of the extent is outside of the span
    none_strays : (number : ℕ) (c : InputRest) → Refused ≡ outside → RunCanGive Fails (Some all) extent.run extent.size c
        → list_any (λ v. not (is_within span.from span.to v)) (sorted_source number c).list ≡ true → ⊥
    none_strays number c e gives stray =
        let front = given_front number c.bytes c.failure gives in
        none_outside span set (sorted_source number c).list front.0 (ap to_list (sym (set_is Refused e)) ∙ front.1) stray

    -- the extent has no verdict
    no_verdict : (v : Verdict) → verdict_sorted (run_bytes extent.run all) ≡ Some v → ⊥
    no_verdict v e =
        let b = p.holds in
        let none : verdict_sorted (run_bytes extent.run all) ≡ None =
        sorted_files_are_read (run_bytes extent.run all) b.versions b.short b.file b.sorted in
        (let no : None ≡ Some v = sym none ∙ e in cc)

  -- ---- any file
  source_fault : (number : ℕ) (c : InputRest) (fault : Fault) → RunCanGive Fails (Some all) extent.run extent.size c
      → length all ≡ extent.size → (sorted_source number c).refusal ≡ Some fault
      → IsReadFailure Fails fault ⊎ ((held : VersionSet) → HoldsSorted all held → ⊥)
  source_fault number c fault gives size_is e =
      ⊎_elim (λ failure. inl (failure_of Fails (run_bytes extent.run all) fault failure))
      (λ (v, verdict_is, same). inr (λ held h. no_verdict held h v verdict_is))
      (run_refuses Fails all extent.run extent.size number fault size_is (c, gives, inr e))

  part_fault : (number : ℕ) (given : Outside × InputRest) (fault : Fault) → given.0 ≡ outside
      → RunCanGive Fails (Some all) extent.run extent.size given.1 → length all ≡ extent.size
      → (given_slice span number given).refusal ≡ Some fault
      → IsReadFailure Fails fault ⊎ ((held : VersionSet) → HoldsSorted all held → ⊥)
  part_fault number (Dropped, c) fault e gives size_is refused =
      ⊎_elim (λ r. source_fault number c fault gives size_is r)
      (λ (none, over). absurd (let no : None ≡ Some fault = none in cc))
      (up_to_refused (is_under span.to) end_whole (from_bound span (sorted_source number c)).refusal
      (from_bound span (sorted_source number c)).list fault refused)
  part_fault number (Refused, c) fault e gives size_is refused =
      ⊎_elim (λ r. source_fault number c fault gives size_is r)
      (λ (is_stray, stray). inr (λ held h. none_strays held h number c e gives stray))
      (up_to_refused (is_within span.from span.to) (end_refused (stray_fault number)) (sorted_source number c).refusal
      (sorted_source number c).list fault refused)

  -- A refusal of the extent is one of the file.
  pub fault_is : (number : ℕ) (given : Outside × InputRest) (fault : Fault) → given.0 ≡ outside
      → RunCanGive Fails (Some all) extent.run extent.size given.1 → (given_slice span number given).refusal ≡ Some fault
      → IsReadFailure Fails fault ⊎ ((held : VersionSet) → HoldsSorted all held → ⊥)
  fault_is number given fault e gives refused = part_fault number given fault e gives part_is.size refused
