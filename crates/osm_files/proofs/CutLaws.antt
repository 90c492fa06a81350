-- The faults of files whose end is missing.
use Rattle.std.proofs.Common.{◌≡◌, ◌⊎◌, inl, inr, ⊎_elim, ℕ, ◌≤◌, ◌<◌, ◌^◌, true, not, List, ◌++◌, length, refl, sym, ap}
use Rattle.std.proofs.Common.{◌∙◌, subst, arith, Option, Some, None, length-append}
use Rattle.std.proofs.lemmas.Bool.{cases_lt, false≢true}
use Rattle.osm_files.specs.declared.end_rule.EndRule.{EndRule}
use Rattle.osm_files.specs.declared.fault.Fault.{Fault}
use Rattle.osm_files.specs.declared.reason.Reason.{Reason}
use Rattle.osm_files.specs.declared.reason.Reason.TheVariants.{ReadFault, NoEnd}
use Rattle.osm_files.specs.declared.sorted_run.SortedRun.{SortedRun}
use Rattle.osm_files.specs.EndRule.{lacks_its_end, cut_if, by_rule}
use Rattle.osm_files.specs.Extent.{RunCanGive}
use Rattle.osm_files.specs.Groups.{sorted_source}
use Rattle.osm_files.specs.Input.{InputRest, whole_input, broken_input, failed_after}
use Rattle.osm_files.specs.Load.{StopsOpening, StopsLoading}
use Rattle.osm_files.specs.Position.{units_from, with_input, fault_of}
use Rattle.osm_files.specs.SortedRun.{run_bytes}
use Rattle.osm_files.specs.SourceLaws.{input_verdict, verdict_within}
use Rattle.osm_files.specs.Stream.{Verdict, verdict_at, SourceRest, Placed}
use Rattle.osm_files.specs.Verdict.{sorted_verdict}
use Rattle.osm_files.proofs.EndedLaws.{ends_by_rule}
use Rattle.osm_files.proofs.FailureLaws.{failure_stays}
use Rattle.osm_files.proofs.FaultyLaws.{faulty_or_closed, faulty_within_stays, malformed_whole_stays}
use Rattle.osm_files.proofs.HoldLaws.{source_refusal, failed_source_ends}
use Rattle.osm_files.proofs.LoadFaults.{failed_inputs, failed_units}
use Rattle.osm_files.proofs.RunBytes.{run_given}
use Rattle.osm_files.proofs.RunOrderLaws.{broken_fails, mapped_fault, run_front, FailsWithin, failed_there}

-- a read failed, the bytes are too many, or the fault is this verdict
abbrev pub CutFault : (Fails : Type 0) → ℕ → List ℕ → Option Verdict → Fault → Type 0
CutFault Fails input bytes verdict fault =
    FailsWithin Fails bytes fault ⊎ (2 ^ 62 ≤ length bytes) ⊎ ((v : Verdict) × (verdict ≡ Some v) × (fault ≡ fault_of input v))

-- the first fault of bytes whose end is missing, whatever their order
abbrev pub cut_refusal : List ℕ → Option Verdict
cut_refusal bytes = (units_from None 0 (failed_after NoEnd bytes)).refusal

module _ (Fails : Type 0) (fails : Fails) (input : ℕ) (bytes more : List ℕ) (fault : Fault) where
  front_sorted : (sorted_source input (broken_input bytes)).refusal ≡ Some fault
      → CutFault Fails input (bytes ++ more) (input_verdict (failed_after NoEnd (bytes ++ more))) fault
  front_sorted e = elim (cases_lt (length (bytes ++ more)) (2 ^ 62)) [
    | inr long ↦ inr (inl long)
    | inl short ↦ (
        let close : Verdict = verdict_at (length bytes) ReadFault in
        let few : length bytes < 2 ^ 62 = omega (arith, short, length-append bytes more) in
        let found = mapped_fault input (verdict_within close bytes) fault (sym (failed_source_ends ReadFault input bytes few) ∙ e) in
        ⊎_elim
        (λ faulty. (
        let stays = faulty_within_stays bytes more faulty.0 faulty.1 in
        let is : input_verdict (failed_after NoEnd (bytes ++ more)) ≡ Some faulty.0 =
        ap (λ (s : SourceRest Placed Verdict). sorted_verdict s.refusal None s.list) (failed_units NoEnd (bytes ++ more) short)
        ∙ stays (verdict_at (length (bytes ++ more)) NoEnd) in
        let same : Some faulty.0 ≡ Some found.0 = sym (faulty.1 close) ∙ found.1 in
        inr (inr (found.0, is ∙ same, found.2))))
        (λ closed. (
        let same : Some close ≡ Some found.0 = sym (closed close) ∙ found.1 in
        let at : found.0 ≡ close = cc in
        inl (failed_there Fails input bytes more found.0 fault fails at found.2)))
        (faulty_or_closed bytes))
  ]

  front_units : (v : Verdict) → (units_from None 0 (broken_input bytes)).refusal ≡ Some v → fault ≡ fault_of input v
      → CutFault Fails input (bytes ++ more) (cut_refusal (bytes ++ more)) fault
  front_units v e is = elim (cases_lt (length (bytes ++ more)) (2 ^ 62)) [
    | inr long ↦ inr (inl long)
    | inl short ↦ ⊎_elim
        (λ long. (let many = long.0 in absurd (omega (arith, many, short, length-append bytes more))))
        (λ rest. ⊎_elim
        (λ faulty. (
        let stays = malformed_whole_stays bytes more faulty.0 faulty.2 in
        let same : Some faulty.0 ≡ Some v = sym faulty.4 ∙ e in
        inr (inr (
          v,
          ap (λ s. s.refusal) (failed_units NoEnd (bytes ++ more) short)
              ∙ stays (verdict_at (length (bytes ++ more)) NoEnd) ∙ same,
          is,
        ))))
        (λ closed. (
        let same : Some (verdict_at (length bytes) ReadFault) ≡ Some v = sym closed.2 ∙ e in
        let at : v ≡ verdict_at (length bytes) ReadFault = cc in
        inl (failed_there Fails input bytes more v fault fails at is)))
        rest)
        (failed_inputs ReadFault bytes)
  ]

-- a run of a file whose end is missing
module _ (Fails : Type 0) (all : List ℕ) (run : SortedRun) (size input : ℕ) (fault : Fault) (whole : length all ≡ size) (end : EndRule)
    (lacks : lacks_its_end end (run_bytes run all) ≡ true) where
  -- what is given of it if a read fails
  abbrev Broken : Reason → List ℕ → Type 0
  Broken reason bytes = by_rule end (failed_after reason bytes) ≡ broken_input bytes

  broken_is : (reason : Reason) (bytes : List ℕ) → reason ≡ ReadFault → Broken reason bytes
  broken_is reason bytes is = λ i. record {
    bytes = bytes;
    failure = (failure_stays (lacks_its_end end bytes) reason ∙ ap (λ (r : Reason). let o : Option Reason = Some r in o) is) i;
  }

  cut_is : (bytes : List ℕ) → bytes ≡ run_bytes run all → by_rule end (whole_input bytes) ≡ failed_after NoEnd (run_bytes run all)
  cut_is bytes same = λ i. cut_if ((ap (lacks_its_end end) same ∙ lacks) i) (whole_input (same i))

  given_sorted : (bytes : List ℕ) (failure : Option Reason)
      → RunCanGive Fails (Some all) run size (record { bytes = bytes; failure = failure })
      → (sorted_source input (by_rule end (record { bytes = bytes; failure = failure }))).refusal ≡ Some fault
      → CutFault Fails input (run_bytes run all) (input_verdict (failed_after NoEnd (run_bytes run all))) fault
  given_sorted bytes (Some reason) gives e =
      let front = run_front Fails all run size reason bytes gives in
      let fails = broken_fails Fails all run size (failed_after reason bytes) whole gives reason refl in
      let is : (sorted_source input (broken_input bytes)).refusal ≡ Some fault =
      ap (λ c. (sorted_source input c).refusal) (sym (broken_is reason bytes fails.1)) ∙ e in
      subst (λ xs. CutFault Fails input xs (input_verdict (failed_after NoEnd xs)) fault) (sym front.1)
      (front_sorted Fails fails.0 input bytes front.0 fault is)
  given_sorted bytes None gives e =
      let same : bytes ≡ run_bytes run all = run_given Fails all run size (whole_input bytes) whole gives refl in
      let c : InputRest = failed_after NoEnd (run_bytes run all) in
      let found = mapped_fault input (input_verdict c) fault
      (sym (source_refusal input c) ∙ ap (λ c. (sorted_source input c).refusal) (sym (cut_is bytes same)) ∙ e) in
      inr (inr found)

  -- A sorted file is refused for its first fault, or as NoEnd.
  pub cut_sorted : (c : InputRest) → RunCanGive Fails (Some all) run size c → StopsOpening input (by_rule end c) fault
      → CutFault Fails input (run_bytes run all) (input_verdict (failed_after NoEnd (run_bytes run all))) fault
  cut_sorted c gives (inl memory) = inl (inl memory)
  cut_sorted c gives (inr e) = given_sorted c.bytes c.failure gives e

  given_units : (bytes : List ℕ) (failure : Option Reason)
      → RunCanGive Fails (Some all) run size (record { bytes = bytes; failure = failure })
      → (with_input input (units_from None 0 (by_rule end (record { bytes = bytes; failure = failure })))).refusal ≡ Some fault
      → CutFault Fails input (run_bytes run all) (cut_refusal (run_bytes run all)) fault
  given_units bytes (Some reason) gives e =
      let front = run_front Fails all run size reason bytes gives in
      let fails = broken_fails Fails all run size (failed_after reason bytes) whole gives reason refl in
      let found = mapped_fault input (units_from None 0 (broken_input bytes)).refusal fault
      (ap (λ c. (with_input input (units_from None 0 c)).refusal) (sym (broken_is reason bytes fails.1)) ∙ e) in
      subst (λ xs. CutFault Fails input xs (cut_refusal xs) fault) (sym front.1)
      (front_units Fails fails.0 input bytes front.0 fault found.0 found.1 found.2)
  given_units bytes None gives e =
      let same : bytes ≡ run_bytes run all = run_given Fails all run size (whole_input bytes) whole gives refl in
      inr (inr (mapped_fault input (cut_refusal (run_bytes run all)) fault
      (ap (λ c. (with_input input (units_from None 0 c)).refusal) (sym (cut_is bytes same)) ∙ e)))

  -- A file of any order is refused for its first fault, or as NoEnd.
  pub cut_units : (c : InputRest) → RunCanGive Fails (Some all) run size c → StopsLoading input (by_rule end c) fault
      → CutFault Fails input (run_bytes run all) (cut_refusal (run_bytes run all)) fault
  cut_units c gives (inl memory) = inl (inl memory)
  cut_units c gives (inr e) = given_units c.bytes c.failure gives e

  -- It isn't read to its end.
  pub cut_never : (c : InputRest) → RunCanGive Fails (Some all) run size c → (by_rule end c).failure ≡ None → ⊥
  cut_never c gives none =
      let ends = ends_by_rule end c none in
      let same : c.bytes ≡ run_bytes run all = run_given Fails all run size c whole gives ends.1 in
      false≢true (sym (ap not ends.0) ∙ ap (lacks_its_end end) same ∙ lacks)
