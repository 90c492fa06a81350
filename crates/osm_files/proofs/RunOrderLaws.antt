-- The order of a run's versions, and the refusals of a run, by what its input gave.
use Rattle.std.proofs.Common.{◌≡◌, ◌⊎◌, inl, inr, ⊎_elim, ℕ, ◌+◌, ◌-◌, ◌≤◌, ◌<◌, ◌^◌, nat_lt, true, false, cond, List, []}
use Rattle.std.proofs.Common.{◌∷◌, ◌++◌, length, take, refl, sym, ap, ◌∙◌, subst, arith, Option, Some, None, option_map}
use Rattle.std.proofs.Common.{append-nil, append_assoc, length-append, length-drop, min, is_some}
use Rattle.std.proofs.Math.Seq.{take-append-add}
use Rattle.std.proofs.lemmas.Bool.{cases_lt, false≢true, ltb-true}
use Rattle.std.proofs.lemmas.Bool.Decides.{nat_tests}
use Rattle.std.proofs.lemmas.List.{take-append-le}
use Rattle.osm_files.specs.declared.fault.Fault.{Fault}
use Rattle.osm_files.specs.declared.reason.Reason.{Reason}
use Rattle.osm_files.specs.declared.reason.Reason.TheVariants.{Memory, Unsorted, ReadFault}
use Rattle.osm_files.specs.declared.sorted_run.SortedRun.{SortedRun}
use Rattle.osm_files.specs.Extent.{RunCanGive}
use Rattle.osm_files.specs.Fault.{fault_at, memory_fault}
use Rattle.osm_files.specs.FileRuns.{GivesSortedFile, IsSortedRun, IfWhole, IsAccepted, IsReadFailure, IsFirstUnsortedIn, IsRefusalOf}
use Rattle.osm_files.specs.Groups.{sorted_source}
use Rattle.osm_files.specs.Held.{HoldsSorted}
use Rattle.osm_files.specs.Input.{InputRest, GivesOne, whole_input, broken_input, failed_after}
use Rattle.osm_files.specs.Load.{StopsOpening}
use Rattle.osm_files.specs.LoadLaws.{is_verdict_reason}
use Rattle.osm_files.specs.Position.{fault_of, units_from, with_input}
use Rattle.osm_files.specs.SortedRun.{bytes_before, bytes_after, run_bytes, offset_in_file}
use Rattle.osm_files.specs.SourceLaws.{verdict_within}
use Rattle.osm_files.specs.Stream.{Verdict, verdict_at, SourceRest, Placed}
use Rattle.osm_files.specs.Units.{units, start_of}
use Rattle.osm_files.specs.Verdict.{length_limit, too_long_verdict, file_units, sorted_verdict, verdict, verdict_sorted}
use Rattle.osm_files.proofs.FailureLaws.{failed_short}
use Rattle.osm_files.proofs.FaultyLaws.{faulty_or_closed, faulty_stays, malformed_stays}
use Rattle.osm_files.proofs.FileLaws.{files_are_read, verdict_without_order}
use Rattle.osm_files.proofs.LoadFaults.{inputs_are_files, failed_inputs, reasons_of_verdicts}
use Rattle.osm_files.proofs.HoldLaws.{whole_refusal, failed_source_ends, long_source_ends}
use Rattle.osm_files.proofs.ReadingLaws.{fault_is}
use Rattle.osm_files.proofs.RunBytes.{run_given}

-- ---- the bytes that a run gives before it fails
abbrev IsFront : List ℕ → List ℕ → Type 0
IsFront front bytes = (more : List ℕ) × (bytes ≡ front ++ more)

-- bytes at the front of a file's part
part_front : (front rest : List ℕ) (size : ℕ) → length front ≤ size → take size (front ++ rest) ≡ front ++ take (size - length front) rest
part_front front rest size fits =
    let all : size ≡ length front + (size - length front) = omega (arith, fits) in
    ap (λ n. take n (front ++ rest)) all ∙ take-append-add front rest (size - length front)

-- What a run gives before it fails is the front of its bytes.
pub run_front : (Fails : Type 0) (all : List ℕ) (run : SortedRun) (size : ℕ) (reason : Reason) (bytes : List ℕ)
    → RunCanGive Fails (Some all) run size (failed_after reason bytes) → IsFront bytes (run_bytes run all)
run_front Fails all run size reason bytes (given, gives, is) =
    let before : List ℕ = bytes_before run in
    let after : List ℕ = bytes_after run in
    let fits : length given.bytes ≤ run.size = omega (arith, gives.within) in
    let broken : is_some given.failure ≡ true = ap (λ c. is_some c.failure) (sym is) in
    let at = gives.bytes in
    let more : List ℕ = take (run.size - length given.bytes) at.0 ++ after in
    let here : bytes ≡ before ++ given.bytes =
    ap (λ c. c.bytes) is ∙ (λ i. before ++ (given.bytes ++ cond (broken i) [] after))
    ∙ ap (λ xs. before ++ xs) (append-nil given.bytes) in (
      more,
      ap (λ xs. before ++ (take run.size xs ++ after)) at.1
          ∙ ap (λ xs. before ++ (xs ++ after)) (part_front given.bytes at.0 run.size fits)
          ∙ ap (λ xs. before ++ xs) (append_assoc given.bytes (take (run.size - length given.bytes) at.0) after)
          ∙ sym (append_assoc before given.bytes more)
          ∙ ap (λ xs. xs ++ more) (sym here),
    )

-- ---- the verdict on order
pub mapped_fault : (input : ℕ) (v : Option Verdict) (fault : Fault) → option_map (fault_of input) v ≡ Some fault
    → (w : Verdict) × (v ≡ Some w) × (fault ≡ fault_of input w)
mapped_fault input None fault e = absurd (let f : None ≡ Some fault = e in cc)
mapped_fault input (Some w) fault e = (w, refl, (let f : fault_of input w ≡ fault = cc in sym f))

-- bytes after those of a file that is too long don't change its verdict
same_start : (bytes more : List ℕ) → 0 < length bytes → start_of (bytes ++ more) ≡ start_of bytes
same_start [] more some = absurd (omega (arith, some))
same_start (b ∷ bytes) more some = refl

long_units : (bytes : List ℕ) → 2 ^ 62 ≤ length bytes
    → file_units bytes ≡ units (Some too_long_verdict) (start_of bytes) 0 (take (2 ^ 62 - 1) bytes)
unfolding file_units length_limit
long_units bytes many =
    let above : nat_lt (length bytes) (2 ^ 62) ≡ false = grind (arith, nat_tests) in
    ap (λ t. cond t (units None (start_of bytes) 0 bytes) (units (Some too_long_verdict) (start_of bytes) 0 (take (2 ^ 62 - 1) bytes)))
    above

long_stays : (bytes more : List ℕ) → 2 ^ 62 ≤ length bytes → verdict_sorted (bytes ++ more) ≡ verdict_sorted bytes
long_stays bytes more many =
    let longer : 2 ^ 62 ≤ length (bytes ++ more) = omega (arith, many, length-append bytes more) in
    let window : take (2 ^ 62 - 1) (bytes ++ more) ≡ take (2 ^ 62 - 1) bytes =
    take-append-le (2 ^ 62 - 1) bytes more (omega (arith, many)) in
    let starts : start_of (bytes ++ more) ≡ start_of bytes = same_start bytes more (omega (arith, many)) in
    ap (λ (s : SourceRest Placed Verdict). sorted_verdict s.refusal None s.list)
    (long_units (bytes ++ more) longer ∙ (λ i. units (Some too_long_verdict) (starts i) 0 (window i)) ∙ sym (long_units bytes many))

-- the fault is out of memory; or reads of the file may fail, and the fault is that one did, at an offset within the bytes
abbrev pub FailsWithin : Type 0 → List ℕ → Fault → Type 0
FailsWithin Fails bytes fault = (fault ≡ memory_fault) ⊎ (Fails × (fault.reason ≡ ReadFault) × (fault.place ≤ length bytes))

pub failure_of : (Fails : Type 0) (bytes : List ℕ) (fault : Fault) → FailsWithin Fails bytes fault → IsReadFailure Fails fault
failure_of Fails bytes fault (inl memory) = inl memory
failure_of Fails bytes fault (inr (fails, read, within)) = inr (fails, read)

-- a read failed after the front `bytes` of some bytes
pub failed_there : (Fails : Type 0) (input : ℕ) (bytes more : List ℕ) (v : Verdict) (fault : Fault) → Fails
    → v ≡ verdict_at (length bytes) ReadFault → fault ≡ fault_of input v → FailsWithin Fails (bytes ++ more) fault
failed_there Fails input bytes more v fault fails at is =
    let there : fault.place ≡ length bytes = ap (λ f. f.place) is ∙ ap (λ v. v.place) at in
    inr (
      fails,
      ap (λ f. f.reason) is ∙ ap (λ v. v.reason) at,
      omega (arith, there, length-append bytes more),
    )

-- the fault is a failure to read, or the verdict on order of these bytes
abbrev pub Refuses : Type 0 → ℕ → List ℕ → Fault → Type 0
Refuses Fails input bytes fault =
    FailsWithin Fails bytes fault ⊎ ((v : Verdict) × (verdict_sorted bytes ≡ Some v) × (fault ≡ fault_of input v))

-- Reads of a file fail if a run of it gives fewer bytes than it has.
pub broken_fails : (Fails : Type 0) (all : List ℕ) (run : SortedRun) (size : ℕ) (c : InputRest) → length all ≡ size
    → RunCanGive Fails (Some all) run size c → (reason : Reason) → c.failure ≡ Some reason → Fails × (reason ≡ ReadFault)
broken_fails Fails all run size c whole (given, gives, is) reason failed =
    let part : ℕ = min (run.start + run.size) size - run.start in
    let why = failed_short (nat_lt (length given.bytes) part) reason (sym gives.failure ∙ ap (λ c. c.failure) (sym is) ∙ failed) in
    let short = ltb-true (length given.bytes) part why.0 in (
      ⊎_elim (λ fails. fails)
          (λ last. absurd (omega (arith, short, whole, ap length last, length-drop run.start all)))
          (gives.why short),
      why.1,
    )

module _ (Fails : Type 0) (fails : Fails) (input : ℕ) (bytes more : List ℕ) (fault : Fault) where
  short_refuses : length bytes < 2 ^ 62
      → option_map (fault_of input) (verdict_within (verdict_at (length bytes) ReadFault) bytes) ≡ Some fault
      → Refuses Fails input (bytes ++ more) fault
  short_refuses short e =
      let close : Verdict = verdict_at (length bytes) ReadFault in
      let found = mapped_fault input (verdict_within close bytes) fault e in
      ⊎_elim
      (λ faulty. (
      let same : Some faulty.0 ≡ Some found.0 = sym (faulty.1 close) ∙ found.1 in
      inr (found.0, faulty_stays bytes more faulty.0 short faulty.1 ∙ same, found.2)))
      (λ closed. (
      let same : Some close ≡ Some found.0 = sym (closed close) ∙ found.1 in
      let is : close ≡ found.0 = cc in
      inl (failed_there Fails input bytes more found.0 fault fails (sym is) found.2)))
      (faulty_or_closed bytes)

  broken_refuses : (sorted_source input (broken_input bytes)).refusal ≡ Some fault → Refuses Fails input (bytes ++ more) fault
  broken_refuses e =
      ⊎_elim
      (λ short. short_refuses short (sym (failed_source_ends ReadFault input bytes short) ∙ e))
      (λ long. (
      let found = mapped_fault input (verdict_sorted bytes) fault
      (sym (whole_refusal input bytes) ∙ ap (λ s. s.refusal) (sym (long_source_ends ReadFault input bytes long)) ∙ e) in
      inr (found.0, long_stays bytes more long ∙ found.1, found.2)))
      (cases_lt (length bytes) (2 ^ 62))

given_refuses : (Fails : Type 0) (all : List ℕ) (run : SortedRun) (size : ℕ) (input : ℕ) (fault : Fault) (bytes : List ℕ)
    (failure : Option Reason) → length all ≡ size → RunCanGive Fails (Some all) run size (record { bytes = bytes; failure = failure })
    → (sorted_source input (record { bytes = bytes; failure = failure })).refusal ≡ Some fault
    → Refuses Fails input (run_bytes run all) fault
given_refuses Fails all run size input fault bytes (Some reason) whole gives e =
    let front = run_front Fails all run size reason bytes gives in
    let fails = broken_fails Fails all run size (failed_after reason bytes) whole gives reason refl in
    let is : (sorted_source input (broken_input bytes)).refusal ≡ Some fault =
    (λ i. (sorted_source input (failed_after (sym fails.1 i) bytes)).refusal) ∙ e in
    subst (λ xs. Refuses Fails input xs fault) (sym front.1) (broken_refuses Fails fails.0 input bytes front.0 fault is)
given_refuses Fails all run size input fault bytes None whole gives e =
    let found = mapped_fault input (verdict_sorted bytes) fault (sym (whole_refusal input bytes) ∙ e) in
    let same : bytes ≡ run_bytes run all = run_given Fails all run size (whole_input bytes) whole gives refl in
    inr (found.0, ap verdict_sorted (sym same) ∙ found.1, found.2)

-- A run whose source is refused has the refusal as its verdict on order, or a read failed.
pub run_refuses : (Fails : Type 0) (all : List ℕ) (run : SortedRun) (size : ℕ) (input : ℕ) (fault : Fault) → length all ≡ size
    → GivesOne (RunCanGive Fails (Some all) run size) (λ c. StopsOpening input c fault) → Refuses Fails input (run_bytes run all) fault
run_refuses Fails all run size input fault whole (c, gives, inl memory) = inl (inl memory)
run_refuses Fails all run size input fault whole (c, gives, inr e) =
    given_refuses Fails all run size input fault c.bytes c.failure whole gives e

-- ---- the result of reading a run
-- bytes with a verdict are no file
pub verdict_refuses : (bytes : List ℕ) (v : Verdict) → verdict_sorted bytes ≡ Some v → (v.reason ≡ Unsorted → ⊥) → IsAccepted bytes → ⊥
verdict_refuses bytes v e other (held, holds) =
    let none : verdict bytes ≡ None = (files_are_read bytes holds.versions holds.short holds.file).0 in
    (let f : None ≡ Some v = sym none ∙ verdict_without_order bytes v e other in cc)

-- a fault at another offset is a failure to read if it was one
pub moved_failure : (Fails : Type 0) (input place : ℕ) (fault : Fault) → IsReadFailure Fails fault
    → IsReadFailure Fails (fault_at input place fault.reason)
moved_failure Fails input place fault failure =
    ⊎_elim (λ memory. inl memory)
    (λ is. ⊎_elim (λ memory. inl (ap (λ f. fault_at input place f.reason) memory))
    (λ read. inr (read.0, ap (λ f. f.reason) is ∙ read.1)) failure)
    (fault_is input place fault.reason)

-- a failure to read isn't Unsorted
failure_is_other : (Fails : Type 0) (fault : Fault) → IsReadFailure Fails fault → fault.reason ≡ Unsorted → ⊥
failure_is_other Fails fault (inl memory) e = (let f : Memory ≡ Unsorted = ap (λ f. f.reason) (sym memory) ∙ e in cc)
failure_is_other Fails fault (inr (fails, read)) e = (let f : ReadFault ≡ Unsorted = sym read ∙ e in cc)

-- a verdict isn't ReadFault
verdict_is_other : (bytes : List ℕ) (v : Verdict) → verdict_sorted bytes ≡ Some v → v.reason ≡ ReadFault → ⊥
verdict_is_other bytes v e read =
    ⊎_elim (λ unsorted. (let f : ReadFault ≡ Unsorted = sym read ∙ unsorted in cc))
    (λ fine. false≢true (ap is_verdict_reason (sym read) ∙ fine))
    ((reasons_of_verdicts bytes v).1 e)

-- A refusal as ReadFault is a failure to read.
reading_failed : (Fails : Type 0) (input : ℕ) (bytes : List ℕ) (fault : Fault) → Refuses Fails input bytes fault → fault.reason ≡ ReadFault
    → Fails
reading_failed Fails input bytes fault (inl (inl memory)) e =
    absurd (let f : Memory ≡ ReadFault = ap (λ f. f.reason) (sym memory) ∙ e in cc)
reading_failed Fails input bytes fault (inl (inr failed)) e = failed.0
reading_failed Fails input bytes fault (inr (v, is, same)) e =
    absurd (verdict_is_other bytes v is (ap (λ f. f.reason) (sym same) ∙ e))

-- a fault at another offset is ReadFault if it was one
moved_reading : (input place : ℕ) (reason : Reason) → (fault_at input place reason).reason ≡ ReadFault → reason ≡ ReadFault
moved_reading input place reason e =
    ⊎_elim (λ memory. absurd (let f : Memory ≡ ReadFault = ap (λ f. f.reason) (sym memory) ∙ e in cc))
    (λ is. ap (λ f. f.reason) (sym is) ∙ e)
    (fault_is input place reason)

module _ (Fails : Type 0) (all : List ℕ) (run : SortedRun) (input offset : ℕ) (fault : Fault) where
  -- A run that is refused as unsorted has its first version out of order there.
  unsorted_there : Refuses Fails input (run_bytes run all) fault → fault.reason ≡ Unsorted → offset ≡ offset_in_file run fault.place
      → IsFirstUnsortedIn all run offset
  unsorted_there (inl failure) unsorted is =
      absurd (failure_is_other Fails fault (failure_of Fails (run_bytes run all) fault failure) unsorted)
  unsorted_there (inr (v, e, same)) unsorted is =
      let there : v ≡ verdict_at fault.place Unsorted =
      (λ i. verdict_at ((sym (ap (λ f. f.place) same)) i) ((sym (ap (λ f. f.reason) same) ∙ unsorted) i)) in
      (fault.place, e ∙ ap Some there, is)

  -- A run that is refused for another reason is no file, or a read failed.
  refused_there : Refuses Fails input (run_bytes run all) fault → (fault.reason ≡ Unsorted → ⊥)
      → IsRefusalOf Fails (run_bytes run all) (fault_at input offset fault.reason)
  refused_there (inl failure) other =
      inl (moved_failure Fails input offset fault (failure_of Fails (run_bytes run all) fault failure))
  refused_there (inr (v, e, same)) other =
      inr (verdict_refuses (run_bytes run all) v e (λ unsorted. other (ap (λ f. f.reason) same ∙ unsorted)))

sorted_run : (Fails : Type 0) (all : List ℕ) (run : SortedRun) (size : ℕ) → length all ≡ size
    → GivesOne (RunCanGive Fails (Some all) run size) GivesSortedFile → IsSortedRun all run
sorted_run Fails all run size whole (c, gives, (unbroken, (held, holds))) =
    (held, subst (λ bytes. HoldsSorted bytes held) (run_given Fails all run size c whole gives unbroken) holds)

module _ (Fails : Type 0) (run : SortedRun) (size : ℕ) where
  abbrev Run : Option (List ℕ) → (InputRest → Type 0) → Type 0
  Run known = GivesOne (RunCanGive Fails known run size)

  -- A run whose input gives a sorted file is a sorted file.
  pub read_whole : (known : Option (List ℕ)) → Run known GivesSortedFile → IfWhole known size (λ all. IsSortedRun all run)
  read_whole None gives = tt
  read_whole (Some all) gives = λ whole. sorted_run Fails all run size whole gives

  module _ (input offset : ℕ) (fault : Fault) where
    -- The refusal of a run as unsorted is its first version out of order.
    pub read_unsorted : (known : Option (List ℕ)) → Run known (λ c. StopsOpening input c fault) → fault.reason ≡ Unsorted
        → offset ≡ offset_in_file run fault.place → IfWhole known size (λ all. IsFirstUnsortedIn all run offset)
    read_unsorted None stops unsorted is = tt
    read_unsorted (Some all) stops unsorted is =
        λ whole. unsorted_there Fails all run input offset fault (run_refuses Fails all run size input fault whole stops) unsorted is

    -- Another refusal of a run is a refusal of its bytes, at the offset in the file.
    pub read_refused : (known : Option (List ℕ)) → Run known (λ c. StopsOpening input c fault) → (fault.reason ≡ Unsorted → ⊥)
        → IfWhole known size (λ all. IsRefusalOf Fails (run_bytes run all) (fault_at input offset fault.reason))
    read_refused None stops other = tt
    read_refused (Some all) stops other =
        λ whole. refused_there Fails all run input offset fault (run_refuses Fails all run size input fault whole stops) other

    -- If the refusal is ReadFault, reads of the file may fail.
    pub read_failed : (known : Option (List ℕ)) → Run known (λ c. StopsOpening input c fault)
        → (fault_at input offset fault.reason).reason ≡ ReadFault → IfWhole known size (λ all. Fails)
    read_failed None stops e = tt
    read_failed (Some all) stops e = λ whole.
        reading_failed Fails input (run_bytes run all) fault (run_refuses Fails all run size input fault whole stops)
        (moved_reading input offset fault.reason e)

-- ---- the result of reading a run whatever its order
-- accepted bytes have no verdict
accepted_whole : (bytes : List ℕ) (v : Verdict) → verdict bytes ≡ Some v → IsAccepted bytes → ⊥
accepted_whole bytes v e (held, holds) =
    let none : verdict bytes ≡ None = (files_are_read bytes holds.versions holds.short holds.file).0 in
    (let f : None ≡ Some v = sym none ∙ e in cc)

-- a read failed, the bytes are too many, or the fault is their first one, whatever their order
abbrev pub Named : Type 0 → ℕ → List ℕ → Fault → Type 0
Named Fails input bytes fault = FailsWithin Fails bytes fault
    ⊎ (2 ^ 62 ≤ length bytes) ⊎ ((v : Verdict) × (verdict bytes ≡ Some v) × (fault ≡ fault_of input v))

module _ (Fails : Type 0) (all : List ℕ) (run : SortedRun) (size input : ℕ) (fault : Fault) (whole : length all ≡ size) where
  broken_units : (bytes more : List ℕ) (v : Verdict) → Fails → (units_from None 0 (broken_input bytes)).refusal ≡ Some v
      → fault ≡ fault_of input v → Named Fails input (bytes ++ more) fault
  broken_units bytes more v fails e is =
      ⊎_elim
      (λ long. (let many = long.0 in inr (inl (omega (arith, many, length-append bytes more)))))
      (λ short. ⊎_elim
      (λ faulty. (
      let same : Some faulty.0 ≡ Some v = sym faulty.4 ∙ e in
      inr (inr (v, malformed_stays bytes more faulty.0 faulty.1 faulty.2 ∙ same, is))))
      (λ closed. (
      let same : Some (verdict_at (length bytes) ReadFault) ≡ Some v = sym closed.2 ∙ e in
      let at : v ≡ verdict_at (length bytes) ReadFault = cc in
      inl (failed_there Fails input bytes more v fault fails at is)))
      short)
      (failed_inputs ReadFault bytes)

  given_units : (bytes : List ℕ) (failure : Option Reason)
      → RunCanGive Fails (Some all) run size (record { bytes = bytes; failure = failure })
      → (with_input input (units_from None 0 (record { bytes = bytes; failure = failure }))).refusal ≡ Some fault
      → Named Fails input (run_bytes run all) fault
  given_units bytes (Some reason) gives e =
      let front = run_front Fails all run size reason bytes gives in
      let fails = broken_fails Fails all run size (failed_after reason bytes) whole gives reason refl in
      let found = mapped_fault input (units_from None 0 (broken_input bytes)).refusal fault
      ((λ i. (with_input input (units_from None 0 (failed_after (sym fails.1 i) bytes))).refusal) ∙ e) in
      subst (λ xs. Named Fails input xs fault) (sym front.1) (broken_units bytes front.0 found.0 fails.0 found.1 found.2)
  given_units bytes None gives e =
      let found = mapped_fault input (verdict bytes) fault (sym (inputs_are_files input bytes).1 ∙ e) in
      let same : bytes ≡ run_bytes run all = run_given Fails all run size (whole_input bytes) whole gives refl in
      inr (inr (found.0, ap verdict (sym same) ∙ found.1, found.2))

-- A run whose units are refused has the refusal as its verdict, is too long, or a read failed.
pub units_named : (Fails : Type 0) (all : List ℕ) (run : SortedRun) (size input : ℕ) (fault : Fault) (c : InputRest) → length all ≡ size
    → RunCanGive Fails (Some all) run size c → (with_input input (units_from None 0 c)).refusal ≡ Some fault
    → Named Fails input (run_bytes run all) fault
units_named Fails all run size input fault c whole = given_units Fails all run size input fault whole c.bytes c.failure

named_refused : (Fails : Type 0) (input : ℕ) (bytes : List ℕ) (fault : Fault) → Named Fails input bytes fault
    → IsRefusalOf Fails bytes fault
named_refused Fails input bytes fault (inl failure) = inl (failure_of Fails bytes fault failure)
named_refused Fails input bytes fault (inr (inl long)) = inr (λ accepted. (
    let short = accepted.1.short in absurd (omega (arith, short, long))))
named_refused Fails input bytes fault (inr (inr (v, e, is))) = inr (accepted_whole bytes v e)

-- A run whose units are refused is no file, or a read failed.
pub units_refuse : (Fails : Type 0) (all : List ℕ) (run : SortedRun) (size input : ℕ) (fault : Fault) (c : InputRest) → length all ≡ size
    → RunCanGive Fails (Some all) run size c → (with_input input (units_from None 0 c)).refusal ≡ Some fault
    → IsRefusalOf Fails (run_bytes run all) fault
units_refuse Fails all run size input fault c whole gives e =
    named_refused Fails input (run_bytes run all) fault (units_named Fails all run size input fault c whole gives e)
