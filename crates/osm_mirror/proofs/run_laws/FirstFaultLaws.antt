-- The first fault of a file that is read from its start, and the first fault of a file of any order in place of the fault
-- of one of its runs.
use Rattle.std.proofs.Common.{◌≡◌, ◌⊎◌, inl, inr, ⊎_elim, ℕ, zero, suc, ◌<◌, ◌≤◌, ◌^◌, Bool, true, false, List, [], ◌∷◌, ◌++◌, length}
use Rattle.std.proofs.Common.{map, Option, Some, None, IfSome, slice_get, refl, sym, ap, ◌∙◌, subst, arith, Bor, not}
use Rattle.std.specs.List.{All}
use Rattle.std.proofs.lemmas.Bool.{false≢true}
use Rattle.std.proofs.lemmas.Option.{slice_get_past}
use Rattle.osm_model.specs.VersionSet.{VersionSet}
use Rattle.osm_files.specs.declared.end_rule.EndRule.{EndRule}
use Rattle.osm_files.specs.declared.fault.Fault.{Fault}
use Rattle.osm_files.specs.declared.output.Output.{Ghosts}
use Rattle.osm_files.specs.declared.reason.Reason.{Reason}
use Rattle.osm_files.specs.declared.reason.Reason.TheVariants.{ReadFault, NoEnd}
use Rattle.osm_files.specs.Change.{change_of}
use Rattle.osm_files.specs.EndRule.{by_rule, cut_if, lacks_its_end, rule_of_file, ends_well}
use Rattle.osm_files.specs.Extent.{RunCanGive}
use Rattle.osm_files.specs.Fault.{memory_fault, too_long_fault, write_fault}
use Rattle.osm_files.specs.FileRuns.{IsAccepted}
use Rattle.osm_files.specs.Input.{InputRest, failed_after, whole_input}
use Rattle.osm_files.specs.Sink.{CutShort}
use Rattle.osm_files.specs.SortedRun.{run_bytes, whole_run}
use Rattle.osm_files.specs.SourceLaws.{input_verdict}
use Rattle.osm_files.specs.Spell.{spell}
use Rattle.osm_files.specs.Stream.{Verdict, verdict_at}
use Rattle.osm_files.specs.Verdict.{verdict, verdict_sorted}
use Rattle.osm_files.proofs.CutLaws.{CutFault, cut_refusal, cut_sorted, cut_units}
use Rattle.osm_files.proofs.EndedLaws.{ends_by_rule}
use Rattle.osm_files.proofs.FailureLaws.{failure_stays}
use Rattle.osm_files.proofs.RunBytes.{run_given}
use Rattle.osm_files.proofs.RunOrderLaws.{Named, Refuses, run_refuses, units_named}
use Rattle.osm_files.proofs.SplitLaws.{whole_file}
use Rattle.osm_merge.specs.Selected.{selection_of}
use Rattle.osm_mirror.specs.declared.run.files_job.FilesJob.{FilesJob}
use Rattle.osm_mirror.specs.declared.run.files_job.JobFile.{JobFile}
use Rattle.osm_mirror.specs.declared.run.files_job.JobFile.TheVariants.{File, Stream}
use Rattle.osm_mirror.specs.declared.run.files_job.Order.{Order}
use Rattle.osm_mirror.specs.declared.run.files_job.Order.TheVariants.{Sorted, Any}
use Rattle.osm_mirror.specs.declared.run.check.Checked.{Checked}
use Rattle.osm_mirror.specs.run.Check.{IsChecked, IsCheckedFile}
use Rattle.osm_mirror.specs.run.FilesJob.{opened_of}
use Rattle.osm_mirror.specs.run.FilesRefusal.{verdict_by_end, IsVerdict, IsFailedRead, IsFaultOfFile, IsRefusedFileBy, IsSoundFile}
use Rattle.osm_mirror.specs.run.FilesRefusal.{IsAcceptedAs}
use Rattle.osm_mirror.specs.run.FilesRefusal.{IsFaultIfSound, IsReadAs, StopsIn, FindsFirst, IsFaultOf, IsFaultAmong, IsFaultByRule}
use Rattle.osm_mirror.specs.run.FilesRefusal.{IsFaultAmongByRule, AreSound, IsCutIfGood, IsLong, IsWriteRefusal, NothingStands, FailsLater}
use Rattle.osm_mirror.specs.run.FilesRefusal.{RefusesAnyOrder, RefusesFilesJob}
use Rattle.osm_mirror.specs.run.Job.{union_of}
use Rattle.osm_mirror.proofs.run_laws.FilesRefusalLaws.{all_at}
use Rattle.osm_mirror.proofs.run_laws.TurnLaws.{no_verdict_by_end}

-- ---- one file
-- the fault of a file, if its bytes have this verdict
abbrev Refused : (Fails : Type 0) → List ℕ → Option Verdict → Fault → Type 0
Refused Fails all v first = (first ≡ memory_fault) ⊎ (IsFailedRead Fails (Some all) first ⊎ IsVerdict v all first)

of_cut : (Fails : Type 0) (all : List ℕ) (v : Option Verdict) (first : Fault) → length all < 2 ^ 62 → CutFault Fails 0 all v first
    → Refused Fails all v first
of_cut Fails all v first short (inl (inl memory)) = inl memory
of_cut Fails all v first short (inl (inr failed)) = inr (inl failed)
of_cut Fails all v first short (inr (inl long)) = absurd (omega (arith, short, long))
of_cut Fails all v first short (inr (inr (w, e, is))) =
    let at : w ≡ verdict_at first.place first.reason =
    (λ i. verdict_at (ap (λ f. f.place) (sym is) i) (ap (λ f. f.reason) (sym is) i)) in
    inr (inr (inl (e ∙ ap Some at)))

module _ (Fails : Type 0) (all : List ℕ) (size : ℕ) (end : EndRule) (small : size < 2 ^ 62) (sized : length all ≡ size) where
  whole : run_bytes whole_run all ≡ all
  whole = whole_file all (omega (arith, small, sized))

  abbrev Gives : InputRest → Type 0
  Gives c = RunCanGive Fails (Some all) whole_run size c

  -- an input that gives a file whose end isn't missing is the same by the rule
  same_by_rule : (bytes : List ℕ) (failure : Option Reason) → Gives (record { bytes = bytes; failure = failure })
      → lacks_its_end (rule_of_file end) all ≡ false
      → by_rule (rule_of_file end) (record { bytes = bytes; failure = failure }) ≡ record { bytes = bytes; failure = failure }
  same_by_rule bytes (Some reason) gives ends =
      λ i. record { bytes = bytes; failure = failure_stays (lacks_its_end (rule_of_file end) bytes) reason i }
  same_by_rule bytes None gives ends =
      let c : InputRest = record { bytes = bytes; failure = None } in
      let is : bytes ≡ all = run_given Fails all whole_run size c sized gives refl ∙ whole in
      ap (λ t. cut_if t c) (ap (lacks_its_end (rule_of_file end)) is ∙ ends)

  module _ (c : InputRest) (gives : Gives c) (first : Fault) where
    short : length all < 2 ^ 62
    short = omega (arith, small, sized)

    -- a file whose end is missing
    cut_in : (order : Order) → lacks_its_end (rule_of_file end) all ≡ true → StopsIn order (by_rule (rule_of_file end) c) first
        → Refused Fails all (verdict_by_end true order all) first
    cut_in Sorted lacks stops =
        of_cut Fails all (input_verdict (failed_after NoEnd all)) first short
        (subst (λ xs. CutFault Fails 0 xs (input_verdict (failed_after NoEnd xs)) first) whole
        (cut_sorted Fails all whole_run size 0 first sized (rule_of_file end)
        (ap (lacks_its_end (rule_of_file end)) whole ∙ lacks) c gives stops))
    cut_in Any lacks stops =
        of_cut Fails all (cut_refusal all) first short
        (subst (λ xs. CutFault Fails 0 xs (cut_refusal xs) first) whole
        (cut_units Fails all whole_run size 0 first sized (rule_of_file end)
        (ap (lacks_its_end (rule_of_file end)) whole ∙ lacks) c gives stops))

    -- a file whose end isn't missing
    whole_in : (order : Order) → lacks_its_end (rule_of_file end) all ≡ false → StopsIn order c first
        → Refused Fails all (verdict_by_end false order all) first
    whole_in Sorted ends stops =
        of_cut Fails all (verdict_sorted all) first short
        (⊎_elim (λ failed. inl failed) (λ found. inr (inr found))
        (subst (λ xs. Refuses Fails 0 xs first) whole (run_refuses Fails all whole_run size 0 first sized (c, gives, stops))))
    whole_in Any ends (inl memory) = inl memory
    whole_in Any ends (inr e) =
        of_cut Fails all (verdict all) first short
        (subst (λ xs. Named Fails 0 xs first) whole (units_named Fails all whole_run size 0 first c sized gives e))

    fault_in : (order : Order) → StopsIn order (by_rule (rule_of_file end) c) first
        → Refused Fails all (verdict_by_end (lacks_its_end (rule_of_file end) all) order all) first
    fault_in order stops =
        elim (lacks_its_end (rule_of_file end) all) as (λ t. lacks_its_end (rule_of_file end) all ≡ t
        → Refused Fails all (verdict_by_end t order all) first) [
          | true ↦ λ lacks. cut_in order lacks stops
          | false ↦ λ ends. whole_in order ends
              (subst (λ (d : InputRest). StopsIn order d first) (same_by_rule c.bytes c.failure gives ends) stops)
        ] refl

-- A read that stops names the first fault of the file.
pub read_named : (Fails : Type 0) (known : Option (List ℕ)) (size : ℕ) (c : InputRest) (order : Order) (end : EndRule) (first : Fault)
    → size < 2 ^ 62 → IfSome known (λ all. length all ≡ size) → RunCanGive Fails known whole_run size c
    → StopsIn order (by_rule (rule_of_file end) c) first → IsRefusedFileBy Fails known order end first
read_named Fails None size c order end first small sized gives stops = inr (inr tt)
read_named Fails (Some all) size c order end first small sized gives stops =
    fault_in Fails all size end small sized c gives first order stops

accepted_known : (order : Order) (bytes all : List ℕ) → bytes ≡ all → IsAcceptedAs order bytes → IsAcceptedAs order all
accepted_known order bytes all is = subst (IsAcceptedAs order) is

-- A file that is read to its end is sound.
pub read_sound : (Fails : Type 0) (known : Option (List ℕ)) (size : ℕ) (c : InputRest) (order : Order) (end : EndRule) → size < 2 ^ 62
    → IfSome known (λ all. length all ≡ size) → RunCanGive Fails known whole_run size c → IsReadAs order (by_rule (rule_of_file end) c)
    → IsSoundFile known order end
read_sound Fails None size c order end small sized gives read = tt
read_sound Fails (Some all) size c order end small sized gives (none, accepted) =
    let ends = ends_by_rule (rule_of_file end) c none in
    let is : c.bytes ≡ all =
    run_given Fails all whole_run size c sized gives ends.1 ∙ whole Fails all size end small sized in (
      accepted_known order c.bytes all is accepted,
      ap (λ (xs : List ℕ). lacks_its_end (rule_of_file end) xs) (sym is) ∙ ap (λ t. not t) ends.0,
    )

-- A regular file that was read to its end, and that has these bytes, is checked as they are.
pub checked_file : (Fails : Type 0) (known : Option (List ℕ)) (size : ℕ) (c : InputRest) (end : EndRule) (checked : Checked)
    → size < 2 ^ 62 → IfSome known (λ all. length all ≡ size) → RunCanGive Fails known whole_run size c
    → IsChecked (by_rule (rule_of_file end) c) checked → IfSome known (IsCheckedFile end checked)
checked_file Fails None size c end checked small sized gives is = tt
checked_file Fails (Some all) size c end checked small sized gives is =
    let none = is.report.file.unbroken in
    let ends = ends_by_rule (rule_of_file end) c none in
    let same : c.bytes ≡ all =
    run_given Fails all whole_run size c sized gives ends.1 ∙ whole Fails all size end small sized in
    let whole_is : by_rule (rule_of_file end) c ≡ whole_input all = (λ i. record { bytes = same i; failure = none i }) in (
      subst (λ (d : InputRest). IsChecked d checked) whole_is is,
      ap (λ (xs : List ℕ). lacks_its_end (rule_of_file end) xs) (sym same) ∙ ap (λ t. not t) ends.0,
    )

-- ---- the files of a job
module _ {F R O : Type 0} (fails : F → Type 0) (bytes : F → Option (List ℕ)) (can : R → InputRest → Type 0) (output : Ghosts O)
    (can_cut : Bool) (job : FilesJob) (files : List (JobFile F R)) (before after : O) (any : job.order ≡ Any)
    (sound : can_cut ≡ false → All (AreSound bytes) files) (fault first : Fault) (memory_same : fault ≡ memory_fault → first ≡ fault)
    (finds : FindsFirst fails bytes (slice_get (map opened_of files) fault.input) fault first)
    (r : RefusesAnyOrder fails bytes can output can_cut job files before after fault) where
  opened_at : (xs : List (JobFile F R)) (k : ℕ) (file : JobFile F R) → slice_get xs k ≡ Some file
      → slice_get (map opened_of xs) k ≡ Some (opened_of file)
  opened_at [] k file at = absurd (let e : None ≡ Some file = at in cc)
  opened_at (x ∷ xs) zero file at = (let e : Some x ≡ Some file = at in let same : x ≡ file = cc in ap (λ y. Some (opened_of y)) same)
  opened_at (x ∷ xs) (suc k) file at = opened_at xs k file at

  many_opened : (xs : List (JobFile F R)) → length (map (opened_of {F = F} {R = R}) xs) ≡ length xs
  many_opened [] = refl
  many_opened (x ∷ xs) = ap suc (many_opened xs)

  -- a fault of the output stays
  output_same : fault.input ≡ length files → first ≡ fault
  output_same is =
      subst (λ o. FindsFirst fails bytes o fault first)
      (slice_get_past (map opened_of files) fault.input (omega (arith, is, many_opened files))) finds

  finds_at : (file : JobFile F R) → slice_get files fault.input ≡ Some file → FindsFirst fails bytes (Some (opened_of file)) fault first
  finds_at file at = subst (λ o. FindsFirst fails bytes o fault first) (opened_at files fault.input file at) finds

  sound_fault : (known : Option (List ℕ)) (Fails : Type 0) (end : EndRule) → IsSoundFile known Any end → first.reason ≡ fault.reason
      → IfSome known (λ all. first.place ≤ length all)
      → (Fails × (fault.reason ≡ ReadFault)) ⊎ IfSome known (λ all. IsAccepted all → ⊥)
      → IsFaultOfFile Fails known Any end first
  sound_fault known Fails end is_sound reason within (inl (failed, read)) = inl (failed, reason ∙ read, within)
  sound_fault None Fails end is_sound reason within (inr never) = inr tt
  sound_fault (Some all) Fails end is_sound reason within (inr never) = absurd (never is_sound.0)

  one_first : (file : JobFile F R) → slice_get files fault.input ≡ Some file → FindsFirst fails bytes (Some (opened_of file)) fault first
      → IsFaultOf fails bytes can Any file fault
      → (first ≡ memory_fault) ⊎ IsFaultAmongByRule fails bytes can Any files first
  one_first (File f end) at (inl (inl memory)) found = inl memory
  one_first (File f end) at (inl (inr (input, is))) found = inr (File f end, ap (slice_get files) input ∙ at, is)
  one_first (File f end) at (inr (is_sound, reason, input, within)) found =
      inr (File f end, ap (slice_get files) input ∙ at, sound_fault (bytes f.now) (fails f.now) end is_sound reason within found)
  one_first (Stream s end) at same found =
      inr (subst (IsFaultAmongByRule fails bytes can Any files) (sym same) (Stream s end, at, found))

  among_first : IsFaultAmong fails bytes can Any files fault → (first ≡ memory_fault) ⊎ IsFaultAmongByRule fails bytes can Any files first
  among_first (file, at, found) = one_first file at (finds_at file at) found

  abbrev Why : Fault → Type 0
  Why f = (f ≡ memory_fault) ⊎ IsFaultAmongByRule fails bytes can job.order files f
      ⊎ IsWriteRefusal output can_cut (length files) before after f
      ⊎ ((f ≡ too_long_fault (length files)) × IsLong fails bytes can job files)

  first_why : Why first
  first_why = elim r.why [
    | inl memory ↦ inl (memory_same memory ∙ memory)
    | inr (inl found) ↦ ⊎_elim (λ memory. inl memory)
        (λ is. inr (inl (subst (λ (o : Order). IsFaultAmongByRule fails bytes can o files first) (sym any) is)))
        (among_first found)
    | inr (inr (inl write)) ↦ subst Why (sym (output_same write.0)) (inr (inr (inl write)))
    | inr (inr (inr long)) ↦ subst Why (sym (output_same (ap (λ f. f.input) long.0))) (inr (inr (inr long)))
  ]

  -- ---- what is left
  same_input : (o : Option (Option (Bor F × EndRule))) → FindsFirst fails bytes o fault first → (first ≡ memory_fault → ⊥)
      → first.input ≡ fault.input
  same_input None same other = ap (λ f. f.input) same
  same_input (Some None) same other = ap (λ f. f.input) same
  same_input (Some (Some (f, end))) (inl (inl memory)) other = absurd (other memory)
  same_input (Some (Some (f, end))) (inl (inr (input, is))) other = input
  same_input (Some (Some (f, end))) (inr (is_sound, reason, input, within)) other = input

  later_known : (known : Option (List ℕ)) (Fails : Type 0) (end : EndRule) → IsSoundFile known Any end
      → IsFaultOfFile Fails known Any end first → (Fails × (first.reason ≡ ReadFault)) ⊎ (known ≡ None)
  later_known known Fails end is_sound (inl (failed, read, within)) = inl (failed, read)
  later_known None Fails end is_sound (inr v) = inr refl
  later_known (Some all) Fails end is_sound (inr v) =
      absurd (no_verdict_by_end Any all is_sound.0.0 (lacks_its_end (rule_of_file end) all) first is_sound.1 is_sound.0.1 v)

  later_first : (file : JobFile F R) → AreSound bytes file → FindsFirst fails bytes (Some (opened_of file)) fault first
      → (first ≡ memory_fault → ⊥) → FailsLater fails bytes can file fault → FailsLater fails bytes can file first
  later_first (File f end) is_sound finds other (inr none) = inr none
  later_first (File f end) is_sound (inl (inl memory)) other (inl failed) = absurd (other memory)
  later_first (File f end) is_sound (inl (inr (input, is))) other (inl failed) = later_known (bytes f.now) (fails f.now) end is_sound is
  later_first (File f end) is_sound (inr (_, reason, input, within)) other (inl failed) = inl (failed.0, reason ∙ failed.1)
  later_first (Stream s end) is_sound finds other later = absurd later

  -- A job over files of any order is refused with the first fault of a file.
  pub first_refuses : RefusesFilesJob fails bytes can output can_cut job files before after first
  first_refuses = record {
    why = first_why;
    cut = λ which ended held good.
        let c = r.cut which ended held good in
        let is : first ≡ fault = elim c.why [
          | inl memory ↦ memory_same memory
          | inr (inl (write, failed)) ↦ output_same (ap (λ f. f.input) write)
          | inr (inr (long, many)) ↦ output_same (ap (λ f. f.input) long)
        ] in
        subst (λ (f : Fault). CutShort (length files) (change_of output before after)
        (spell job.format (selection_of job.selection (union_of held))) f) (sym is) c;
    stands = λ o. record {
      cut_back = λ may. ⊎_elim (λ nothing. inl nothing)
          (λ write. inr (output_same (ap (λ f. f.input) write) ∙ write)) ((r.stands o).cut_back may);
      unwritten = λ cannot other file at.
          let same : first.input ≡ fault.input = same_input (slice_get (map opened_of files) fault.input) finds other in
          let here : slice_get files fault.input ≡ Some file = ap (slice_get files) (sym same) ∙ at in
          ⊎_elim (λ nothing. inl nothing)
          (λ later. inr (later_first file (all_at (AreSound bytes) files fault.input file (sound cannot) here) (finds_at file here) other
          later))
          ((r.stands o).unwritten cannot (λ memory. other (memory_same memory ∙ memory)) file here);
    };
  }
