-- Turns of a job: what an output holds that was cut back between them, and why a turn and a job are refused.
use Rattle.std.proofs.Common.{◌≡◌, ◌⊎◌, inl, inr, ⊎_elim, ℕ, zero, suc, ◌^◌, Bool, true, false, List, [], ◌∷◌, ◌++◌, length, take}
use Rattle.std.proofs.Common.{Option, Some, None, IfSome, slice_get, Result, Ok, Err, refl, sym, ap, subst, ◌∙◌, append-nil, arith}
use Rattle.std.proofs.Math.Seq.{take-append_seam}
use Rattle.std.proofs.lemmas.Bool.{false≢true}
use Rattle.std.proofs.lemmas.List.Elements.{All-nil, All-cons}
use Rattle.std.proofs.lemmas.Option.{slice_get_past}
use Rattle.std.specs.List.{All}
use Rattle.osm_model.specs.VersionSet.{VersionSet}
use Rattle.osm_files.specs.declared.end_rule.EndRule.{EndRule}
use Rattle.osm_files.specs.declared.fault.Fault.{Fault}
use Rattle.osm_files.specs.declared.output.Output.{Ghosts}
use Rattle.osm_files.specs.declared.reason.Reason.TheVariants.{Memory, Unsorted, ReadFault, WriteFault, TooLong}
use Rattle.osm_files.specs.Change.{change_of}
use Rattle.osm_files.specs.CutBack.{HasLength, IsCutBack}
use Rattle.osm_files.specs.EndRule.{lacks_its_end, rule_of_file}
use Rattle.osm_files.specs.Fault.{memory_fault, too_long_fault, write_fault}
use Rattle.osm_files.specs.FileRuns.{IsAccepted}
use Rattle.osm_files.specs.Input.{InputRest}
use Rattle.osm_files.specs.Output.{Change, Appends}
use Rattle.osm_files.specs.Stream.{verdict_at}
use Rattle.osm_files.proofs.FileLaws.{files_are_read, sorted_files_are_read}
use Rattle.osm_merge.specs.declared.merge.Counts.{Counts}
use Rattle.osm_merge.specs.Merged.{Grows}
use Rattle.osm_mirror.specs.declared.run.file_way.FileWay.{FileWay}
use Rattle.osm_mirror.specs.declared.run.files_job.FilesJob.{FilesJob}
use Rattle.osm_mirror.specs.declared.run.files_job.JobFile.{JobFile}
use Rattle.osm_mirror.specs.declared.run.files_job.JobFile.TheVariants.{File, Stream}
use Rattle.osm_mirror.specs.declared.run.files_job.Order.{Order}
use Rattle.osm_mirror.specs.declared.run.files_job.Order.TheVariants.{Sorted, Any}
use Rattle.osm_mirror.specs.run.FilesRefusal.{verdict_as, verdict_by_end, IsVerdict, IsSoundFile, IsFaultIn, IsFaultOf, IsFaultAmong}
use Rattle.osm_mirror.specs.run.FilesRefusal.{AreRefused, DecidesJob}
use Rattle.osm_mirror.specs.run.FilesRefusal.{IsFaultByRule, IsFaultAmongByRule, AreRefusedByRule, AreSettled, LeavesOpen, AreSound}
use Rattle.osm_mirror.specs.run.FilesRefusal.{HasTaken, HasTakenUpTo, IsOutputFault, IsWriteRefusal, NothingStands, FailsLater, Stands}
use Rattle.osm_mirror.specs.run.FilesRefusal.{IsGood, IsLong, IsCutIfGood, RefusesJobAs, RefusesFilesJob, RefusesAnyOrder}
use Rattle.osm_mirror.specs.run.FilesRefusal.{IsFaultInWays, RefusesTurn}
use Rattle.osm_mirror.specs.declared.run.input.ReadAs.TheVariants.{InOrder}
use Rattle.osm_mirror.specs.run.FilesJob.{HoldsAs, FileFits, FilesFit, IsFilesJob, EndsByRule}
use Rattle.osm_mirror.proofs.run_laws.FilesGoodLaws.{good_at, nothing_cut, good_not_refused}
use Rattle.osm_mirror.proofs.run_laws.FilesJobLaws.{pairwise_length}
use Rattle.osm_mirror.proofs.run_laws.FilesRefusalLaws.{all_at}

-- no order is two orders
two_orders : (order : Order) → order ≡ Sorted → order ≡ Any → ⊥
two_orders order sorted any = (let e : Sorted ≡ Any = sym sorted ∙ any in cc)

-- ---- the output
module _ {O : Type 0} (output : Ghosts O) where
  -- an output that didn't change
  pub stands_itself : (now : O) → NothingStands output now now
  stands_itself now held h = subst (output.holds now) (sym (append-nil held)) h

  module _ (before now : O) (starts : NothingStands output before now) where
    -- What was appended after the start of a turn was appended after that of the job.
    pub appends_since : (after : O) (bytes : List ℕ) → Appends (change_of output now after) bytes
        → Appends (change_of output before after) bytes
    appends_since after bytes appended held h =
        subst (output.holds after) (ap (λ xs. xs ++ bytes) (append-nil held)) (appended (held ++ []) (starts held h))

    pub grows_since : (after : O) → Grows (change_of output now after) → Grows (change_of output before after)
    grows_since after (bytes, appended) = (bytes, appends_since after bytes appended)

    pub taken_since : (after : O) (count : ℕ) → HasTaken (change_of output now after) count → HasTaken (change_of output before after) count
    taken_since after count (bytes, many, appended) = (bytes, many, appends_since after bytes appended)

    -- the length of an output whose content stays
    pub length_since : (count : ℕ) → HasLength (output.holds now) count → HasLength (output.holds before) count
    length_since count long held h = ap length (sym (append-nil held)) ∙ long (held ++ []) (starts held h)

    -- An output that was cut back to its length at the start holds what it held then.
    pub cut_since : (after cut : O) (kept : ℕ) → HasLength (output.holds before) kept → Grows (change_of output now after)
        → IsCutBack (output.holds after) (output.holds cut) kept → NothingStands output before cut
    cut_since after cut kept long grows is held h =
        let grown = appends_since after grows.0 grows.1 held h in
        subst (output.holds cut)
        (ap (λ n. take n (held ++ grows.0)) (sym (long held h)) ∙ take-append_seam held grows.0 ∙ sym (append-nil held))
        (is (held ++ grows.0) grown)

  pub grew_nothing : (now : O) → Grows (change_of output now now)
  grew_nothing now = ([], stands_itself now)

module _ {F R O : Type 0} (bytes : F → Option (List ℕ)) (can : R → InputRest → Type 0) (output : Ghosts O) (job : FilesJob)
    (files : List (JobFile F R)) (before now after : O) (starts : NothingStands output before now) where
  -- What the last turn wrote, the job wrote.
  pub job_since : (counts : Counts) → IsFilesJob bytes can job files (change_of output now after) counts
      → IsFilesJob bytes can job files (change_of output before after) counts
  job_since counts is = record {
    held = is.held;
    accepted = is.accepted;
    written = appends_since output before now starts after _ is.written;
    written_count = is.written_count;
    clashes_count = is.clashes_count;
  }

-- ---- the ways of files
module _ {F R : Type 0} (bytes : F → Option (List ℕ)) where
  sorted_way : (file : JobFile F R) (way : FileWay) → FileFits bytes Sorted file way → way.may_be_split ≡ false
  sorted_way (File f end) way (inl (whole, o, settled), fits) = settled
  sorted_way (File f end) way (inr (inl (any, tried)), fits) = absurd (let e : Sorted ≡ Any = any in cc)
  sorted_way (File f end) way (inr (inr (any, runs)), fits) = absurd (let e : Sorted ≡ Any = any in cc)
  sorted_way (Stream r end) way fits = fits.2

  -- files that must be sorted aren't split
  pub sorted_settled : (files : List (JobFile F R)) (ways : List FileWay) → FilesFit bytes Sorted files ways → AreSettled ways
  sorted_settled [] [] fits = All-nil (λ way. way.may_be_split ≡ false)
  sorted_settled [] (way ∷ ways) fits = absurd fits
  sorted_settled (file ∷ files) [] fits = absurd fits
  sorted_settled (file ∷ files) (way ∷ ways) fits =
      All-cons (λ way. way.may_be_split ≡ false) way ways (sorted_way file way fits.0) (sorted_settled files ways fits.1)

  pub fits_at : (order : Order) (files : List (JobFile F R)) (ways : List FileWay) (k : ℕ) (file : JobFile F R) (way : FileWay)
      → FilesFit bytes order files ways → slice_get files k ≡ Some file → slice_get ways k ≡ Some way → FileFits bytes order file way
  fits_at order [] ways k file way fits e f = absurd (let g : None ≡ Some file = e in cc)
  fits_at order (x ∷ files) [] k file way fits e f = absurd fits
  fits_at order (x ∷ files) (y ∷ ways) zero file way fits e f =
      let same : x ≡ file = (let g : Some x ≡ Some file = e in cc) in
      let also : y ≡ way = (let g : Some y ≡ Some way = f in cc) in
      subst (λ (z : JobFile F R). FileFits bytes order z way) same
      (subst (λ (w : FileWay). FileFits bytes order x w) also fits.0)
  fits_at order (x ∷ files) (y ∷ ways) (suc k) file way fits e f = fits_at order files ways k file way fits.1 e f

-- ---- the ends of files
-- bytes that are accepted have no first fault
pub no_verdict : (order : Order) (all : List ℕ) (held : VersionSet) (fault : Fault) → HoldsAs order all held
    → IsVerdict (verdict_as order all) all fault → ⊥
no_verdict Sorted all held fault h (inl e) =
    let none = sorted_files_are_read all h.versions h.short h.file h.sorted in
    (let f : None ≡ Some (verdict_at fault.place fault.reason) = sym none ∙ e in cc)
no_verdict Sorted all held fault h (inr long) = let short = h.short in let many = long.0 in absurd (omega (arith, short, many))
no_verdict Any all held fault h (inl e) =
    let none = (files_are_read all h.versions h.short h.file).0 in
    (let f : None ≡ Some (verdict_at fault.place fault.reason) = sym none ∙ e in cc)
no_verdict Any all held fault h (inr long) = let short = h.short in let many = long.0 in absurd (omega (arith, short, many))

-- the same for bytes that end as their rule says
pub no_verdict_by_end : (order : Order) (all : List ℕ) (held : VersionSet) (lacks : Bool) (fault : Fault) → lacks ≡ false
    → HoldsAs order all held → IsVerdict (verdict_by_end lacks order all) all fault → ⊥
no_verdict_by_end order all held lacks fault ends h v =
    no_verdict order all held fault h (subst (λ (t : Bool). IsVerdict (verdict_by_end t order all) all fault) ends v)

known_sorted : (known : Option (List ℕ)) (lacks : List ℕ → Bool) (fault : Fault) → IfSome known (λ all. lacks all ≡ false)
    → IfSome known (λ all. IsVerdict (verdict_as Sorted all) all fault)
    → IfSome known (λ all. IsVerdict (verdict_by_end (lacks all) Sorted all) all fault)
known_sorted None lacks fault ends v = tt
known_sorted (Some all) lacks fault ends v = subst (λ (t : Bool). IsVerdict (verdict_by_end t Sorted all) all fault) (sym ends) v

module _ {F R : Type 0} (fails : F → Type 0) (bytes : F → Option (List ℕ)) (can : R → InputRest → Type 0) where
  -- the fault of a sorted file that ends as its rule says
  sorted_by_rule : (file : JobFile F R) (fault : Fault) → EndsByRule bytes file → IsFaultOf fails bytes can Sorted file fault
      → IsFaultByRule fails bytes can Sorted file fault
  sorted_by_rule (File f end) fault ends (inl failed) = inl failed
  sorted_by_rule (File f end) fault ends (inr v) =
      inr (known_sorted (bytes f.now) (lacks_its_end (rule_of_file end)) fault ends v)
  sorted_by_rule (Stream r end) fault ends h = h

  -- a good file that ends as its rule says has no fault
  good_by_rule : (order : Order) (file : JobFile F R) (held : VersionSet) (fault : Fault) → IsGood fails bytes can order file held
      → EndsByRule bytes file → IsFaultByRule fails bytes can order file fault → ⊥
  good_by_rule order (File f end) held fault (never, (all, known, h)) ends (inl failed) = never failed.0
  good_by_rule order (File f end) held fault (never, (all, known, h)) ends (inr v) =
      let lacks : List ℕ → Bool = lacks_its_end (rule_of_file end) in
      no_verdict_by_end order all held (lacks all) fault
      (subst (λ (k : Option (List ℕ)). IfSome k (λ all. lacks all ≡ false)) known ends) h
      (subst (λ (k : Option (List ℕ)). IfSome k (λ all. IsVerdict (verdict_by_end (lacks all) order all) all fault)) known v)
  good_by_rule order (Stream r end) held fault good ends refused =
      good_not_refused fails bytes can order (Stream r end) held fault good refused

  -- Nothing was written for good files if memory ran out.
  pub nothing_by_rule : (job : FilesJob) (files : List (JobFile F R)) (change : Change) (fault : Fault) → Appends change []
      → AreRefusedByRule fails bytes can job.order files fault → All (EndsByRule bytes) files
      → IsCutIfGood fails bytes can job files change fault
  nothing_by_rule job files change fault nothing (inl memory) ended =
      nothing_cut fails bytes can job files change fault nothing (inl memory)
  nothing_by_rule job files change fault nothing (inr (file, at, refused)) ended = λ held good. (
      let one = good_at fails bytes can job.order files held fault.input file good at in
      absurd (good_by_rule job.order file one.0 fault one.1 (all_at (EndsByRule bytes) files fault.input file ended at) refused))

-- ---- why a turn is refused
module _ {F R O : Type 0} (fails : F → Type 0) (bytes : F → Option (List ℕ)) (can : R → InputRest → Type 0) (output : Ghosts O)
    (job : FilesJob) (files : List (JobFile F R)) (ways : List FileWay) (now after : O) (fault : Fault) where
  -- why a turn that decides the job is refused
  abbrev pub TurnWhy : Type 0
  TurnWhy = (fault ≡ memory_fault)
      ⊎ (IsFaultAmong fails bytes can job.order files fault
      × IsFaultInWays fails bytes can job.order files ways (after ≡ now) fault)
      ⊎ IsOutputFault (length files) (change_of output now after) (IsLong fails bytes can job files) fault

module _ {F R O : Type 0} (fails : F → Type 0) (bytes : F → Option (List ℕ)) (can : R → InputRest → Type 0) (output : Ghosts O)
    (job : FilesJob) (files : List (JobFile F R)) (ways : List FileWay) (now after : O) (fault : Fault)
    (refused : RefusesTurn fails bytes can output job files ways now after fault) where
  abbrev Long : Type 0
  Long = IsLong fails bytes can job files

  abbrev Why : Type 0
  Why = TurnWhy fails bytes can output job files ways now after fault

  among : (LeavesOpen ways fault → ⊥) → IsFaultInWays fails bytes can job.order files ways (after ≡ now) fault
      → IsFaultAmong fails bytes can job.order files fault
  among closed f = ⊎_elim (λ found. (f.file, f.file_is, found))
      (λ unsorted. absurd (closed (inl (unsorted.1, (f.way, f.way_is, unsorted.0))))) f.fault_is

  of_output : (fault ≡ too_long_fault (length files) → (AreSettled ways → Long) → Long)
      → IsOutputFault (length files) (change_of output now after) (AreSettled ways → Long) fault
      → IsOutputFault (length files) (change_of output now after) Long fault
  of_output long (inl write) = inl write
  of_output long (inr (is, settled_long)) = inr (is, long is settled_long)

  decided : (IsFaultInWays fails bytes can job.order files ways (after ≡ now) fault → IsFaultAmong fails bytes can job.order files fault)
      → (fault ≡ too_long_fault (length files) → (AreSettled ways → Long) → Long) → Why
  decided found long = elim refused.why [
    | inl memory ↦ inl memory
    | inr (inl f) ↦ inr (inl (found f, f))
    | inr (inr out) ↦ inr (inr (of_output long out))
  ]

  -- a turn that leaves nothing open
  closed_why : FilesFit bytes job.order files ways → (LeavesOpen ways fault → ⊥) → Why
  closed_why fits closed =
      decided (among closed)
      (λ is long. absurd (closed (inr (
        ap (λ f. f.reason) is,
        ap (λ f. f.input) is ∙ pairwise_length (FileFits bytes job.order) files ways fits,
      ))))

  -- a turn in which no file may be split
  settled_why : AreSettled ways → Why
  settled_why settled =
      decided
      (λ f. ⊎_elim (λ found. (f.file, f.file_is, found))
      (λ unsorted. absurd (false≢true
      (sym (all_at (λ way. way.may_be_split ≡ false) ways fault.input f.way settled f.way_is) ∙ unsorted.0))) f.fault_is)
      (λ is long. long settled)

  -- A turn that decides the job is refused as the job is.
  pub decided_why : FilesFit bytes job.order files ways → DecidesJob ways fault → Why
  decided_why fits (inl settled) = settled_why settled
  decided_why fits (inr closed) = closed_why fits closed

-- ---- why the job is refused
-- the bytes of a file that is accepted and isn't accepted aren't known
unknown_if : (known : Option (List ℕ)) (end : EndRule) → IsSoundFile known Any end → IfSome known (λ all. IsAccepted all → ⊥) → known ≡ None
unknown_if None end sound never = refl
unknown_if (Some all) end sound never = absurd (never sound.0)

module _ {F R O : Type 0} (fails : F → Type 0) (bytes : F → Option (List ℕ)) (can : R → InputRest → Type 0) (output : Ghosts O)
    (job : FilesJob) (files : List (JobFile F R)) (before : O) where
  -- A job that is refused before it begins wrote nothing.
  pub refused_first : (can_cut : Bool) (fault : Fault) → AreRefusedByRule fails bytes can job.order files fault
      → RefusesFilesJob fails bytes can output can_cut job files before before fault
  refused_first can_cut fault refused = record {
    why = ⊎_elim (λ memory. inl memory) (λ found. inr (inl found)) refused;
    cut = λ which ended. nothing_by_rule fails bytes can job files (change_of output before before) fault
        (stands_itself output before) refused ended;
    stands = λ any. record {
      cut_back = λ may. inl (stands_itself output before);
      unwritten = λ cannot other file at. inl (stands_itself output before);
    };
  }

  output_refused : (can_cut : Bool) (after : O) (fault : Fault)
      → IsOutputFault (length files) (change_of output before after) (IsLong fails bytes can job files) fault
      → IsWriteRefusal output can_cut (length files) before after fault
      ⊎ ((fault ≡ too_long_fault (length files)) × IsLong fails bytes can job files)
  output_refused can_cut after fault (inl (at, write, failed, taken)) = inl (at, write, failed, inl (inl taken))
  output_refused can_cut after fault (inr long) = inr long

  -- A job over sorted files has one turn.
  pub sorted_refused : (can_cut : Bool) (ways : List FileWay) (after : O) (fault : Fault) → job.order ≡ Sorted
      → FilesFit bytes job.order files ways → All (EndsByRule bytes) files
      → RefusesTurn fails bytes can output job files ways before after fault
      → RefusesFilesJob fails bytes can output can_cut job files before after fault
  sorted_refused can_cut ways after fault sorted fits ended refused =
      let settled = sorted_settled bytes files ways (subst (λ (o : Order). FilesFit bytes o files ways) sorted fits) in
      record {
        why = elim (settled_why fails bytes can output job files ways before after fault refused settled) [
          | inl memory ↦ inl memory
          | inr (inl ((file, at, found), f)) ↦ inr (inl (
            file,
            at,
            subst (λ (o : Order). IsFaultByRule fails bytes can o file fault) (sym sorted)
                (sorted_by_rule fails bytes can file fault (all_at (EndsByRule bytes) files fault.input file ended at)
                (subst (λ (o : Order). IsFaultOf fails bytes can o file fault) sorted found)),
          ))
          | inr (inr out) ↦ inr (inr (output_refused can_cut after fault out))
        ];
        cut = λ which ends. refused.cut settled;
        stands = λ any. absurd (two_orders job.order sorted any);
      }

  module _ (any : job.order ≡ Any) where
    as_any : (fault : Fault) → IsFaultAmong fails bytes can job.order files fault → IsFaultAmong fails bytes can Any files fault
    as_any fault found = subst (λ (o : Order). IsFaultAmong fails bytes can o files fault) any found

    -- ---- an output that can be cut back
    abbrev Refuses : Bool → O → Fault → Type 0
    Refuses can_cut after fault = RefusesAnyOrder fails bytes can output can_cut job files before after fault

    no_cut : {P : Type 0} → (job.order ≡ Sorted) ⊎ (true ≡ false) → P
    no_cut (inl sorted) = absurd (two_orders job.order sorted any)
    no_cut (inr cannot) = absurd (false≢true (sym cannot))

    -- A file is refused when nothing of what was written is left.
    pub file_refused : (now : O) (fault : Fault) → NothingStands output before now → AreRefused fails bytes can Any files fault
        → Refuses true now fault
    file_refused now fault starts refused = record {
      why = ⊎_elim (λ memory. inl memory) (λ found. inr (inl found)) refused;
      cut = λ which. no_cut which;
      stands = λ is. record {
        cut_back = λ may. inl starts;
        unwritten = λ cannot. absurd (false≢true (sym cannot));
      };
    }

    -- The output can't be cut back.
    pub uncut_refused : (now : O) (fault : Fault) → fault ≡ write_fault (length files) 0 → output.failed now ≡ true
        → Refuses true now fault
    uncut_refused now fault is failed = record {
      why = inr (inr (inl (ap (λ f. f.input) is, ap (λ f. f.reason) is, failed, inr (refl, ap (λ f. f.place) is))));
      cut = λ which. no_cut which;
      stands = λ o. record {
        cut_back = λ may. inr is;
        unwritten = λ cannot. absurd (false≢true (sym cannot));
      };
    }

    taken_up_to : (now after : O) (count : ℕ) → NothingStands output before now
        → HasTakenUpTo output true now after count ⊎ ((true ≡ true) × (count ≡ 0))
        → HasTakenUpTo output true before after count ⊎ ((true ≡ true) × (count ≡ 0))
    taken_up_to now after count starts (inl (inl taken)) = inl (inl (taken_since output before now starts after count taken))
    taken_up_to now after count starts (inl (inr (may, (full, failed, taken, cut)))) =
        inl (inr (may, (full, failed, taken_since output before now starts full count taken, cut)))
    taken_up_to now after count starts (inr at_first) = inr at_first

    module _ (now after cut : O) (kept : ℕ) (starts : NothingStands output before now) (long : HasLength (output.holds before) kept)
        (grows : Grows (change_of output now after)) (is : IsCutBack (output.holds after) (output.holds cut) kept)
        (lasts : output.failed cut ≡ output.failed after) where
      write_undone : (fault : Fault)
          → IsOutputFault (length files) (change_of output now after) (IsLong fails bytes can job files) fault
          → IsWriteRefusal output true (length files) before cut fault
          ⊎ ((fault ≡ too_long_fault (length files)) × IsLong fails bytes can job files)
      write_undone fault (inl (at, write, failed, taken)) = inl (
        at,
        write,
        lasts ∙ failed,
        inl (inr (refl, (after, failed, taken_since output before now starts after fault.place taken, (kept, is)))),
      )
      write_undone fault (inr too_long) = inr too_long

      -- A turn that decides the job was undone.
      pub turn_undone : (ways : List FileWay) (fault : Fault) → TurnWhy fails bytes can output job files ways now after fault
          → Refuses true cut fault
      turn_undone ways fault why = record {
        why = elim why [
          | inl memory ↦ inl memory
          | inr (inl (found, f)) ↦ inr (inl (as_any fault found))
          | inr (inr out) ↦ inr (inr (write_undone fault out))
        ];
        cut = λ which. no_cut which;
        stands = λ o. record {
          cut_back = λ may. inl (cut_since output before now starts after cut kept long grows is);
          unwritten = λ cannot. absurd (false≢true (sym cannot));
        };
      }

    -- A turn that is refused after one that was undone.
    pub refused_since : (now after : O) (fault : Fault) → NothingStands output before now
        → RefusesAnyOrder fails bytes can output true job files now after fault → Refuses true after fault
    refused_since now after fault starts r = record {
      why = elim r.why [
        | inl memory ↦ inl memory
        | inr (inl found) ↦ inr (inl found)
        | inr (inr (inl write)) ↦ inr (inr (inl (write.0, write.1, write.2, taken_up_to now after fault.place starts write.3)))
        | inr (inr (inr long)) ↦ inr (inr (inr long))
      ];
      cut = λ which. no_cut which;
      stands = λ o. record {
        cut_back = λ may. ⊎_elim (λ nothing. inl (appends_since output before now starts after [] nothing)) (λ write. inr write)
            ((r.stands o).cut_back may);
        unwritten = λ cannot. absurd (false≢true (sym cannot));
      };
    }

    -- ---- an output that can't be cut back
    -- A file of which each unit was read before, and that is read in order, has no fault but that of a later read.
    later : (file : JobFile F R) (way : FileWay) (fault : Fault) → AreSound bytes file → FileFits bytes Any file way
        → way.read_as ≡ InOrder Sorted
        → IsFaultOf fails bytes can Any file fault → FailsLater fails bytes can file fault
    later (File f end) way fault sound fits sorted (inl failed) = inl failed
    later (File f end) way fault sound fits sorted (inr never) = inr (unknown_if (bytes f.now) end sound never)
    later (Stream r end) way fault sound fits sorted found = absurd (let e : InOrder Sorted ≡ InOrder Any = sym sorted ∙ fits.1 in cc)

    no_file : (fault : Fault) (file : JobFile F R) → fault.input ≡ length files → slice_get files fault.input ≡ Some file → ⊥
    no_file fault file is at =
        let none : slice_get files fault.input ≡ None = slice_get_past files fault.input (omega (arith, is)) in
        (let e : None ≡ Some file = sym none ∙ at in cc)

    unwritten_in : (ways : List FileWay) (after : O) (fault : Fault) (file : JobFile F R) → FilesFit bytes Any files ways
        → All (AreSound bytes) files → slice_get files fault.input ≡ Some file
        → IsFaultAmong fails bytes can job.order files fault → IsFaultInWays fails bytes can job.order files ways (after ≡ before) fault
        → NothingStands output before after ⊎ FailsLater fails bytes can file fault
    unwritten_in ways after fault file fits sound at (other, at_other, found) f = elim f.unwritten [
      | inl sorted ↦ (
          let same : other ≡ file = (let e : Some other ≡ Some file = sym at_other ∙ at in cc) in
          let here : f.file ≡ file = (let e : Some f.file ≡ Some file = sym f.file_is ∙ at in cc) in
          inr (later file f.way fault (all_at (AreSound bytes) files fault.input file sound at)
          (fits_at bytes Any files ways fault.input file f.way fits at f.way_is) sorted
          (subst (λ (o : Order). IsFaultOf fails bytes can o file fault) any
          (subst (λ (x : JobFile F R). IsFaultOf fails bytes can job.order x fault) same found))))
      | inr same ↦ inl (subst (NothingStands output before) (sym same) (stands_itself output before))
    ]

    -- A job that has one turn, in which no file may be split.
    pub once_refused : (ways : List FileWay) (after : O) (fault : Fault) → FilesFit bytes Any files ways → AreSettled ways
        → All (AreSound bytes) files → RefusesTurn fails bytes can output job files ways before after fault
        → Refuses false after fault
    once_refused ways after fault fits settled sound refused =
        let decided = settled_why fails bytes can output job files ways before after fault refused settled in
        record {
          why = elim decided [
            | inl memory ↦ inl memory
            | inr (inl (found, f)) ↦ inr (inl (as_any fault found))
            | inr (inr out) ↦ inr (inr (output_refused false after fault out))
          ];
          cut = λ which ended. refused.cut settled;
          stands = λ o. record {
            cut_back = λ may. absurd (false≢true may);
            unwritten = λ cannot other file at. elim decided [
              | inl memory ↦ absurd (other memory)
              | inr (inl (found, f)) ↦ unwritten_in ways after fault file fits sound at found f
              | inr (inr (inl write)) ↦ absurd (no_file fault file write.0 at)
              | inr (inr (inr long)) ↦ absurd (no_file fault file (ap (λ f. f.input) long.0) at)
            ];
          };
        }

    -- A file is refused before anything is written.
    pub before_refused : (fault : Fault) → AreRefused fails bytes can Any files fault → Refuses false before fault
    before_refused fault refused = record {
      why = ⊎_elim (λ memory. inl memory) (λ found. inr (inl found)) refused;
      cut = λ which ended. nothing_cut fails bytes can job files (change_of output before before) fault (stands_itself output before)
          (subst (λ (o : Order). AreRefused fails bytes can o files fault) (sym any) refused);
      stands = λ o. record {
        cut_back = λ may. absurd (false≢true may);
        unwritten = λ cannot other file at. inl (stands_itself output before);
      };
    }
