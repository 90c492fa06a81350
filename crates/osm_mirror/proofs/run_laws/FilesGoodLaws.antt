-- Jobs over good files: they are refused for memory or the output only, and write a front of their file.
use Rattle.std.proofs.Common.{◌≡◌, ◌⊎◌, inl, inr, ⊎_elim, ℕ, zero, suc, ◌+◌, ◌-◌, ◌<◌, ◌^◌, Bool, false, List, [], ◌∷◌, ◌++◌}
use Rattle.std.proofs.Common.{length, map, Option, Some, None, IfSome, slice_get, refl, sym, ap, ◌∙◌, subst, arith}
use Rattle.std.specs.List.{All}
use Rattle.std.proofs.lemmas.Bool.{false≢true}
use Rattle.std.proofs.lemmas.List.Elements.{All-head, All-tail}
use Rattle.osm_model.specs.Order.{version_cmp}
use Rattle.osm_model.specs.VersionSet.{VersionSet}
use Rattle.osm_model.specs.Sets.{from_list}
use Rattle.osm_model.specs.Pairwise.{Pairwise}
use Rattle.osm_files.specs.EndRule.{by_rule}
use Rattle.osm_files.specs.declared.fault.Fault.{Fault}
use Rattle.osm_files.specs.declared.output.Output.{Ghosts}
use Rattle.osm_files.specs.declared.sorted_run.SortedRun.{SortedRun}
use Rattle.osm_files.specs.Change.{change_of}
use Rattle.osm_files.specs.Extent.{RunCanGive}
use Rattle.osm_files.specs.Fault.{fault_at, memory_fault, too_long_fault}
use Rattle.osm_files.specs.FileRuns.{IsSortedRun}
use Rattle.osm_files.specs.Held.{Holds}
use Rattle.osm_files.specs.Input.{InputRest}
use Rattle.osm_files.specs.Output.{Change, Appends}
use Rattle.osm_files.specs.Sink.{CutShort}
use Rattle.osm_files.specs.Stream.{verdict_at}
use Rattle.osm_files.specs.SortedRun.{run_bytes, whole_run}
use Rattle.osm_files.specs.Spell.{spell}
use Rattle.osm_files.proofs.FailureLaws.{never_failed}
use Rattle.osm_files.proofs.FileLaws.{one_list, sorted_files_are_read}
use Rattle.osm_files.proofs.RunBytes.{run_given}
use Rattle.osm_files.proofs.RunOrderLaws.{broken_fails}
use Rattle.osm_files.proofs.SplitLaws.{whole_file}
use Rattle.osm_merge.specs.Giving.{AllGive, SomeInputsGive}
use Rattle.osm_merge.specs.Selected.{selection_of}
use Rattle.osm_merge.proofs.UnionLaws.{nothing_appended}
use Rattle.osm_mirror.specs.declared.run.file_way.FileWay.{FileWay}
use Rattle.osm_mirror.specs.declared.run.files_job.FilesJob.{FilesJob}
use Rattle.osm_mirror.specs.declared.run.files_job.JobFile.{JobFile}
use Rattle.osm_mirror.specs.declared.run.files_job.JobFile.TheVariants.{File, Stream}
use Rattle.osm_mirror.specs.declared.run.files_job.Order.{Order}
use Rattle.osm_mirror.specs.declared.run.files_job.Order.TheVariants.{Sorted, Any}
use Rattle.osm_mirror.specs.declared.run.input.InputFile.{InputFile}
use Rattle.osm_mirror.specs.declared.run.input.ReadAs.{ReadAs}
use Rattle.osm_mirror.specs.declared.run.input.ReadAs.TheVariants.{InOrder}
use Rattle.osm_mirror.specs.run.FilesRefusal.{AreSettled, IsFaultIn, IsFaultOf, IsFaultAmong, AreRefused, IsGood, IsCutIfGood, IsLong}
use Rattle.osm_mirror.specs.run.FilesRefusal.{IsOutputFault}
use Rattle.osm_mirror.specs.run.FilesRefusal.{IsFaultInWays, RefusesTurn}
use Rattle.osm_mirror.specs.run.FilesJob.{HoldsAs, IsWayOf, FitsBytes, FileFits, FilesFit, OpensRun, OpensFile}
use Rattle.osm_mirror.specs.run.FilesJob.{OpensFiles, fault_in_files}
use Rattle.osm_mirror.specs.run.Given.{InputFileCanGive, GivesAs, IsFileAs}
use Rattle.osm_mirror.specs.run.Job.{union_of}
use Rattle.osm_mirror.specs.run.SelectedJob.{RefusesJob, IsJobRefused}
use Rattle.osm_mirror.specs.run.SortedRuns.{SortedRunsHoldTheFile}
use Rattle.osm_mirror.specs.run.WaysJob.{RefusesInWays}
use Rattle.osm_mirror.proofs.run_laws.FilesRefusalLaws.{fault_found, output_found, memory_found}
use Rattle.osm_mirror.proofs.run_laws.InputRefusalLaws.{SomeRefused, AnyWay, Streamed, refused_at, unread_refused}
use Rattle.osm_mirror.proofs.run_laws.OutputFaultLaws.{cut_moved, cut_why, long_of}
use Rattle.osm_mirror.proofs.run_laws.FilesRefusalLaws.{Found}
use Rattle.osm_mirror.proofs.run_laws.FilesRefusalLaws.{stream_gave}
use Rattle.osm_mirror.proofs.run_laws.FilesJobLaws.{cut, as_pairs, as_given, as_any, plain_given}
use Rattle.osm_mirror.proofs.run_laws.SourceLaws as source_laws
use Rattle.osm_mirror.proofs.run_laws.UnionOfLaws.{union_of_one, union_of_front}

-- ---- one input
-- an input that gives the bytes of a file of this order is that file
as_input : (order : Order) (c : InputRest) (held : VersionSet) → c.failure ≡ None → HoldsAs order c.bytes held
    → IsFileAs (InOrder order, c) held
as_input Sorted c held unbroken h = record { unbroken = unbroken; file = h }
as_input Any c held unbroken h = record { unbroken = unbroken; file = h }

given_as_file : (order : Order) (c : InputRest) (held : VersionSet) → GivesAs (InOrder order, c) held
    → IsFileAs (InOrder order, c) held
given_as_file Sorted c held h = h
given_as_file Any c held h = h

-- a file holds one set
one_set : (bytes : List ℕ) (s t : VersionSet) → Holds bytes s → Holds bytes t → s ≡ t
one_set bytes s t a b =
    a.members ∙ ap (from_list {R = version_cmp}) (one_list bytes a.versions b.versions a.file b.file) ∙ sym b.members

pairwise_both : {X Y : Type 0} (P : X → Y → Type 0) (xs more : List X) (ys others : List Y) → Pairwise P xs ys → Pairwise P more others
    → Pairwise P (xs ++ more) (ys ++ others)
pairwise_both P [] more [] others a b = b
pairwise_both P [] more (y ∷ ys) others a b = absurd a
pairwise_both P (x ∷ xs) more [] others a b = absurd a
pairwise_both P (x ∷ xs) more (y ∷ ys) others a b = (a.0, pairwise_both P xs more ys others a.1 b)

-- the inputs of a file are files that hold these sets
pub record Accepted (given : List (ReadAs × InputRest)) (held : VersionSet) : Type 0 where
  pub sets : List VersionSet
  pub files : Pairwise IsFileAs given sets
  pub union : union_of sets ≡ held

one_input : (order : Order) (c : InputRest) (held : VersionSet) (given : List (ReadAs × InputRest)) → given ≡ (InOrder order, c) ∷ []
    → IsFileAs (InOrder order, c) held → Accepted given held
one_input order c held given is file = record {
  sets = held ∷ [];
  files = subst (λ (xs : List (ReadAs × InputRest)). Pairwise IsFileAs xs (held ∷ [])) (sym is) (file, tt);
  union = union_of_one held;
}

-- ---- the inputs of a good file
module _ {I : Type 0} (gives : I → InputRest → Type 0) (Fails : Type 0) (never : Fails → ⊥) (all : List ℕ) (size : ℕ)
    (long : length all ≡ size) where
  abbrev Opens : Order → InputFile I → SortedRun → Type 0
  Opens order = OpensRun gives Fails (Some all) size (InOrder order)

  run_unbroken : (run : SortedRun) (c : InputRest) → RunCanGive Fails (Some all) run size c → c.failure ≡ None
  run_unbroken run c gave = never_failed c.failure (λ reason failed. never (broken_fails Fails all run size c long gave reason failed).0)

  run_is_file : (order : Order) (run : SortedRun) (c : InputRest) (held : VersionSet) → RunCanGive Fails (Some all) run size c
      → HoldsAs order (run_bytes run all) held → IsFileAs (InOrder order, c) held
  run_is_file order run c held gave h =
      let unbroken = run_unbroken run c gave in
      as_input order c held unbroken (subst (λ (bytes : List ℕ). HoldsAs order bytes held) (sym (run_given Fails all run size c long gave
      unbroken)) h)

  -- a whole file as one input
  whole_accepted : (order : Order) (held : VersionSet) (inputs : List (InputFile I)) (given : List (ReadAs × InputRest))
      → length all < 2 ^ 64 → HoldsAs order all held → Pairwise (Opens order) inputs (whole_run ∷ [])
      → AllGive (InputFileCanGive gives) inputs given
      → Accepted given held
  whole_accepted order held [] given short h opens g = absurd opens
  whole_accepted order held (i ∷ j ∷ inputs) given short h opens g = absurd opens.1
  whole_accepted order held (i ∷ []) [] short h opens g = absurd g
  whole_accepted order held (i ∷ []) (x ∷ y ∷ given) short h opens g = absurd g.1
  whole_accepted order held (i ∷ []) ((how, c) ∷ []) short h opens g =
      one_input order c held ((how, c) ∷ []) (ap (λ (x : ReadAs). (x, c) ∷ []) (sym g.0.0 ∙ opens.0.read_as_is))
      (run_is_file order whole_run c held (opens.0.gives_run c (plain_given gives i how c opens.0.end_is g.0))
      (subst (λ (bytes : List ℕ). HoldsAs order bytes held) (sym (whole_file all short)) h))

  -- the runs of a file, each a sorted file
  pub record AcceptedRuns (runs : List SortedRun) (given : List (ReadAs × InputRest)) : Type 0 where
    pub sets : List VersionSet
    pub files : Pairwise IsFileAs given sets
    pub hold : Pairwise Holds (map (λ run. run_bytes run all) runs) sets

  runs_accepted : (inputs : List (InputFile I)) (runs : List SortedRun) (given : List (ReadAs × InputRest))
      → All (IsSortedRun all) runs → Pairwise (Opens Sorted) inputs runs → AllGive (InputFileCanGive gives) inputs given
      → AcceptedRuns runs given
  runs_accepted [] [] [] sorted opens g = record { sets = []; files = tt; hold = tt }
  runs_accepted [] [] (x ∷ given) sorted opens g = absurd g
  runs_accepted [] (run ∷ runs) given sorted opens g = absurd opens
  runs_accepted (i ∷ inputs) [] given sorted opens g = absurd opens
  runs_accepted (i ∷ inputs) (run ∷ runs) [] sorted opens g = absurd g
  runs_accepted (i ∷ inputs) (run ∷ runs) ((how, c) ∷ given) sorted opens g =
      let one = All-head (IsSortedRun all) run runs sorted in
      let more = runs_accepted inputs runs given (All-tail (IsSortedRun all) run runs sorted) opens.1 g.1 in
      record {
        sets = one.0 ∷ more.sets;
        files = (
          subst (λ (h : ReadAs). IsFileAs (h, c) one.0) (sym (sym g.0.0 ∙ opens.0.read_as_is))
              (run_is_file Sorted run c one.0 (opens.0.gives_run c (plain_given gives i how c opens.0.end_is g.0)) one.1),
          more.files,
        );
        hold = (as_any Sorted (run_bytes run all) one.0 one.1, more.hold);
      }

module _ {F R I : Type 0} (fails : F → Type 0) (bytes : F → Option (List ℕ)) (can : R → InputRest → Type 0)
    (gives : I → InputRest → Type 0) (order : Order) (law : SortedRunsHoldTheFile) where
  known_accepted : (Fails : Type 0) (way : FileWay) (inputs : List (InputFile I)) (given : List (ReadAs × InputRest)) (held : VersionSet)
      (all : List ℕ) → (Fails → ⊥) → HoldsAs order all held → way.may_be_split ≡ false → IsWayOf order (Some all) way
      → FitsBytes (Some all) way → Pairwise (OpensRun gives Fails (Some all) way.size way.read_as) inputs way.runs.items
      → AllGive (InputFileCanGive gives) inputs given → Accepted given held
  known_accepted Fails way inputs given held all never h settled (inl (whole, o, same)) (short, (long, split)) opens g =
      whole_accepted gives Fails never all way.size long order held inputs given (omega (arith, short, long)) h
      (subst (λ (x : ReadAs). Pairwise (OpensRun gives Fails (Some all) way.size x) inputs (whole_run ∷ [])) o
      (subst (Pairwise (OpensRun gives Fails (Some all) way.size way.read_as) inputs) whole opens)) g
  known_accepted Fails way inputs given held all never h settled (inr (inl (any, (whole, o, may)))) fits opens g =
      absurd (false≢true (sym settled ∙ may))
  known_accepted Fails way inputs given held all never h settled (inr (inr (any, (o, same, runs)))) (short, (long, split)) opens g =
      let holds : Holds all held = as_any order all held h in
      let accepted = runs_accepted gives Fails never all way.size long inputs way.runs.items given (runs (held, holds))
      (subst (λ (x : ReadAs). Pairwise (OpensRun gives Fails (Some all) way.size x) inputs way.runs.items) o opens) g in
      record {
        sets = accepted.sets;
        files = accepted.files;
        union = one_set all (union_of accepted.sets) held
            (law all (map (λ run. run_bytes run all) way.runs.items) accepted.sets (omega (arith, short, long)) split accepted.hold) holds;
      }

  file_accepted : (file : JobFile F R) (way : FileWay) (inputs : List (InputFile I)) (given : List (ReadAs × InputRest)) (held :
      VersionSet)
      → IsGood fails bytes can order file held → way.may_be_split ≡ false → FileFits bytes order file way
      → OpensFile fails bytes can gives file way inputs → AllGive (InputFileCanGive gives) inputs given → Accepted given held
  file_accepted (File f end) way inputs given held (never, (all, known, h)) settled fits opens g =
      known_accepted (fails f.now) way inputs given held all never h settled
      (subst (λ (k : Option (List ℕ)). IsWayOf order k way) known fits.0)
      (subst (λ (k : Option (List ℕ)). FitsBytes k way) known fits.1)
      (subst (λ (k : Option (List ℕ)). Pairwise (OpensRun gives (fails f.now) k way.size way.read_as) inputs way.runs.items) known opens) g
  file_accepted (Stream r end) way inputs given held good settled fits opens g =
      let gave = stream_gave fails bytes can gives order r end way inputs given fits opens g in
      one_input order (by_rule end gave.c) held given gave.only (given_as_file order (by_rule end gave.c) held (good gave.c gave.gave))

  -- The inputs of good files are files that hold the files' sets.
  pub files_accepted : (files : List (JobFile F R)) (ways : List FileWay) (inputs : List (InputFile I)) (given : List (ReadAs × InputRest))
      (held : List VersionSet) → Pairwise (IsGood fails bytes can order) files held → AreSettled ways → FilesFit bytes order files ways
      → OpensFiles fails bytes can gives files ways inputs → AllGive (InputFileCanGive gives) inputs given → Accepted given (union_of held)
  files_accepted [] ways [] [] [] good settled fits opens g = record { sets = []; files = tt; union = refl }
  files_accepted [] ways [] [] (s ∷ held) good settled fits opens g = absurd good
  files_accepted [] ways [] (x ∷ given) held good settled fits opens g = absurd g
  files_accepted [] ways (i ∷ inputs) given held good settled fits opens g = absurd (let e : i ∷ inputs ≡ [] = opens in cc)
  files_accepted (file ∷ files) [] inputs given held good settled fits opens g = absurd opens
  files_accepted (file ∷ files) (way ∷ ways) inputs given [] good settled fits opens g = absurd good
  files_accepted (file ∷ files) (way ∷ ways) inputs given (s ∷ held) good settled fits (added, others, is, one, more) g =
      let c = cut (InputFileCanGive gives) added others given
      (as_pairs (InputFileCanGive gives) (added ++ others) given
      (subst (λ (xs : List (InputFile I)). AllGive (InputFileCanGive gives) xs given) is g))
      in
      let Settled : FileWay → Type 0 = λ way. way.may_be_split ≡ false in
      let a = file_accepted file way added c.before s good.0 (All-head Settled way ways settled) fits.0 one
      (as_given (InputFileCanGive gives) added c.before c.first) in
      let b = files_accepted files ways others c.after held good.1 (All-tail Settled way ways settled) fits.1 more
      (as_given (InputFileCanGive gives) others c.after c.second) in
      record {
        sets = a.sets ++ b.sets;
        files = subst (λ (xs : List (ReadAs × InputRest)). Pairwise IsFileAs xs (a.sets ++ b.sets)) (sym c.joined)
            (pairwise_both IsFileAs c.before c.after a.sets b.sets a.files b.files);
        union = union_of_front a.sets b.sets held b.union ∙ ap (λ (t : VersionSet). union_of (t ∷ held)) a.union;
      }

-- ---- good files are never refused
module _ {F R : Type 0} (fails : F → Type 0) (bytes : F → Option (List ℕ)) (can : R → InputRest → Type 0) where
  bytes_not_refused : (order : Order) (Fails : Type 0) (all : List ℕ) (held : VersionSet) (fault : Fault) → (Fails → ⊥)
      → HoldsAs order all held → IsFaultIn order Fails (Some all) fault → ⊥
  bytes_not_refused Sorted Fails all held fault never h (inl failed) = never failed.0
  bytes_not_refused Sorted Fails all held fault never h (inr (inl e)) =
      let none = sorted_files_are_read all h.versions h.short h.file h.sorted in
      (let f : None ≡ Some (verdict_at fault.place fault.reason) = sym none ∙ e in cc)
  bytes_not_refused Sorted Fails all held fault never h (inr (inr long)) =
      let short = h.short in let many = long.0 in absurd (omega (arith, short, many))
  bytes_not_refused Any Fails all held fault never h (inl failed) = never failed.0
  bytes_not_refused Any Fails all held fault never h (inr refused) = refused (held, h)

  pub good_not_refused : (order : Order) (file : JobFile F R) (held : VersionSet) (fault : Fault) → IsGood fails bytes can order file held
      → IsFaultOf fails bytes can order file fault → ⊥
  good_not_refused order (File f end) held fault (never, (all, known, h)) refused =
      bytes_not_refused order (fails f.now) all held fault never h
      (subst (λ (k : Option (List ℕ)). IsFaultIn order (fails f.now) k fault) known refused)
  good_not_refused order (Stream r end) held fault good (c, gave, (input, e)) =
      let whole = source_laws.as_given input (InOrder order, by_rule end c) held
      (given_as_file order (by_rule end c) held (good c gave)) in
      (let f : None ≡ Some (record fault { input = input }) = sym whole.0 ∙ e in cc)

  pub good_at : (order : Order) (files : List (JobFile F R)) (held : List VersionSet) (k : ℕ) (file : JobFile F R)
      → Pairwise (IsGood fails bytes can order) files held → slice_get files k ≡ Some file
      → (s : VersionSet) × IsGood fails bytes can order file s
  good_at order [] held k file good e = absurd (let f : None ≡ Some file = e in cc)
  good_at order (x ∷ files) [] k file good e = absurd good
  good_at order (x ∷ files) (s ∷ held) zero file good e =
      let same : x ≡ file = (let f : Some x ≡ Some file = e in cc) in
      (s, subst (λ (y : JobFile F R). IsGood fails bytes can order y s) same good.0)
  good_at order (x ∷ files) (s ∷ held) (suc k) file good e = good_at order files held k file good.1 e

  pub none_refused : (order : Order) (files : List (JobFile F R)) (held : List VersionSet) (fault : Fault)
      → Pairwise (IsGood fails bytes can order) files held → IsFaultAmong fails bytes can order files fault → ⊥
  none_refused order files held fault good (file, at, refused) =
      let one = good_at order files held fault.input file good at in good_not_refused order file one.0 fault one.1 refused

  -- Nothing was written for good files if memory ran out.
  pub nothing_cut : (job : FilesJob) (files : List (JobFile F R)) (change : Change) (fault : Fault) → Appends change []
      → AreRefused fails bytes can job.order files fault → IsCutIfGood fails bytes can job files change fault
  nothing_cut job files change fault nothing (inl memory) held good = record {
    count = 0;
    within = omega arith;
    appended = nothing;
    why =
        inl memory;
  }
  nothing_cut job files change fault nothing (inr refused) held good = absurd (none_refused job.order files held fault good refused)

-- ---- one turn
-- an input of a file that isn't read to its end first is read in order
streamed_order : {P : Type 0} (o : Order) → Streamed (InOrder o) → (o ≡ Sorted) ⊎ P
streamed_order Sorted streamed = inl refl
streamed_order Any streamed = absurd (streamed refl)

module _ {F R I O : Type 0} (fails : F → Type 0) (bytes : F → Option (List ℕ)) (can : R → InputRest → Type 0)
    (gives : I → InputRest → Type 0) (output : Ghosts O) (job : FilesJob) (files : List (JobFile F R)) (ways : List FileWay)
    (inputs : List (InputFile I)) (fits : FilesFit bytes job.order files ways) (opens : OpensFiles fails bytes can gives files ways inputs)
    (before after : O) (fault : Fault) (small : fault.place < 2 ^ 64) where
  -- the fault of the inputs as the fault of the files
  abbrev Moved : Fault
  Moved = fault_in_files 0 ways fault.input fault

  module _ (given : List (ReadAs × InputRest)) (g : AllGive (InputFileCanGive gives) inputs given) where
    module _ (Ways : ReadAs → Type 0) (Unwritten : Type 0)
        (before_all : (o : Order) → Ways (InOrder o) → (o ≡ Sorted) ⊎ Unwritten) where
      in_ways : Found fails bytes can gives job.order Ways 0 files ways Moved
          → IsFaultInWays fails bytes can job.order files ways Unwritten Moved
      in_ways f =
          let index : f.k ≡ Moved.input = sym (f.input_is ∙ (let same : 0 + f.k ≡ f.k = omega arith in same)) in record {
            file = f.file;
            way = f.way;
            file_is = subst (λ (k : ℕ). slice_get files k ≡ Some f.file) index f.file_is;
            way_is = subst (λ (k : ℕ). slice_get ways k ≡ Some f.way) index f.way_is;
            fault_is = f.fault_is;
            unwritten = ⊎_elim (λ sorted. inl (f.ordered.1 ∙ ap InOrder sorted)) (λ before. inr before)
                (before_all f.ordered.0 (subst Ways f.ordered.1 f.among));
          }

      some_refused : SomeRefused Ways 0 given fault
          → (Moved ≡ memory_fault) ⊎ IsFaultInWays fails bytes can job.order files ways Unwritten Moved
      some_refused s =
          let index : fault.input - 0 ≡ fault.input = omega arith in
          let found = subst (λ (k : ℕ). (fault_in_files 0 ways k fault ≡ memory_fault)
          ⊎ Found fails bytes can gives job.order Ways 0 files ways (fault_in_files 0 ways k fault)) index
          (fault_found fails bytes can gives job.order Ways files ways inputs given 0 0 fault small fits opens g s) in
          ⊎_elim (λ memory. inl memory) (λ f. inr (in_ways f)) found

    of_output : fault.input ≡ length given → Moved ≡ fault_at (length files) fault.place fault.reason
    of_output is =
        let same : 0 + length files ≡ length files = omega arith in
        output_found fails bytes can gives job.order files ways inputs given 0 fault.input fault is fits opens g
        ∙ ap (λ (n : ℕ). fault_at n fault.place fault.reason) same

    moved_cut : (change : Change) (spelled : List ℕ) → CutShort (length given) change spelled fault
        → CutShort (length files) change spelled Moved
    moved_cut = cut_moved (length given) (length files) fault Moved (λ memory. memory_found 0 ways fault.input fault memory) of_output

    abbrev Long : Type 0
    Long = AreSettled ways → IsLong fails bytes can job files

    abbrev Why : Type 0
    Why = (Moved ≡ memory_fault) ⊎ IsFaultInWays fails bytes can job.order files ways (after ≡ before) Moved
        ⊎ IsOutputFault (length files) (change_of output before after) Long Moved

    of_inputs : (Moved ≡ memory_fault) ⊎ IsFaultInWays fails bytes can job.order files ways (after ≡ before) Moved → Why
    of_inputs (inl memory) = inl memory
    of_inputs (inr found) = inr (inl found)

    turn_why : (Moved ≡ too_long_fault (length files) → Long) → IsJobRefused output job.selection given job.format before after fault → Why
    turn_why long (inl (memory, same)) = inl (memory_found 0 ways fault.input fault (ap (λ f. f.reason) memory))
    turn_why long (inr (inl (unread, same))) =
        of_inputs (some_refused AnyWay (after ≡ before) (λ o any. inr same) (unread_refused 0 given fault unread))
    turn_why long (inr (inr (read, inl c))) =
        ⊎_elim (λ memory. inl memory) (λ found. inr (inr found))
        (cut_why (length files) (change_of output before after) _ Moved Long long (moved_cut (change_of output before after) _ c))
    turn_why long (inr (inr (read, inr f))) =
        of_inputs (some_refused Streamed (after ≡ before) streamed_order (refused_at 0 given f.index fault read f.within f.refusal))

  -- A refused job over the inputs of files is a refused turn.
  pub turn_refused : SortedRunsHoldTheFile
      → SomeInputsGive (InputFileCanGive gives) inputs (λ all. RefusesJob output job.selection all job.format before after fault)
      → RefusesTurn fails bytes can output job files ways before after Moved
  turn_refused law (given, g, refused) =
      let change = change_of output before after in
      let cut : AreSettled ways → IsCutIfGood fails bytes can job files change Moved =
      (λ settled held good. (
      let a = files_accepted fails bytes can gives job.order law files ways inputs given held good settled fits opens g in
      subst (λ (s : VersionSet). CutShort (length files) change
      (spell job.format (selection_of job.selection s)) Moved) a.union
      (moved_cut given g change (spell job.format (selection_of job.selection (union_of a.sets)))
      (refused.cut a.sets a.files)))) in
      record {
        why = turn_why given g
            (λ is settled held good. (
            let c = cut settled held good in
            long_of (length files) _ c.count change.failed Moved c.why (ap (λ f. f.reason) is))) refused.why;
        cut = cut;
      }

module _ {F R I O : Type 0} (fails : F → Type 0) (bytes : F → Option (List ℕ)) (can : R → InputRest → Type 0)
    (gives : I → InputRest → Type 0) (output : Ghosts O) (job : FilesJob) (files : List (JobFile F R)) (ways : List FileWay)
    (fits : FilesFit bytes job.order files ways) (law : SortedRunsHoldTheFile) (before : O) where
  -- A job over files that are read in their ways is refused as a turn.
  pub refused_in_ways : (after : O) (fault : Fault) → RefusesInWays fails bytes can gives files ways job output before after fault
      → RefusesTurn fails bytes can output job files ways before after fault
  refused_in_ways after fault (inl (memory, same)) =
      subst (λ (o : O). RefusesTurn fails bytes can output job files ways before o fault) (sym same) (record {
        why = inl memory;
        cut = λ settled. nothing_cut fails bytes can job files (change_of output before before) fault
            (nothing_appended (output.holds before)) (inl memory);
      })
  refused_in_ways after fault (inr r) =
      subst (RefusesTurn fails bytes can output job files ways before after) (sym r.fault_is)
      (turn_refused fails bytes can gives output job files ways r.inputs fits r.opens before after r.found r.small law r.refused)
