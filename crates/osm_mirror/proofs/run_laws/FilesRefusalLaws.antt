-- Why a job over files is refused: the faults of its inputs are those of its files.
use Rattle.std.proofs.Common.{◌≡◌, ◌⊎◌, inl, inr, ⊎_elim, ℕ, zero, suc, ◌+◌, ◌-◌, ◌<◌, ◌≤◌, ◌^◌, true, List, [], ◌∷◌, ◌++◌}
use Rattle.std.proofs.Common.{length, Option, Some, None, IfSome, slice_get, refl, sym, ap, ◌∙◌, subst, arith, append_assoc}
use Rattle.std.proofs.Common.{length-append, Bor}
use Rattle.std.specs.List.{All}
use Rattle.std.proofs.lemmas.Bool.{false≢true}
use Rattle.std.proofs.lemmas.List.Elements.{All-head, All-tail}
use Rattle.std.proofs.lemmas.Option.{slice_get_past}
use Rattle.osm_model.specs.VersionSet.{VersionSet}
use Rattle.osm_model.specs.Pairwise.{Pairwise}
use Rattle.osm_files.specs.declared.fault.Fault.{Fault}
use Rattle.osm_files.specs.declared.reason.Reason.{Reason}
use Rattle.osm_files.specs.declared.reason.Reason.TheVariants.{Memory, Opl, O5, BadHeader, Unsorted, NoEnd, AfterEnd}
use Rattle.osm_files.specs.declared.reason.Reason.TheVariants.{TooLong, ReadFault, WriteFault, Failed}
use Rattle.osm_files.specs.declared.sorted_run.SortedRun.{SortedRun}
use Rattle.osm_files.specs.declared.end_rule.EndRule.{EndRule}
use Rattle.osm_files.specs.EndRule.{by_rule}
use Rattle.osm_files.specs.Extent.{RunCanGive}
use Rattle.osm_files.specs.Fault.{fault_at, memory_fault}
use Rattle.osm_files.specs.FileRuns.{IsAccepted, IsSortedRun, IsReadFailure, IsRefusalOf}
use Rattle.osm_files.specs.Groups.{sorted_source}
use Rattle.osm_files.specs.Held.{HoldsSorted}
use Rattle.osm_files.specs.Input.{InputRest}
use Rattle.osm_files.specs.LoadLaws.{is_verdict_reason}
use Rattle.osm_files.specs.SortedRun.{run_bytes, whole_run, offset_in_file}
use Rattle.osm_files.specs.Stream.{Verdict, verdict_at}
use Rattle.osm_files.specs.Verdict.{verdict_sorted}
use Rattle.osm_files.proofs.FileLaws.{sorted_files_are_read}
use Rattle.osm_files.proofs.LoadFaults.{reasons_of_verdicts}
use Rattle.osm_files.proofs.RunOrderLaws.{Refuses, failure_of, run_refuses, units_refuse, verdict_refuses}
use Rattle.osm_files.proofs.SplitLaws.{whole_file}
use Rattle.osm_merge.specs.Giving.{AllGive}
use Rattle.osm_mirror.specs.declared.run.file_way.FileWay.{FileWay}
use Rattle.osm_mirror.specs.declared.run.files_job.JobFile.{JobFile}
use Rattle.osm_mirror.specs.declared.run.files_job.JobFile.TheVariants.{File, Stream}
use Rattle.osm_mirror.specs.declared.run.files_job.Order.{Order}
use Rattle.osm_mirror.specs.declared.run.files_job.Order.TheVariants.{Sorted, Any}
use Rattle.osm_mirror.specs.declared.run.input.InputFile.{InputFile}
use Rattle.osm_mirror.specs.declared.run.input.ReadAs.{ReadAs}
use Rattle.osm_mirror.specs.declared.run.input.ReadAs.TheVariants.{InOrder}
use Rattle.osm_mirror.specs.run.FilesRefusal.{IsFaultIn, IsFaultInWay}
use Rattle.osm_mirror.specs.run.FilesJob.{IsAsRequired, IsWayOf, FitsBytes, FileFits, FilesFit, OpensRun, OpensFile, OpensFiles}
use Rattle.osm_mirror.specs.run.FilesJob.{fault_in_run_or, fault_in_files}
use Rattle.osm_mirror.specs.run.Given.{InputFileCanGive, source_of}
use Rattle.osm_mirror.proofs.run_laws.FilesJobLaws.{cut, as_pairs, as_given, plain_given, pairwise_length}
use Rattle.osm_mirror.proofs.run_laws.InputRefusalLaws.{SomeRefused, some_of_both, any_refused, has_number}

-- ---- the fault of a run
-- a fault of the file `input` that isn't out of memory
pub record IsAt (input place : ℕ) (reason : Reason) (fault : Fault) : Type 0 where
  pub input_is : fault.input ≡ input
  pub place_is : fault.place ≡ place
  pub reason_is : fault.reason ≡ reason
  pub other : reason ≡ Memory → ⊥

-- the fault for a reason at an offset, unless it is out of memory
pub at_is : (input place : ℕ) (reason : Reason) → (fault_at input place reason ≡ memory_fault)
    ⊎ IsAt input place reason (fault_at input place reason)
at_is input place Memory = inl refl
at_is input place (Opl inner) = inr (record { input_is = refl; place_is = refl; reason_is = refl; other = λ e. cc })
at_is input place (O5 inner) = inr (record { input_is = refl; place_is = refl; reason_is = refl; other = λ e. cc })
at_is input place BadHeader = inr (record { input_is = refl; place_is = refl; reason_is = refl; other = λ e. cc })
at_is input place Unsorted = inr (record { input_is = refl; place_is = refl; reason_is = refl; other = λ e. cc })
at_is input place NoEnd = inr (record { input_is = refl; place_is = refl; reason_is = refl; other = λ e. cc })
at_is input place AfterEnd = inr (record { input_is = refl; place_is = refl; reason_is = refl; other = λ e. cc })
at_is input place TooLong = inr (record { input_is = refl; place_is = refl; reason_is = refl; other = λ e. cc })
at_is input place ReadFault = inr (record { input_is = refl; place_is = refl; reason_is = refl; other = λ e. cc })
at_is input place WriteFault = inr (record { input_is = refl; place_is = refl; reason_is = refl; other = λ e. cc })
at_is input place Failed = inr (record { input_is = refl; place_is = refl; reason_is = refl; other = λ e. cc })

-- the place in a file of a fault of the whole file
whole_place : (place : ℕ) → place < 2 ^ 64 → offset_in_file whole_run place ≡ place
whole_place place small = omega (arith, small)

module _ (Fails : Type 0) (all : List ℕ) (fault r : Fault) (same : r.reason ≡ fault.reason) (other : fault.reason ≡ Memory → ⊥) where
  failed : IsReadFailure Fails fault → Fails × (r.reason ≡ ReadFault)
  failed (inl memory) = absurd (other (ap (λ f. f.reason) memory))
  failed (inr (fails, read)) = (fails, same ∙ read)

  -- a file that must be sorted
  pub sorted_fault : (m : ℕ) → r.place ≡ fault.place → Refuses Fails m all fault → IsFaultIn Sorted Fails (Some all) r
  sorted_fault m there (inl (inl memory)) = absurd (other (ap (λ f. f.reason) memory))
  sorted_fault m there (inl (inr (fails, read, within))) = inl (fails, same ∙ read, omega (arith, there, within))
  sorted_fault m there (inr (v, e, is)) =
      let at : v ≡ verdict_at r.place r.reason =
      (λ i. verdict_at ((ap (λ f. f.place) (sym is) ∙ sym there) i) ((ap (λ f. f.reason) (sym is) ∙ sym same) i)) in
      inr (inl (e ∙ ap Some at))

  -- a file of any order that is read whole
  any_fault : IsRefusalOf Fails all fault → IsFaultIn Any Fails (Some all) r
  any_fault (inl failure) = inl (failed failure)
  any_fault (inr never) = inr never

  -- a file of any order that is read as a sorted one
  tried_fault : (m : ℕ) → Refuses Fails m all fault → IsFaultIn Any Fails (Some all) r ⊎ (r.reason ≡ Unsorted)
  tried_fault m (inl failure) = inl (inl (failed (failure_of Fails all fault failure)))
  tried_fault m (inr (v, e, is)) =
      let reason : v.reason ≡ r.reason = ap (λ f. f.reason) (sym is) ∙ sym same in
      ⊎_elim
      (λ unsorted. inr (sym reason ∙ unsorted))
      (λ fine. inl (inr (verdict_refuses all v e (λ unsorted. false≢true (ap is_verdict_reason (sym unsorted) ∙ fine)))))
      ((reasons_of_verdicts all v).1 e)

-- a file whose bytes aren't known may have any fault
pub unknown_fault : (order : Order) (Fails : Type 0) (r : Fault) → IsFaultIn order Fails None r
unknown_fault Sorted Fails r = inr tt
unknown_fault Any Fails r = inr tt

-- a run that is a sorted file has no verdict
sorted_without : (bytes : List ℕ) (v : Verdict) → (held : VersionSet) → HoldsSorted bytes held → verdict_sorted bytes ≡ Some v → ⊥
sorted_without bytes v held h e =
    let none : verdict_sorted bytes ≡ None = sorted_files_are_read bytes h.versions h.short h.file h.sorted in
    (let f : None ≡ Some v = sym none ∙ e in cc)

-- a member of a list all of which have a property
pub all_at : {X : Type 0} (P : X → Type 0) (xs : List X) (k : ℕ) (x : X) → All P xs → slice_get xs k ≡ Some x → P x
all_at P [] k x all e = absurd (let f : None ≡ Some x = e in cc)
all_at P (y ∷ ys) zero x all e =
    let same : y ≡ x = (let f : Some y ≡ Some x = e in cc) in subst P same (All-head P y ys all)
all_at P (y ∷ ys) (suc k) x all e = all_at P ys k x (All-tail P y ys all) e

only_run : (runs : List SortedRun) (j : ℕ) (run : SortedRun) → runs ≡ whole_run ∷ [] → slice_get runs j ≡ Some run → run ≡ whole_run
only_run [] j run is e = absurd (let f : None ≡ Some run = e in cc)
only_run (a ∷ b ∷ runs) j run is e = absurd (omega (arith, ap length is))
only_run (a ∷ []) zero run is e =
    let same : a ≡ run = (let f : Some a ≡ Some run = e in cc) in
    let whole : a ≡ whole_run = (let f : a ∷ [] ≡ whole_run ∷ [] = is in cc) in sym same ∙ whole
only_run (a ∷ []) (suc j) run is e = absurd (let f : None ≡ Some run = e in cc)

-- ---- the fault of a file's input
module _ {I : Type 0} (gives : I → InputRest → Type 0) (Fails : Type 0) (order : Order) (way : FileWay) (fault r : Fault)
    (same : r.reason ≡ fault.reason) (other : fault.reason ≡ Memory → ⊥) (small : fault.place < 2 ^ 64) (j m : ℕ) (run : SortedRun)
    (at : slice_get way.runs.items j ≡ Some run) (there : r.place ≡ offset_in_file run fault.place) where
  -- the fault of this file in its way
  abbrev InWay : Option (List ℕ) → Type 0
  InWay known = IsFaultIn order Fails known r ⊎ ((way.may_be_split ≡ true) × (r.reason ≡ Unsorted))

  module _ (all : List ℕ) (c : InputRest) (fits : FitsBytes (Some all) way) (gave : RunCanGive Fails (Some all) run way.size c) where
    whole_there : run ≡ whole_run → r.place ≡ fault.place
    whole_there is = there ∙ ap (λ (x : SortedRun). offset_in_file x fault.place) is ∙ whole_place fault.place small

    whole_bytes : run ≡ whole_run → run_bytes run all ≡ all
    whole_bytes is = let long = fits.1.0 in let short = fits.0 in
        ap (λ (x : SortedRun). run_bytes x all) is ∙ whole_file all (omega (arith, short, long))

    as_sorted : (sorted_source m c).refusal ≡ Some fault → Refuses Fails m (run_bytes run all) fault
    as_sorted e = run_refuses Fails all run way.size m fault fits.1.0 (c, gave, inr e)

    required_in : (o : Order) → order ≡ o → run ≡ whole_run → (source_of m (InOrder o, c)).refusal ≡ Some fault
        → IsFaultIn order Fails (Some all) r
    required_in Sorted is whole e =
        subst (λ (o : Order). IsFaultIn o Fails (Some all) r) (sym is)
        (sorted_fault Fails all fault r same other m (whole_there whole)
        (subst (λ bytes. Refuses Fails m bytes fault) (whole_bytes whole) (as_sorted e)))
    required_in Any is whole e =
        subst (λ (o : Order). IsFaultIn o Fails (Some all) r) (sym is)
        (any_fault Fails all fault r same other
        (subst (λ bytes. IsRefusalOf Fails bytes fault) (whole_bytes whole)
        (units_refuse Fails all run way.size m fault c fits.1.0 gave (any_refused m c fault e))))

    in_way : IsWayOf order (Some all) way → (source_of m (way.read_as, c)).refusal ≡ Some fault → InWay (Some all)
    in_way (inl (whole, o, settled)) e =
        inl (required_in order refl (only_run way.runs.items j run whole at)
        (subst (λ (h : ReadAs). (source_of m (h, c)).refusal ≡ Some fault) o e))
    in_way (inr (inl (any, (whole, o, may)))) e =
        let is = only_run way.runs.items j run whole at in
        let sorted : (sorted_source m c).refusal ≡ Some fault =
        subst (λ (h : ReadAs). (source_of m (h, c)).refusal ≡ Some fault) o e in
        ⊎_elim
        (λ found. inl (subst (λ (o : Order). IsFaultIn o Fails (Some all) r) (sym any) found))
        (λ unsorted. inr (may, unsorted))
        (tried_fault Fails all fault r same other m
        (subst (λ bytes. Refuses Fails m bytes fault) (whole_bytes is) (as_sorted sorted)))
    in_way (inr (inr (any, (o, settled, runs)))) e =
        let sorted : (sorted_source m c).refusal ≡ Some fault =
        subst (λ (h : ReadAs). (source_of m (h, c)).refusal ≡ Some fault) o e in
        inl (subst (λ (o : Order). IsFaultIn o Fails (Some all) r) (sym any)
        (⊎_elim
        (λ failure. inl (failed Fails all fault r same other (failure_of Fails (run_bytes run all) fault failure)))
        (λ found. inr (λ accepted. (
        let good = all_at (IsSortedRun all) way.runs.items j run (runs accepted) at in
        sorted_without (run_bytes run all) found.0 good.0 good.1 found.1)))
        (as_sorted sorted)))

  known_in_way : (known : Option (List ℕ)) (c : InputRest) → IsWayOf order known way × FitsBytes known way
      → RunCanGive Fails known run way.size c → (source_of m (way.read_as, c)).refusal ≡ Some fault → InWay known
  known_in_way None c fits gave e = inl (unknown_fault order Fails r)
  known_in_way (Some all) c fits gave e = in_way all c fits.1 gave fits.0 e

-- ---- the inputs of a file
-- a fault is that of one of the inputs
numbers : (Ways : ReadAs → Type 0) (n : ℕ) (xs : List (ReadAs × InputRest)) (fault : Fault) → SomeRefused Ways n xs fault
    → (n ≤ fault.input) × (fault.input < n + length xs)
numbers Ways n [] fault s = absurd s
numbers Ways n (x ∷ xs) fault (inl (among, e)) = let at = has_number n x fault e in (omega (arith, at), omega (arith, at))
numbers Ways n (x ∷ xs) fault (inr more) =
    let at = numbers Ways (n + 1) xs fault more in
    let low = at.0 in let high = at.1 in
    (omega (arith, low), omega (arith, high))

get_after : {X : Type 0} (xs : List X) (x : X) (ys : List X) → slice_get (xs ++ x ∷ ys) (length xs) ≡ Some x
get_after [] x ys = refl
get_after (z ∷ xs) x ys = get_after xs x ys

module _ {F R I : Type 0} (fails : F → Type 0) (bytes : F → Option (List ℕ)) (can : R → InputRest → Type 0)
    (gives : I → InputRest → Type 0) (order : Order) where
  abbrev Given : List (InputFile I) → List (ReadAs × InputRest) → Type 0
  Given inputs given = AllGive (InputFileCanGive gives) inputs given

  -- what a stream's input gives
  pub record GaveStream (r : R) (end : EndRule) (given : List (ReadAs × InputRest)) : Type 0 where
    pub c : InputRest
    pub gave : can r c
    pub only : given ≡ (InOrder order, by_rule end c) ∷ []

  pub stream_gave : (r : R) (end : EndRule) (way : FileWay) (inputs : List (InputFile I)) (given : List (ReadAs × InputRest))
      → IsAsRequired order way → OpensFile fails bytes can gives (Stream r end) way inputs → Given inputs given → GaveStream r end given
  stream_gave r end way [] given fits (input, is, opens) g = absurd (let e : [] ≡ input ∷ [] = is in cc)
  stream_gave r end way (x ∷ y ∷ inputs) given fits (input, is, opens) g = absurd (omega (arith, ap length is))
  stream_gave r end way (x ∷ []) [] fits opened g = absurd g
  stream_gave r end way (x ∷ []) (y ∷ z ∷ given) fits opened g = absurd g.1
  stream_gave r end way (x ∷ []) ((how, c) ∷ []) fits (input, is, opens) g =
      let same : x ≡ input = (let e : x ∷ [] ≡ input ∷ [] = is in cc) in
      let order_is : how ≡ InOrder order = sym g.0.0 ∙ ap (λ (i : InputFile I). i.read_as) same ∙ opens.read_as_is ∙ fits.1 in
      let one : InputRest = g.0.1.0 in
      let ended : c ≡ by_rule end one =
      g.0.1.2 ∙ ap (λ (e : EndRule). by_rule e one) (ap (λ (i : InputFile I). i.end) same ∙ opens.end_is) in
      record {
        c = one;
        gave = opens.gives_stream one (subst (λ (i : InputFile I). gives i.reader one) same g.0.1.1);
        only = λ i. (order_is i, ended i) ∷ [];
      }

  -- the inputs of a file are as many as its runs
  file_counted : (file : JobFile F R) (way : FileWay) (inputs : List (InputFile I)) (given : List (ReadAs × InputRest))
      → FileFits bytes order file way → OpensFile fails bytes can gives file way inputs → Given inputs given
      → length given ≡ length way.runs.items
  file_counted (File f end) way inputs given fits opens g =
      sym (pairwise_length (InputFileCanGive gives) inputs given (as_pairs (InputFileCanGive gives) inputs given g))
      ∙ pairwise_length (OpensRun gives (fails f.now) (bytes f.now) way.size way.read_as) inputs way.runs.items opens
  file_counted (Stream r end) way inputs given fits opens g =
      ap length (stream_gave r end way inputs given fits opens g).only ∙ ap length (sym fits.0)

  -- the way of a file has an order
  file_ordered : (file : JobFile F R) (way : FileWay) → FileFits bytes order file way → (o : Order) × (way.read_as ≡ InOrder o)
  file_ordered (File f end) way (inl (whole, o, settled), fits) = (order, o)
  file_ordered (File f end) way (inr (inl (any, (whole, o, may))), fits) = (Sorted, o)
  file_ordered (File f end) way (inr (inr (any, (o, settled, runs))), fits) = (Sorted, o)
  file_ordered (Stream r end) way fits = (order, fits.1)

  module _ (Ways : ReadAs → Type 0) where
    -- ---- the fault of one of a file's inputs
    -- a run of a file, whose input is refused
    pub record RefusedRun (n : ℕ) (file : JobFile F R) (way : FileWay) (fault : Fault) : Type 0 where
      pub j : ℕ
      pub run : SortedRun
      pub input_is : fault.input ≡ n + j
      pub at : slice_get way.runs.items j ≡ Some run
      pub among : Ways way.read_as
      pub in_way : (r : Fault) → r.reason ≡ fault.reason → (fault.reason ≡ Memory → ⊥) → r.place ≡ offset_in_file run fault.place
          → IsFaultInWay fails bytes can order file way r

    refused_run : (f : Bor F) (end : EndRule) (way : FileWay) (fault : Fault) (n : ℕ) (before : List SortedRun)
        (inputs : List (InputFile I))
        (runs : List SortedRun) (given : List (ReadAs × InputRest)) → FileFits {R = R} bytes order (File f end) way → fault.place < 2 ^ 64
        → way.runs.items ≡ before ++ runs
        → Pairwise (OpensRun gives (fails f.now) (bytes f.now) way.size way.read_as) inputs runs → Given inputs given
        → SomeRefused Ways (n + length before) given fault → RefusedRun n (File f end) way fault
    refused_run f end way fault n before [] runs [] fits small is opens g s = absurd s
    refused_run f end way fault n before [] runs (x ∷ given) fits small is opens g s = absurd g
    refused_run f end way fault n before (i ∷ inputs) [] given fits small is opens g s = absurd opens
    refused_run f end way fault n before (i ∷ inputs) (run ∷ runs) [] fits small is opens g s = absurd g
    refused_run f end way fault n before (i ∷ inputs) (run ∷ runs) ((how, c) ∷ given) fits small is opens g (inl (among, e)) =
        let m : ℕ = n + length before in
        let how_is : how ≡ way.read_as = sym g.0.0 ∙ opens.0.read_as_is in
        let refused : (source_of m (way.read_as, c)).refusal ≡ Some fault =
        subst (λ (h : ReadAs). (source_of m (h, c)).refusal ≡ Some fault) how_is e in
        let at : slice_get way.runs.items (length before) ≡ Some run =
        ap (λ (xs : List SortedRun). slice_get xs (length before)) is ∙ get_after before run runs in
        record {
          j = length before;
          run = run;
          input_is = has_number m (how, c) fault e;
          at = at;
          among = subst Ways how_is among;
          in_way = λ r same other there. known_in_way gives (fails f.now) order way fault r same other small (length before) m run at there
              (bytes f.now) c fits (opens.0.gives_run c (plain_given gives i how c opens.0.end_is g.0)) refused;
        }
    refused_run f end way fault n before (i ∷ inputs) (run ∷ runs) (x ∷ given) fits small is opens g (inr more) =
        let next : n + length before + 1 ≡ n + length (before ++ run ∷ []) = omega (arith, length-append before (run ∷ [])) in
        refused_run f end way fault n (before ++ run ∷ []) inputs runs given fits small (is ∙ sym (append_assoc before (run ∷ []) runs))
        opens.1 g.1
        (subst (λ (k : ℕ). SomeRefused Ways k given fault) next more)

    refused_file : (file : JobFile F R) (way : FileWay) (fault : Fault) (n : ℕ) (inputs : List (InputFile I))
        (given : List (ReadAs × InputRest)) → FileFits bytes order file way → fault.place < 2 ^ 64
        → OpensFile fails bytes can gives file way inputs → Given inputs given → SomeRefused Ways n given fault
        → RefusedRun n file way fault
    refused_file (File f end) way fault n inputs given fits small opens g s =
        let same : n + 0 ≡ n = omega arith in
        refused_run f end way fault n [] inputs way.runs.items given fits small refl opens g
        (subst (λ (k : ℕ). SomeRefused Ways k given fault) (sym same) s)
    refused_file (Stream r end) way fault n inputs given fits small opens g s =
        let gave = stream_gave r end way inputs given fits opens g in
        ⊎_elim
        (λ p. (let e = p.1 in record {
          j = 0;
          run = whole_run;
          input_is = has_number n (InOrder order, by_rule end gave.c) fault e ∙ (let same : n ≡ n + 0 = omega arith in same);
          at = ap (λ (xs : List SortedRun). slice_get xs 0) fits.0;
          among = subst Ways (sym fits.1) p.0;
          in_way = λ r same other there. inl (
            gave.c,
            gave.gave,
            (
              n,
              e ∙ ap Some (λ i. record {
                input = has_number n (InOrder order, by_rule end gave.c) fault e i;
                place = (sym (there ∙ whole_place fault.place small)) i;
                reason = (sym same) i;
              }),
            ),
          );
        }))
        (λ none. absurd none)
        (subst (λ (xs : List (ReadAs × InputRest)). SomeRefused Ways n xs fault) gave.only s)

    -- ---- the fault of one of the files' inputs
    -- the fault is that of one of these files; the files are numbered from `number` on
    pub record Found (number : ℕ) (files : List (JobFile F R)) (ways : List FileWay) (r : Fault) : Type 0 where
      pub k : ℕ
      pub input_is : r.input ≡ number + k
      pub file : JobFile F R
      pub way : FileWay
      pub file_is : slice_get files k ≡ Some file
      pub way_is : slice_get ways k ≡ Some way
      pub ordered : (o : Order) × (way.read_as ≡ InOrder o)
      pub among : Ways way.read_as
      pub fault_is : IsFaultInWay fails bytes can order file way r

    in_run : (number n : ℕ) (file : JobFile F R) (way : FileWay) (files : List (JobFile F R)) (ways : List FileWay) (fault other : Fault)
        → FileFits bytes order file way → (run : RefusedRun n file way fault)
        → let r = fault_in_run_or number (slice_get way.runs.items (fault.input - n)) fault other in
        (r ≡ memory_fault) ⊎ Found number (file ∷ files) (way ∷ ways) r
    in_run number n file way files ways fault other fits run =
        let index : fault.input - n ≡ run.j = omega (arith, run.input_is) in
        let at : slice_get way.runs.items (fault.input - n) ≡ Some run.run = ap (slice_get way.runs.items) index ∙ run.at in
        let place : ℕ = offset_in_file run.run fault.place in
        subst (λ (found : Option SortedRun). let r = fault_in_run_or number found fault other in
        (r ≡ memory_fault) ⊎ Found number (file ∷ files) (way ∷ ways) r) (sym at)
        (⊎_elim (λ memory. inl memory)
        (λ is. inr (record {
          k = 0;
          input_is = is.input_is ∙ (let same : number ≡ number + 0 = omega arith in same);
          file = file;
          way = way;
          file_is = refl;
          way_is = refl;
          ordered = file_ordered file way fits;
          among = run.among;
          fault_is = run.in_way (fault_at number place fault.reason) is.reason_is is.other is.place_is;
        }))
        (at_is number place fault.reason))

    -- The fault of an input is the fault of its file.
    pub fault_found : (files : List (JobFile F R)) (ways : List FileWay) (inputs : List (InputFile I)) (given : List (ReadAs × InputRest))
        (number n : ℕ) (fault : Fault) → fault.place < 2 ^ 64 → FilesFit bytes order files ways
        → OpensFiles fails bytes can gives files ways inputs → Given inputs given → SomeRefused Ways n given fault
        → (fault_in_files number ways (fault.input - n) fault ≡ memory_fault)
        ⊎ Found number files ways (fault_in_files number ways (fault.input - n) fault)
    fault_found [] ways [] [] number n fault small fits opens g s = absurd s
    fault_found [] ways [] (x ∷ given) number n fault small fits opens g s = absurd g
    fault_found [] ways (i ∷ inputs) given number n fault small fits opens g s = absurd (let e : i ∷ inputs ≡ [] = opens in cc)
    fault_found (file ∷ files) [] inputs given number n fault small fits opens g s = absurd opens
    fault_found (file ∷ files) (way ∷ ways) inputs given number n fault small fits (added, others, is, one, more) g s =
        let c = cut (InputFileCanGive gives) added others given
        (as_pairs (InputFileCanGive gives) (added ++ others) given (subst (λ (xs : List (InputFile I)). Given xs given) is g)) in
        let first = as_given (InputFileCanGive gives) added c.before c.first in
        let second = as_given (InputFileCanGive gives) others c.after c.second in
        let long = file_counted file way added c.before fits.0 one first in
        ⊎_elim
        (λ here. in_run number n file way files ways fault
        (fault_in_files (number + 1) ways (fault.input - n - length way.runs.items) fault) fits.0
        (refused_file file way fault n added c.before fits.0 small one first here))
        (λ later. (
        let between = numbers Ways (n + length c.before) c.after fault later in
        let low = between.0 in
        let none : slice_get way.runs.items (fault.input - n) ≡ None =
        slice_get_past way.runs.items (fault.input - n) (omega (arith, low, long)) in
        let index : fault.input - (n + length c.before) ≡ fault.input - n - length way.runs.items = omega (arith, low, long) in
        let next : Fault = fault_in_files (number + 1) ways (fault.input - n - length way.runs.items) fault in
        let rest = subst (λ (k : ℕ). (fault_in_files (number + 1) ways k fault ≡ memory_fault)
        ⊎ Found (number + 1) files ways (fault_in_files (number + 1) ways k fault)) index
        (fault_found files ways others c.after (number + 1) (n + length c.before) fault small fits.1 more second later) in
        subst (λ (found : Option SortedRun). let r = fault_in_run_or number found fault next in
        (r ≡ memory_fault) ⊎ Found number (file ∷ files) (way ∷ ways) r) (sym none)
        (⊎_elim (λ memory. inl memory)
        (λ f. inr (record {
          k = suc f.k;
          input_is = f.input_is ∙ (let same : number + 1 + f.k ≡ number + suc f.k = omega arith in same);
          file = f.file;
          way = f.way;
          file_is = f.file_is;
          way_is = f.way_is;
          ordered = f.ordered;
          among = f.among;
          fault_is = f.fault_is;
        }))
        rest)))
        (some_of_both Ways n c.before c.after fault (subst (λ (xs : List (ReadAs × InputRest)). SomeRefused Ways n xs fault) c.joined s))

  -- A fault of the output gets the number of files.
  pub output_found : (files : List (JobFile F R)) (ways : List FileWay) (inputs : List (InputFile I)) (given : List (ReadAs × InputRest))
      (number k : ℕ) (fault : Fault) → k ≡ length given → FilesFit bytes order files ways
      → OpensFiles fails bytes can gives files ways inputs → Given inputs given
      → fault_in_files number ways k fault ≡ fault_at (number + length files) fault.place fault.reason
  output_found [] [] inputs given number k fault is fits opens g =
      let same : number ≡ number + 0 = omega arith in ap (λ (n : ℕ). fault_at n fault.place fault.reason) same
  output_found [] (way ∷ ways) inputs given number k fault is fits opens g = absurd fits
  output_found (file ∷ files) [] inputs given number k fault is fits opens g = absurd opens
  output_found (file ∷ files) (way ∷ ways) inputs given number k fault is fits (added, others, same, one, more) g =
      let c = cut (InputFileCanGive gives) added others given
      (as_pairs (InputFileCanGive gives) (added ++ others) given (subst (λ (xs : List (InputFile I)). Given xs given) same g)) in
      let first = as_given (InputFileCanGive gives) added c.before c.first in
      let second = as_given (InputFileCanGive gives) others c.after c.second in
      let long = file_counted file way added c.before fits.0 one first in
      let all : k ≡ length c.before + length c.after = is ∙ ap length c.joined ∙ length-append c.before c.after in
      let none : slice_get way.runs.items k ≡ None = slice_get_past way.runs.items k (omega (arith, long, all)) in
      let left : k - length way.runs.items ≡ length c.after = omega (arith, long, all) in
      let counted : number + 1 + length files ≡ number + suc (length files) = omega arith in
      ap (λ (found : Option SortedRun). fault_in_run_or number found fault
      (fault_in_files (number + 1) ways (k - length way.runs.items) fault)) none
      ∙ output_found files ways others c.after (number + 1) (k - length way.runs.items) fault left fits.1 more second
      ∙ ap (λ (n : ℕ). fault_at n fault.place fault.reason) counted

memory_in : (number : ℕ) (found : Option SortedRun) (fault other : Fault) → fault.reason ≡ Memory → other ≡ memory_fault
    → fault_in_run_or number found fault other ≡ memory_fault
memory_in number None fault other is later = later
memory_in number (Some run) fault other is later = ap (fault_at number (offset_in_file run fault.place)) is

-- Out of memory stays out of memory.
pub memory_found : (number : ℕ) (ways : List FileWay) (k : ℕ) (fault : Fault) → fault.reason ≡ Memory
    → fault_in_files number ways k fault ≡ memory_fault
memory_found number [] k fault is = ap (fault_at number fault.place) is
memory_found number (way ∷ ways) k fault is =
    memory_in number (slice_get way.runs.items k) fault (fault_in_files (number + 1) ways (k - length way.runs.items) fault) is
    (memory_found (number + 1) ways (k - length way.runs.items) fault is)
