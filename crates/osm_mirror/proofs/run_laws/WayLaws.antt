-- The ways of files, and the refusals of files for which there is no way.
use Rattle.std.proofs.Common.{◌≡◌, ◌⊎◌, inl, inr, ⊎_elim, ℕ, zero, suc, ◌+◌, ◌<◌, ◌≤◌, ◌^◌, Bool, true, false, List, [], ◌∷◌, ◌++◌, length}
use Rattle.std.proofs.Common.{drop, append-nil, take, set, get_or, slice_get, Option, Some, None, IfSome, refl, sym, ap, ◌∙◌, subst}
use Rattle.std.proofs.Common.{arith, IsTrue, ◌↔◌, Bor}
use Rattle.std.specs.List.{All}
use Rattle.std.proofs.lemmas.Bool.{false≢true}
use Rattle.std.proofs.lemmas.List.{take_all, drop_all, take_more_set}
use Rattle.std.proofs.lemmas.List.Elements.{All-nil, All-cons, All-head, All-tail, All-append}
use Rattle.osm_files.specs.declared.end_rule.EndRule.{EndRule}
use Rattle.osm_files.specs.declared.fault.Fault.{Fault}
use Rattle.osm_files.specs.declared.sorted_run.SortedRun.{SortedRun}
use Rattle.osm_files.specs.declared.reason.Reason.TheVariants.{ReadFault, TooLong}
use Rattle.osm_files.specs.EndRule.{lacks_its_end, rule_of_file}
use Rattle.osm_files.specs.Fault.{memory_fault, fault_at}
use Rattle.osm_files.specs.FileRuns.{IfWhole, IsAccepted, IsAcceptedRun, IsSortedRun, IsSortedIfAccepted, IsRefusalOf}
use Rattle.osm_files.specs.Input.{InputRest}
use Rattle.osm_files.specs.SortedRun.{IsSplitIntoRuns}
use Rattle.osm_files.proofs.SplitLaws.{whole_file}
use Rattle.osm_files.proofs.SinkLaws.{front_at}
use Rattle.osm_mirror.specs.declared.run.file_way.FileWay.{FileWay}
use Rattle.osm_mirror.specs.declared.run.files_job.JobFile.{JobFile}
use Rattle.osm_mirror.specs.declared.run.files_job.JobFile.TheVariants.{File, Stream}
use Rattle.osm_mirror.specs.declared.run.files_job.Order.{Order}
use Rattle.osm_mirror.specs.declared.run.files_job.Order.TheVariants.{Sorted, Any}
use Rattle.osm_mirror.specs.run.FilesRefusal.{IsSizeFault, IsVerdict, verdict_by_end, IsFaultOfFile, IsFaultOf, IsRefusedFile, AreRefused}
use Rattle.osm_mirror.specs.run.FilesRefusal.{IsFaultByRule, IsRefusedByRule, AreRefusedByRule}
use Rattle.osm_mirror.specs.run.FilesRefusal.{AreSettled}
use Rattle.osm_mirror.specs.run.FilesJob.{IsWhole, IsReadWhole, IsAsRequired, IsWayOf, FitsBytes, FileFits, FilesFit}
use Rattle.osm_mirror.proofs.run_laws.FilesJobLaws.{pairwise_length}
use Rattle.osm_mirror.proofs.run_laws.FilesRefusalLaws.{at_is}

pub get_slice : {X : Type 0} (xs : List X) (k : ℕ) (x : X) → k < length xs → x ≡ get_or xs k x → slice_get xs k ≡ Some x
get_slice [] k x low is = absurd (omega (arith, low))
get_slice (y ∷ xs) zero x low is = ap Some (sym is)
get_slice (y ∷ xs) (suc k) x low is = get_slice xs k x (omega (arith, low)) is

-- One file more has a property.
pub all_more : {X : Type 0} (P : X → Type 0) (xs : List X) (x : X) → All P xs → P x → All P (xs ++ x ∷ [])
all_more P [] x all one = All-cons P x [] one (All-nil P)
all_more P (y ∷ xs) x all one =
    All-cons P y (xs ++ x ∷ []) (All-head P y xs all) (all_more P xs x (All-tail P y xs all) one)

-- ---- refusals
-- A fault of one file, whatever its number, is one of all files if it gets the number of the file.
pub among : {X : Type 0} (Of : X → Fault → Type 0) (files : List X) (input : ℕ) (file : X) (fault : Fault)
    → slice_get files input ≡ Some file → (fault ≡ memory_fault) ⊎ Of file (record fault { input = input })
    → (fault_at input fault.place fault.reason ≡ memory_fault)
    ⊎ ((one : X) × (slice_get files (fault_at input fault.place fault.reason).input ≡ Some one)
    × Of one (fault_at input fault.place fault.reason))
among Of files input file fault at (inl memory) = inl (ap (λ f. fault_at input f.place f.reason) memory)
among Of files input file fault at (inr found) =
    ⊎_elim (λ memory. inl memory)
    (λ is. inr (
      file,
      ap (slice_get files) is.input_is ∙ at,
      subst (Of file) (λ i. record { input = sym is.input_is i; place = sym is.place_is i; reason = sym is.reason_is i }) found,
    ))
    (at_is input fault.place fault.reason)

module _ {F R : Type 0} (fails : F → Type 0) (bytes : F → Option (List ℕ)) (can : R → InputRest → Type 0) where
  -- The refusal of one file of any order, with the file's number, is one of all files.
  pub among_files : (files : List (JobFile F R)) (input : ℕ) (file : JobFile F R) (fault : Fault) → input < length files
      → file ≡ get_or files input file → IsRefusedFile fails bytes can Any file fault
      → AreRefused fails bytes can Any files (fault_at input fault.place fault.reason)
  among_files files input (File f end) fault low is =
      among (IsFaultOf fails bytes can Any) files input (File f end) fault (get_slice files input (File f end) low is)
  among_files files input (Stream r end) fault low is =
      among (IsFaultOf fails bytes can Any) files input (Stream r end) fault (get_slice files input (Stream r end) low is)

  -- The same for files that have to end as their rules say.
  pub among_by_rule : (order : Order) (files : List (JobFile F R)) (input : ℕ) (file : JobFile F R) (fault : Fault)
      → input < length files → file ≡ get_or files input file → IsRefusedByRule fails bytes can order file fault
      → AreRefusedByRule fails bytes can order files (fault_at input fault.place fault.reason)
  among_by_rule order files input (File f end) fault low is =
      among (IsFaultByRule fails bytes can order) files input (File f end) fault (get_slice files input (File f end) low is)
  among_by_rule order files input (Stream r end) fault low is =
      among (IsFaultByRule fails bytes can order) files input (Stream r end) fault (get_slice files input (Stream r end) low is)

at_start : (known : Option (List ℕ)) (fault : Fault) → fault.place ≡ 0 → IfSome known (λ all. fault.place ≤ length all)
at_start None fault begins = tt
at_start (Some all) fault begins = omega (arith, begins)

too_long : (known : Option (List ℕ)) (order : Order) (end : EndRule) (fault : Fault)
    → IfSome known (λ all. (2 ^ 62 ≤ length all) × (fault.place ≡ 2 ^ 62) × (fault.reason ≡ TooLong))
    → IfSome known (λ all. IsVerdict (verdict_by_end (lacks_its_end (rule_of_file end) all) order all) all fault)
too_long None order end fault long = tt
too_long (Some all) order end fault long = inr long

-- A file whose size isn't known, or that is too long, is refused.
pub size_fault : (Fails : Type 0) (known : Option (List ℕ)) (order : Order) (end : EndRule) (fault : Fault)
    → IsSizeFault Fails known fault → IsFaultOfFile Fails known order end fault
size_fault Fails known order end fault (inl (fails, read, begins)) = inl (fails, read, at_start known fault begins)
size_fault Fails known order end fault (inr long) = inr (too_long known order end fault long)

-- A file can't be read at its start.
pub start_fault : (Fails : Type 0) (known : Option (List ℕ)) (order : Order) (end : EndRule) (fault : Fault) → Fails
    → fault.reason ≡ ReadFault → fault.place ≡ 0 → IsFaultOfFile Fails known order end fault
start_fault Fails known order end fault fails read begins = inl (fails, read, at_start known fault begins)

not_accepted : (known : Option (List ℕ)) (fault : Fault)
    → IfSome known (λ all. (2 ^ 62 ≤ length all) × (fault.place ≡ 2 ^ 62) × (fault.reason ≡ TooLong))
    → IfSome known (λ all. IsAccepted all → ⊥)
not_accepted None fault long = tt
not_accepted (Some all) fault long = λ accepted. (let short = accepted.1.short in let many = long.0 in absurd (omega (arith, short, many)))

module _ {F R : Type 0} (fails : F → Type 0) (bytes : F → Option (List ℕ)) (can : R → InputRest → Type 0) where
  -- The same for a file of any order.
  pub size_refused : (f : Bor F) (end : EndRule) (fault : Fault) → IsSizeFault (fails f.now) (bytes f.now) fault
      → IsRefusedFile fails bytes can Any (File f end) fault
  size_refused f end fault (inl (failed, read, begins)) = inr (inl (failed, read))
  size_refused f end fault (inr long) = inr (inr (not_accepted (bytes f.now) fault long))

-- the refusal of a file in which no runs are found
module _ (Fails : Type 0) (fault : Fault) where
  known_runs : (known : Option (List ℕ)) (size : ℕ) → IfSome known (λ all. length all ≡ size)
      → IfWhole known size (λ all. IsRefusalOf Fails all fault)
      → (fault ≡ memory_fault) ⊎ ((Fails × (fault.reason ≡ ReadFault)) ⊎ IfSome known (λ all. IsAccepted all → ⊥))
  known_runs None size long refused = inr (inr tt)
  known_runs (Some all) size long refused =
      ⊎_elim (λ failure. ⊎_elim (λ memory. inl memory) (λ failed. inr (inl failed)) failure) (λ never. inr (inr never)) (refused long)

module _ {F R : Type 0} (fails : F → Type 0) (bytes : F → Option (List ℕ)) (can : R → InputRest → Type 0) where
  -- A file in which no runs are found, since it can't be read, is refused.
  pub runs_refused : (f : Bor F) (end : EndRule) (size : ℕ) (fault : Fault) → IfSome (bytes f.now) (λ all. length all ≡ size)
      → IfWhole (bytes f.now) size (λ all. IsRefusalOf (fails f.now) all fault) → IsRefusedFile fails bytes can Any (File f end) fault
  runs_refused f end size fault long refused = known_runs (fails f.now) fault (bytes f.now) size long refused

-- ---- ways
-- a whole file is one run
pub whole_fits : (known : Option (List ℕ)) (way : FileWay) → way.size < 2 ^ 62 → IfSome known (λ all. length all ≡ way.size) → IsWhole way
    → FitsBytes known way
whole_fits None way short long whole = (short, tt)
whole_fits (Some all) way short long whole = (
  short,
  (
    long,
    subst (λ (runs : List SortedRun). IsSplitIntoRuns all runs) (sym whole) (sym (whole_file all (omega (arith, short, long)))),
  ),
)

-- A file of any order is first read as a sorted one; a sorted one in its order.
pub first_fits : (order : Order) (known : Option (List ℕ)) (size : ℕ) (is_any : Bool) (way : FileWay) → size < 2 ^ 62
    → IfSome known (λ all. length all ≡ size) → (IsTrue is_any ↔ (order ≡ Any)) → IsReadWhole Sorted size is_any way
    → IsWayOf order known way × FitsBytes known way
first_fits Sorted known size true way short long tests read = absurd (let e : Sorted ≡ Any = tests.0 refl in cc)
first_fits Sorted known size false way short long tests (whole, o, sized, split) = (
  inl (whole, o, split),
  whole_fits known way (omega (arith, short, sized)) (subst (λ (n : ℕ). IfSome known (λ all. length all ≡ n)) (sym sized) long) whole,
)
first_fits Any known size true way short long tests (whole, o, sized, split) = (
  inr (inl (refl, (whole, o, split))),
  whole_fits known way (omega (arith, short, sized)) (subst (λ (n : ℕ). IfSome known (λ all. length all ≡ n)) (sym sized) long) whole,
)
first_fits Any known size false way short long tests read = absurd (let e : false ≡ true = tests.1 refl in false≢true e)

-- A file of any order that is read whole.
pub held_fits : (known : Option (List ℕ)) (size : ℕ) (way : FileWay) → size < 2 ^ 62 → IfSome known (λ all. length all ≡ size)
    → IsReadWhole Any size false way → IsWayOf Any known way × FitsBytes known way
held_fits known size way short long (whole, o, sized, split) = (
  inl (whole, o, split),
  whole_fits known way (omega (arith, short, sized)) (subst (λ (n : ℕ). IfSome known (λ all. length all ≡ n)) (sym sized) long) whole,
)

-- A stream is read in its order.
pub stream_fits : (order : Order) (way : FileWay) → IsReadWhole order 0 false way → IsAsRequired order way
stream_fits order way (whole, o, sized, split) = (whole, o, split)

-- The runs that are found in a file.
pub runs_fit : (known : Option (List ℕ)) (way : FileWay) → way.size < 2 ^ 62 → IfSome known (λ all. length all ≡ way.size)
    → IfSome known (λ all. length all < 2 ^ 64 → IsSplitIntoRuns all way.runs.items) → FitsBytes known way
runs_fit None way short long split = (short, tt)
runs_fit (Some all) way short long split = (short, (long, split (omega (arith, short, long))))

-- runs that have one property, and another one if they have the first
both_all : (P Q : SortedRun → Type 0) (runs : List SortedRun) → All (λ run. P run → Q run) runs → All P runs → All Q runs
both_all P Q [] follows has = All-nil Q
both_all P Q (run ∷ runs) follows has =
    All-cons Q run runs (All-head (λ run. P run → Q run) run runs follows (All-head P run runs has))
    (both_all P Q runs (All-tail (λ run. P run → Q run) run runs follows) (All-tail P run runs has))

-- The runs that are found in an accepted file are sorted files.
pub runs_sorted : (known : Option (List ℕ)) (size : ℕ) (runs : List SortedRun) → IfSome known (λ all. length all ≡ size)
    → IfWhole known size (λ all. All (IsSortedIfAccepted all) runs)
    → IfWhole known size (λ all. IsAccepted all → All (IsAcceptedRun all) runs)
    → IfSome known (λ all. IsAccepted all → All (IsSortedRun all) runs)
runs_sorted None size runs long sorted files = tt
runs_sorted (Some all) size runs long sorted files = λ accepted.
    both_all (IsAcceptedRun all) (IsSortedRun all) runs (sorted long) (files long accepted)

-- ---- ways that are changed in place
-- a list of which all members were changed
pub written_back : {X : Type 0} (n : ℕ) (new old : List X) → length new ≡ length old → n ≡ length old
    → take n (new ++ drop (length new) old) ≡ new
written_back n new old same is =
    ap (λ ys. take n (new ++ ys)) (drop_all (length new) old (omega (arith, same)))
    ∙ ap (take n) (append-nil new) ∙ take_all n new (omega (arith, same, is))

module _ {F R : Type 0} (bytes : F → Option (List ℕ)) (files : List (JobFile F R)) where
  -- The ways of files after all were split that had to be.
  pub back_fits : (order : Order) (n : ℕ) (new old : List FileWay) → n ≡ length old → order ≡ Any → FilesFit bytes order files old
      → FilesFit bytes Any files new → FilesFit bytes order files (take n (new ++ drop (length new) old))
  back_fits order n new old is any before after =
      let was = pairwise_length (FileFits bytes order) files old before in
      let now = pairwise_length (FileFits bytes Any) files new after in
      subst (FilesFit bytes order files) (sym (written_back n new old (omega (arith, was, now)) is))
      (subst (λ (o : Order). FilesFit bytes o files new) (sym any) after)

  pub back_settled : (n : ℕ) (new old : List FileWay) → n ≡ length old → FilesFit bytes Any files old → FilesFit bytes Any files new
      → AreSettled new → AreSettled (take n (new ++ drop (length new) old))
  back_settled n new old is before after settled =
      let was = pairwise_length (FileFits bytes Any) files old before in
      let now = pairwise_length (FileFits bytes Any) files new after in
      subst AreSettled (sym (written_back n new old (omega (arith, was, now)) is)) settled

-- an order that isn't any
pub not_any : (order : Order) → (order ≡ Any → ⊥) → order ≡ Sorted
not_any Sorted never = refl
not_any Any never = absurd (never refl)

-- ---- files that are split one after the other
abbrev pub Settled : FileWay → Type 0
Settled way = way.may_be_split ≡ false

one_more : (ways : List FileWay) (way : FileWay) → AreSettled ways → Settled way → AreSettled (ways ++ way ∷ [])
one_more ways way settled one = All-append Settled ways (way ∷ []) settled (All-cons Settled way [] one (All-nil Settled))

-- One file more is split.
pub settled_set : (ways after : List FileWay) (n : ℕ) (way : FileWay) → n < length ways → after ≡ set ways n way → Settled way
    → AreSettled (take n ways) → AreSettled (take (n + 1) after)
settled_set ways after n way low is one settled =
    subst AreSettled (sym (ap (take (n + 1)) is ∙ take_more_set ways n way low)) (one_more (take n ways) way settled one)

-- One file more isn't split, since it needn't be.
pub settled_kept : (ways : List FileWay) (n : ℕ) (way : FileWay) → n < length ways → way ≡ get_or ways n way → Settled way
    → AreSettled (take n ways) → AreSettled (take (n + 1) ways)
settled_kept ways n way low is one settled =
    subst AreSettled (sym (front_at ways n way low is)) (one_more (take n ways) way settled one)
