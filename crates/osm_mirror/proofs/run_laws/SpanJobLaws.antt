-- Jobs for a span of files: what they write, and why they are refused.
use Rattle.std.proofs.Common.{◌≡◌, ◌⊎◌, inl, inr, ⊎_elim, ℕ, zero, suc, ◌+◌, ◌≤◌, ◌<◌, ◌^◌, List, [], ◌∷◌, ◌++◌, length, map}
use Rattle.std.proofs.Common.{Option, Some, None, IfSome, slice_get, refl, sym, ap, ◌∙◌, subst, arith, sum_by, Bor, ◌-◌}
use Rattle.std.proofs.lemmas.Bool.{cases_lt}
use Rattle.std.proofs.lemmas.Option.{slice_get_past}
use Rattle.osm_model.specs.VersionSet.{VersionSet}
use Rattle.osm_model.specs.Sets.{size}
use Rattle.osm_model.specs.Pairwise.{Pairwise}
use Rattle.osm_files.specs.declared.fault.Fault.{Fault}
use Rattle.osm_files.specs.declared.format.Format.{Format}
use Rattle.osm_files.specs.declared.reason.Reason.TheVariants.{Memory}
use Rattle.osm_files.specs.declared.end_rule.EndRule.{EndRule}
use Rattle.osm_files.specs.declared.end_rule.EndRule.TheVariants as rule
use Rattle.osm_files.specs.declared.output.Output.{Ghosts}
use Rattle.osm_files.specs.declared.sorted_run.SortedRun.{SortedRun}
use Rattle.osm_files.specs.Change.{change_of}
use Rattle.osm_files.specs.Extent.{RunCanGive}
use Rattle.osm_files.specs.Fault.{memory_fault, too_long_fault, fault_at}
use Rattle.osm_files.specs.Held.{HoldsSorted}
use Rattle.osm_files.specs.Input.{InputRest}
use Rattle.osm_files.specs.Output.{Change, Appends}
use Rattle.osm_files.specs.Sink.{CutShort}
use Rattle.osm_files.specs.SortedRun.{offset_in_file}
use Rattle.osm_files.specs.Spell.{spell}
use Rattle.osm_files.proofs.RunOrderLaws.{moved_failure}
use Rattle.osm_merge.specs.declared.merge.Counts.{Counts}
use Rattle.osm_merge.specs.declared.span.Span.{Span}
use Rattle.osm_merge.specs.declared.selection.Selection.{Selection}
use Rattle.osm_merge.specs.Giving.{AllGive, SomeInputsGive}
use Rattle.osm_merge.specs.Selected.{selection_of}
use Rattle.osm_merge.specs.Slice.{slice_of}
use Rattle.osm_merge.specs.ToCome.{rest_at}
use Rattle.osm_merge.specs.Clashes.{clash_count}
use Rattle.osm_merge.specs.Union.{capped_count}
use Rattle.osm_merge.proofs.UnionLaws.{nothing_appended}
use Rattle.osm_mirror.specs.declared.run.shard_extent.FileExtent.{FileExtent}
use Rattle.osm_mirror.specs.declared.run.file_way.FileWay.{FileWay}
use Rattle.osm_mirror.specs.declared.run.files_job.FilesJob.{FilesJob}
use Rattle.osm_mirror.specs.declared.run.files_job.JobFile.{JobFile}
use Rattle.osm_mirror.specs.declared.run.files_job.JobFile.TheVariants.{File}
use Rattle.osm_mirror.specs.declared.run.input.InputFile.{InputFile}
use Rattle.osm_mirror.specs.declared.run.input.ReadAs.{ReadAs}
use Rattle.osm_mirror.specs.declared.run.input.ReadAs.TheVariants.{Within}
use Rattle.osm_mirror.specs.run.Bounds.{opl_size}
use Rattle.osm_mirror.specs.run.FilesRefusal.{IsOutputFault}
use Rattle.osm_mirror.specs.run.Probes.{HaveBytes}
use Rattle.osm_mirror.specs.run.Job.{union_of}
use Rattle.osm_mirror.specs.run.FilesJob.{OpensFile, OpensFiles, OpensRun, fault_in_run_or, fault_in_files}
use Rattle.osm_mirror.specs.run.Given.{GivesAs, IsFileAs, InputFileCanGive, CannotBeRead, IsUnread, source_of, sources}
use Rattle.osm_mirror.specs.run.SelectedJob.{IsJob, RefusesJob}
use Rattle.osm_mirror.specs.run.ShardExtent.{IsExtentOf, IsWayWithin, AreWaysWithin, opened_as_whole}
use Rattle.osm_mirror.specs.run.ShardRefusal.{IsFileRefusal, IsFaultByRule, AreRefused, IsGood}
use Rattle.osm_mirror.specs.run.ShardRefusal.{RefusesSpan, IsCutIfGood, IsLong}
use Rattle.osm_mirror.specs.run.ShardJob.{shard_slices, IsSpanJob}
use Rattle.osm_mirror.specs.run.SliceJob.{given_slice}
use Rattle.osm_mirror.specs.run.WaysJob.{IsJobInWays, RefusesInWays}
use Rattle.osm_mirror.proofs.run_laws.FileExtentLaws.{found_is, good_is, fault_is}
use Rattle.osm_mirror.proofs.run_laws.FilesRefusalLaws.{at_is, memory_found}
use Rattle.osm_mirror.proofs.run_laws.InputRefusalLaws.{has_number}
use Rattle.osm_mirror.proofs.run_laws.OutputFaultLaws.{cut_moved, cut_why, long_of, output_number, output_also}
use Rattle.osm_mirror.proofs.run_laws.FilesJobLaws.{as_pairs, pairwise_length, plain_given}

-- a refusal of a file that gets its number is one still
pub numbered_refusal : (Fails : Type 0) (known : Option (List ℕ)) (number : ℕ) (fault : Fault) → IsFileRefusal Fails known fault
    → IsFileRefusal Fails known (fault_at number fault.place fault.reason)
numbered_refusal Fails known number fault (inl failure) = inl (moved_failure Fails number fault.place fault failure)
numbered_refusal Fails known number fault (inr none) = inr none

-- ---- lists that belong together
-- two lists that belong to one list belong together
turned : {X Y Z : Type 0} (A : X → Y → Type 0) (B : X → Z → Type 0) (C : Y → Z → Type 0)
    → ((x : X) (y : Y) (z : Z) → A x y → B x z → C y z) → (xs : List X) (ys : List Y) (zs : List Z)
    → Pairwise A xs ys → Pairwise B xs zs → Pairwise C ys zs
turned A B C f [] [] [] a b = tt
turned A B C f [] (y ∷ ys) zs a b = absurd a
turned A B C f [] [] (z ∷ zs) a b = absurd b
turned A B C f (x ∷ xs) [] zs a b = absurd a
turned A B C f (x ∷ xs) (y ∷ ys) [] a b = absurd b
turned A B C f (x ∷ xs) (y ∷ ys) (z ∷ zs) a b = (f x y z a.0 b.0, turned A B C f xs ys zs a.1 b.1)

-- lists that belong to each other in sequence belong together
chained : {X Y Z : Type 0} (A : X → Y → Type 0) (B : Y → Z → Type 0) (C : X → Z → Type 0)
    → ((x : X) (y : Y) (z : Z) → A x y → B y z → C x z) → (xs : List X) (ys : List Y) (zs : List Z)
    → Pairwise A xs ys → Pairwise B ys zs → Pairwise C xs zs
chained A B C f [] [] [] a b = tt
chained A B C f [] [] (z ∷ zs) a b = absurd b
chained A B C f [] (y ∷ ys) zs a b = absurd a
chained A B C f (x ∷ xs) [] zs a b = absurd a
chained A B C f (x ∷ xs) (y ∷ ys) [] a b = absurd b
chained A B C f (x ∷ xs) (y ∷ ys) (z ∷ zs) a b = (f x y z a.0 b.0, chained A B C f xs ys zs a.1 b.1)

-- what belongs to the member at an index
paired_at : {X Y : Type 0} (P : X → Y → Type 0) (xs : List X) (ys : List Y) (k : ℕ) (x : X) → Pairwise P xs ys
    → slice_get xs k ≡ Some x → (y : Y) × P x y
paired_at P [] ys k x h e = absurd (let no : None ≡ Some x = e in cc)
paired_at P (a ∷ xs) [] k x h e = absurd h
paired_at P (a ∷ xs) (y ∷ ys) zero x h e =
    let same : a ≡ x = (let f : Some a ≡ Some x = e in cc) in (y, subst (λ b. P b y) same h.0)
paired_at P (a ∷ xs) (y ∷ ys) (suc k) x h e = paired_at P xs ys k x h.1 e

mapped_is : (f : VersionSet → VersionSet) (xs ys : List VersionSet) → Pairwise (λ x y. x ≡ f y) xs ys → xs ≡ map f ys
mapped_is f [] [] h = refl
mapped_is f [] (y ∷ ys) h = absurd h
mapped_is f (x ∷ xs) [] h = absurd h
mapped_is f (x ∷ xs) (y ∷ ys) h = let more = mapped_is f xs ys h.1 in (λ i. h.0 i ∷ more i)

to_mapped : {X : Type 0} (P : X → VersionSet → Type 0) (f : VersionSet → VersionSet) (xs : List X) (ys : List VersionSet)
    → Pairwise (λ x y. P x (f y)) xs ys → Pairwise P xs (map f ys)
to_mapped P f [] [] h = tt
to_mapped P f [] (y ∷ ys) h = absurd h
to_mapped P f (x ∷ xs) [] h = absurd h
to_mapped P f (x ∷ xs) (y ∷ ys) h = (h.0, to_mapped P f xs ys h.1)

-- ---- the runs of files
-- the number of all runs of files that are read in these ways
abbrev run_count : List FileWay → ℕ
run_count [] = 0
run_count (way ∷ ways) = length way.runs.items + run_count ways

-- each file is read as one run, if there is a span
abbrev AreOnes : Option Span → List FileWay → Type 0
AreOnes None ways = Unit {0}
AreOnes (Some span) [] = Unit {0}
AreOnes (Some span) (way ∷ ways) = ((run : SortedRun) × (way.runs.items ≡ run ∷ [])) × AreOnes (Some span) ways

-- a fault after the faults of all runs has the number of files
past_runs : (ways : List FileWay) (n k : ℕ) (fault : Fault) → k ≡ run_count ways
    → fault_in_files n ways k fault ≡ fault_at (n + length ways) fault.place fault.reason
past_runs [] n k fault is = ap (λ (m : ℕ). fault_at m fault.place fault.reason) (let e : n ≡ n + 0 = omega arith in e)
past_runs (way ∷ ways) n k fault is =
    ap (λ (found : Option SortedRun). fault_in_run_or n found fault (fault_in_files (n + 1) ways (k - length way.runs.items) fault))
    (slice_get_past way.runs.items k (omega (arith, is)))
    ∙ past_runs ways (n + 1) (k - length way.runs.items) fault (omega (arith, is))
    ∙ ap (λ (m : ℕ). fault_at m fault.place fault.reason) (let e : n + 1 + length ways ≡ n + suc (length ways) = omega arith in e)

-- the fault of one of the runs, if each file is one run
at_one : (span : Span) (ways : List FileWay) (n k : ℕ) (fault : Fault) → AreOnes (Some span) ways → k < length ways
    → (run : SortedRun) × (fault_in_files n ways k fault ≡ fault_at (n + k) (offset_in_file run fault.place) fault.reason)
at_one span [] n k fault ones low = absurd (omega (arith, low))
at_one span (way ∷ ways) n zero fault ((run, is), ones) low = (
  run,
  ap (λ (runs : List SortedRun). fault_in_run_or n (slice_get runs 0) fault
      (fault_in_files (n + 1) ways (0 - length way.runs.items) fault)) is
      ∙ ap (λ (m : ℕ). fault_at m (offset_in_file run fault.place) fault.reason) (let e : n ≡ n + 0 = omega arith in e),
)
at_one span (way ∷ ways) n (suc k) fault ((run, is), ones) low =
    let one = at_one span ways (n + 1) k fault ones (omega (arith, low)) in
    let left : suc k - length way.runs.items ≡ k = omega (arith, ap length is) in (
      one.0,
      ap (λ (runs : List SortedRun). fault_in_run_or n (slice_get runs (suc k)) fault
          (fault_in_files (n + 1) ways (suc k - length way.runs.items) fault)) is
          ∙ ap (λ (j : ℕ). fault_in_files (n + 1) ways j fault) left ∙ one.1
          ∙ ap (λ (m : ℕ). fault_at m (offset_in_file one.0 fault.place) fault.reason)
          (let e : n + 1 + k ≡ n + suc k = omega arith in e),
    )

-- ---- one input
module _ {F I : Type 0} (known : F → Option (List ℕ)) (fails : F → Type 0) (gives : I → InputRest → Type 0) where
  -- an input is an extent of a file within a span: the input can give only what the extent of the file gives
  pub record IsInputOf (span : Span) (file : F) (input : InputFile I) : Type 0 where
    pub extent : FileExtent
    pub is : IsExtentOf span (known file) extent
    pub how_is : input.read_as ≡ Within span extent.outside
    pub end_is : input.end ≡ rule.Any
    pub reads : (c : InputRest) → gives input.reader c → RunCanGive (fails file) (known file) extent.run extent.size c

  module _ (span : Span) where
    abbrev slice : VersionSet → VersionSet
    slice set = slice_of span.from span.to set

    abbrev Input : F → InputFile I → Type 0
    Input file input = IsInputOf span file input

    abbrev Gives : InputFile I → ReadAs × InputRest → Type 0
    Gives input given = InputFileCanGive gives input given

    -- the set of a file
    abbrev Set : F → VersionSet → Type 0
    Set file set = (bytes : List ℕ) × (known file ≡ Some bytes) × HoldsSorted bytes set

    -- the set of a file of which no read fails
    abbrev GoodSet : F → VersionSet → Type 0
    GoodSet file set = (bytes : List ℕ) × IsGood known fails file bytes × HoldsSorted bytes set

    way_is : (file : F) (input : InputFile I) (how : ReadAs) (c : InputRest) → (i : Input file input) → Gives input (how, c)
        → how ≡ Within span i.extent.outside
    way_is file input how c i g = sym g.0 ∙ i.how_is

    run_gives : (file : F) (input : InputFile I) (how : ReadAs) (c : InputRest) → (i : Input file input) → Gives input (how, c)
        → RunCanGive (fails file) (known file) i.extent.run i.extent.size c
    run_gives file input how c i g = i.reads c (plain_given gives input how c i.end_is g)

    input_found : (file : F) (input : InputFile I) (set : VersionSet) (given : ReadAs × InputRest) (found : VersionSet)
        → Input file input → Set file set → Gives input given → GivesAs given found → found ≡ slice set
    input_found file input set (how, c) found i (all, is, holds) g has =
        found_is span (fails file) all i.extent (subst (λ k. IsExtentOf span k i.extent) is i.is) i.extent.outside refl set holds
        (i.extent.outside, c) found refl
        (subst (λ k. RunCanGive (fails file) k i.extent.run i.extent.size c) is (run_gives file input how c i g))
        (subst (λ (h : ReadAs). GivesAs (h, c) found) (way_is file input how c i g) has)

    input_good : (file : F) (input : InputFile I) (set : VersionSet) (given : ReadAs × InputRest) → Input file input
        → GoodSet file set → Gives input given → IsFileAs given (slice set)
    input_good file input set (how, c) i (all, (is, never), holds) g =
        subst (λ (h : ReadAs). IsFileAs (h, c) (slice set)) (sym (way_is file input how c i g))
        (good_is span (fails file) all i.extent (subst (λ k. IsExtentOf span k i.extent) is i.is) i.extent.outside refl set holds never
        (i.extent.outside, c) refl
        (subst (λ k. RunCanGive (fails file) k i.extent.run i.extent.size c) is (run_gives file input how c i g)))

    known_fault : (Fails : Type 0) (k : Option (List ℕ)) (extent : FileExtent) (number : ℕ) (c : InputRest) (fault : Fault)
        → IsExtentOf span k extent → RunCanGive Fails k extent.run extent.size c
        → (given_slice span number (extent.outside, c)).refusal ≡ Some fault → IsFileRefusal Fails k fault
    known_fault Fails None extent number c fault is gives refused = inr tt
    known_fault Fails (Some all) extent number c fault is gives refused =
        fault_is span Fails all extent is extent.outside refl number (extent.outside, c) fault refl gives refused

    slice_refused : (file : F) (input : InputFile I) (number : ℕ) (how : ReadAs) (c : InputRest) (fault : Fault)
        → (i : Input file input) → Gives input (how, c) → (source_of number (how, c)).refusal ≡ Some fault
        → (given_slice span number (i.extent.outside, c)).refusal ≡ Some fault
    slice_refused file input number how c fault i g e =
        subst (λ (h : ReadAs). (source_of number (h, c)).refusal ≡ Some fault) (way_is file input how c i g) e

    -- ---- all inputs
    sets_of : (files : List F) (all : List (List ℕ)) (held : List VersionSet) → HaveBytes known files all
        → Pairwise HoldsSorted all held → Pairwise Set files held
    sets_of = chained (λ file bytes. known file ≡ Some bytes) HoldsSorted Set (λ file bytes set is holds. (bytes, is, holds))

    parts_are : (files : List F) (inputs : List (InputFile I)) (given : List (ReadAs × InputRest)) (found held : List VersionSet)
        → Pairwise Input files inputs → Pairwise Set files held → AllGive (InputFileCanGive gives) inputs given
        → Pairwise GivesAs given found → found ≡ map slice held
    parts_are files inputs given found held i s g h =
        let of_inputs = turned Input Set (λ input set. (file : F) × Input file input × Set file set)
        (λ file input set a b. (file, a, b)) files inputs held i s in
        let of_given = turned (InputFileCanGive gives) (λ input set. (file : F) × Input file input × Set file set)
        (λ c set. (extent : VersionSet) → GivesAs c extent → extent ≡ slice set)
        (λ input c set gives (file, a, b) extent has. input_found file input set c extent a b gives has) inputs given held
        (as_pairs (InputFileCanGive gives) inputs given g) of_inputs in
        mapped_is slice found held (turned GivesAs (λ c set. (extent : VersionSet) → GivesAs c extent → extent ≡ slice set)
        (λ extent set. extent ≡ slice set) (λ c extent set has one. one extent has) given found held h of_given)

    slices_given : (files : List F) (inputs : List (InputFile I)) (given : List (ReadAs × InputRest)) (held : List VersionSet)
        → Pairwise Input files inputs → Pairwise GoodSet files held → AllGive (InputFileCanGive gives) inputs given
        → Pairwise IsFileAs given (map slice held)
    slices_given files inputs given held i s g =
        let of_inputs = turned Input GoodSet (λ input set. (file : F) × Input file input × GoodSet file set)
        (λ file input set a b. (file, a, b)) files inputs held i s in
        to_mapped IsFileAs slice given held
        (turned (InputFileCanGive gives) (λ input set. (file : F) × Input file input × GoodSet file set)
        (λ c set. IsFileAs c (slice set)) (λ input c set gives (file, a, b). input_good file input set c a b gives) inputs given
        held (as_pairs (InputFileCanGive gives) inputs given g) of_inputs)

    -- the file of an input that is refused
    record Refusal (n : ℕ) (files : List F) (fault : Fault) : Type 0 where
      k : ℕ
      file : F
      at : slice_get files k ≡ Some file
      input_is : fault.input ≡ n + k
      of : IsFileRefusal (fails file) (known file) fault

    next_refusal : (n : ℕ) (file : F) (files : List F) (fault : Fault) → Refusal (n + 1) files fault → Refusal n (file ∷ files) fault
    next_refusal n file files fault r = record {
      k = suc r.k;
      file = r.file;
      at = r.at;
      input_is = r.input_is ∙ (let e : n + 1 + r.k ≡ n + suc r.k = omega arith in e);
      of = r.of;
    }

    refused_at : (n k : ℕ) (files : List F) (inputs : List (InputFile I)) (given : List (ReadAs × InputRest)) (fault : Fault)
        → Pairwise Input files inputs → AllGive (InputFileCanGive gives) inputs given → k < length (sources n given)
        → (rest_at (sources n given) k).refusal ≡ Some fault → Refusal n files fault
    refused_at n k files inputs [] fault i g low e = absurd (omega (arith, low))
    refused_at n k files [] (x ∷ given) fault i g low e = absurd g
    refused_at n k [] (input ∷ inputs) (x ∷ given) fault i g low e = absurd i
    refused_at n zero (file ∷ files) (input ∷ inputs) ((how, c) ∷ given) fault i g low e =
        let refused = slice_refused file input n how c fault i.0 g.0 e in record {
          k = 0;
          file = file;
          at = refl;
          input_is = has_number n (how, c) fault e ∙ (let same : n ≡ n + 0 = omega arith in same);
          of = known_fault (fails file) (known file) i.0.extent n c fault i.0.is (run_gives file input how c i.0 g.0) refused;
        }
    refused_at n (suc k) (file ∷ files) (input ∷ inputs) (x ∷ given) fault i g low e =
        next_refusal n file files fault (refused_at (n + 1) k files inputs given fault i.1 g.1 (omega (arith, low)) e)

    -- no input is read to its end first
    none_unread : (n : ℕ) (files : List F) (inputs : List (InputFile I)) (given : List (ReadAs × InputRest)) (fault : Fault)
        → Pairwise Input files inputs → AllGive (InputFileCanGive gives) inputs given → IsUnread n given fault → ⊥
    none_unread n files inputs [] fault i g u = u
    none_unread n files [] (x ∷ given) fault i g u = absurd g
    none_unread n [] (input ∷ inputs) (x ∷ given) fault i g u = absurd i
    none_unread n (file ∷ files) (input ∷ inputs) ((how, c) ∷ given) fault i g (inl one) =
        subst (λ (h : ReadAs). CannotBeRead n (h, c) fault) (way_is file input how c i.0 g.0) one
    none_unread n (file ∷ files) (input ∷ inputs) (x ∷ given) fault i g (inr more) =
        none_unread (n + 1) files inputs given fault i.1 g.1 more

  -- ---- what the job writes
  no_sets : (given : List (ReadAs × InputRest)) (found : List VersionSet) → given ≡ [] → Pairwise GivesAs given found → found ≡ []
  no_sets [] [] is h = refl
  no_sets [] (s ∷ found) is h = absurd h
  no_sets (c ∷ given) found is h = absurd (omega (arith, ap length is))

  none_given : (inputs : List (InputFile I)) (given : List (ReadAs × InputRest)) → inputs ≡ []
      → AllGive (InputFileCanGive gives) inputs given
      → given ≡ []
  none_given [] [] is g = refl
  none_given [] (c ∷ given) is g = absurd g
  none_given (i ∷ inputs) given is g = absurd (omega (arith, ap length is))

  run_written : (selection : Selection) (format : Format) (change : Change) (counts : Counts) (span : Option Span)
      (found held : List VersionSet) → found ≡ shard_slices span held
      → Appends change (spell format (selection_of selection (union_of found)))
      → counts.written ≡ capped_count (size (selection_of selection (union_of found)))
      → counts.clashes ≡ capped_count (clash_count (union_of found))
      → IsSpanJob selection span held format change counts
  run_written selection format change counts span found held same written count clashes = record {
    written = subst (λ (xs : List VersionSet). Appends change (spell format (selection_of selection (union_of xs)))) same written;
    written_count = count ∙ ap (λ (xs : List VersionSet). capped_count (size (selection_of selection (union_of xs)))) same;
    clashes_count = clashes ∙ ap (λ (xs : List VersionSet). capped_count (clash_count (union_of xs))) same;
  }

  -- the inputs are the extents of these files within a span, one for one; without a span there are none
  abbrev pub AreInputs : Option Span → List F → List (InputFile I) → Type 0
  AreInputs None files inputs = inputs ≡ []
  AreInputs (Some span) files inputs = Pairwise (IsInputOf span) files inputs

  -- A job over the extents of files is the job for the span.
  span_run_is : (span : Option Span) (files : List F) (inputs : List (InputFile I)) → AreInputs span files inputs
      → (selection : Selection) (format : Format) (change : Change) (counts : Counts)
      → SomeInputsGive (InputFileCanGive gives) inputs (λ given. IsJob selection given format change counts)
      → (all : List (List ℕ)) (held : List VersionSet) → HaveBytes known files all → Pairwise HoldsSorted all held
      → IsSpanJob selection span held format change counts
  span_run_is None files inputs are selection format change counts (given, g, run) all held have holds =
      run_written selection format change counts None run.held held
      (no_sets given run.held (none_given inputs given are g) run.files) run.written run.written_count run.clashes_count
  span_run_is (Some span) files inputs are selection format change counts (given, g, run) all held have holds =
      run_written selection format change counts (Some span) run.held held
      (parts_are span files inputs given run.held held are (sets_of span files all held have holds) g run.files) run.written
      run.written_count run.clashes_count

  -- ---- why the job is refused
  abbrev Why : List F → Change → Type 0 → Fault → Type 0
  Why files change Long fault = AreRefused known fails IsFileRefusal files fault ⊎ IsOutputFault (length files) change Long fault

  of_cut : (files : List F) (change : Change) (Long : Type 0) (fault : Fault) → (fault ≡ memory_fault)
      ⊎ IsOutputFault (length files) change Long fault → Why files change Long fault
  of_cut files change Long fault (inl memory) = inl (inl memory)
  of_cut files change Long fault (inr output) = inr output

  -- what is cut short as too long is too long
  long_if_cut : (selection : Selection) (format : Format) (span : List (List ℕ) → Option Span) (files : List F) (change : Change)
      (fault : Fault) → IsCutIfGood known fails selection format span files change fault → fault ≡ too_long_fault (length files)
      → IsLong known fails selection format span files
  long_if_cut selection format span files change fault cut is all held good holds few =
      let c = cut all held good holds few in
      long_of (length files) _ c.count change.failed fault c.why (ap (λ f. f.reason) is)

  -- a refusal at another offset of the file
  refusal_moved : (Fails : Type 0) (k : Option (List ℕ)) (fault r : Fault) → r.reason ≡ fault.reason → (fault.reason ≡ Memory → ⊥)
      → IsFileRefusal Fails k fault → IsFileRefusal Fails k r
  refusal_moved Fails k fault r same other (inl (inl memory)) = absurd (other (ap (λ f. f.reason) memory))
  refusal_moved Fails k fault r same other (inl (inr (fails, read))) = inl (inr (fails, same ∙ read))
  refusal_moved Fails k fault r same other (inr none) = inr none

  of_file : (span : Span) (files : List F) (ways : List FileWay) (fault : Fault) → length ways ≡ length files → AreOnes (Some span) ways
      → Refusal span 0 files fault → AreRefused known fails IsFileRefusal files (fault_in_files 0 ways fault.input fault)
  of_file span files ways fault many ones r =
      let index : fault.input ≡ r.k = r.input_is ∙ (let e : 0 + r.k ≡ r.k = omega arith in e) in
      let low : r.k < length ways = ⊎_elim (λ fine. fine)
      (λ far. absurd (let no : None ≡ Some r.file = sym (slice_get_past files r.k (omega (arith, far, many))) ∙ r.at in cc))
      (cases_lt r.k (length ways)) in
      let one = at_one span ways 0 r.k fault ones low in
      let number : 0 + r.k ≡ r.k = omega arith in
      let place : ℕ = offset_in_file one.0 fault.place in
      let moved : fault_in_files 0 ways fault.input fault ≡ fault_at r.k place fault.reason =
      ap (λ (k : ℕ). fault_in_files 0 ways k fault) index ∙ one.1 ∙ ap (λ (n : ℕ). fault_at n place fault.reason) number in
      subst (AreRefused known fails IsFileRefusal files) (sym moved)
      (⊎_elim (λ memory. inl memory)
      (λ at. inr (inl (
        r.file,
        ap (slice_get files) at.input_is ∙ r.at,
        refusal_moved (fails r.file) (known r.file) fault _ at.reason_is at.other r.of,
      )))
      (at_is r.k place fault.reason))

  good_sets : (span : Span) (files : List F) (all : List (List ℕ)) (held : List VersionSet) → Pairwise (IsGood known fails) files all
      → Pairwise HoldsSorted all held → Pairwise (GoodSet span) files held
  good_sets span = chained (IsGood known fails) HoldsSorted (GoodSet span) (λ file bytes set good holds. (bytes, good, holds))

  slices_are : (span : Option Span) (files : List F) (inputs : List (InputFile I)) (given : List (ReadAs × InputRest))
      (all : List (List ℕ)) (held : List VersionSet) → AreInputs span files inputs → Pairwise (IsGood known fails) files all
      → Pairwise HoldsSorted all held → AllGive (InputFileCanGive gives) inputs given → Pairwise IsFileAs given (shard_slices span held)
  slices_are None files inputs given all held are good holds g =
      subst (λ (xs : List (ReadAs × InputRest)). Pairwise IsFileAs xs []) (sym (none_given inputs given are g)) tt
  slices_are (Some span) files inputs given all held are good holds g =
      slices_given span files inputs given held are (good_sets span files all held good holds) g

  unread_within : (span : Option Span) (files : List F) (inputs : List (InputFile I)) (given : List (ReadAs × InputRest)) (fault : Fault)
      → AreInputs span files inputs → AllGive (InputFileCanGive gives) inputs given → IsUnread 0 given fault → ⊥
  unread_within None files inputs given fault are g u =
      subst (λ (xs : List (ReadAs × InputRest)). IsUnread 0 xs fault) (none_given inputs given are g) u
  unread_within (Some span) files inputs given fault are g u = none_unread span 0 files inputs given fault are g u

  extent_refused : (span : Option Span) (files : List F) (inputs : List (InputFile I)) (given : List (ReadAs × InputRest))
      (ways : List FileWay) (fault : Fault) → AreInputs span files inputs → AllGive (InputFileCanGive gives) inputs given
      → length ways ≡ length files → AreOnes span ways → (index : ℕ) → index < length (sources 0 given)
      → (rest_at (sources 0 given) index).refusal ≡ Some fault
      → AreRefused known fails IsFileRefusal files (fault_in_files 0 ways fault.input fault)
  extent_refused None files inputs given ways fault are g many ones index low e =
      absurd (omega (arith, low, ap (λ (xs : List (ReadAs × InputRest)). length (sources 0 xs)) (none_given inputs given are g)))
  extent_refused (Some span) files inputs given ways fault are g many ones index low e =
      of_file span files ways fault many ones (refused_at span 0 index files inputs given fault are g low e)

  -- A refused job over the extents of files is a refused job for the span.
  span_refused : {O : Type 0} (output : Ghosts O) (span : Option Span) (files : List F) (inputs : List (InputFile I))
      (ways : List FileWay) → AreInputs span files inputs → length inputs ≡ run_count ways → length ways ≡ length files
      → AreOnes span ways → (selection : Selection) (format : Format) (before after : O) (fault : Fault)
      → SomeInputsGive (InputFileCanGive gives) inputs (λ given. RefusesJob output selection given format before after fault)
      → RefusesSpan known fails IsFileRefusal selection format (λ _. span) files (change_of output before after)
      (fault_in_files 0 ways fault.input fault)
  span_refused output span files inputs ways are counted many ones selection format before after fault (given, g, refused) =
      let change = change_of output before after in
      let first = fault_in_files 0 ways fault.input fault in
      let number : length given ≡ run_count ways =
      sym (pairwise_length (InputFileCanGive gives) inputs given (as_pairs (InputFileCanGive gives) inputs given g)) ∙ counted in
      let moved = cut_moved (length given) (length files) fault first
      (λ memory. memory_found 0 ways fault.input fault memory)
      (λ is. past_runs ways 0 fault.input fault (is ∙ number)
      ∙ ap (λ (n : ℕ). fault_at n fault.place fault.reason) (let e : 0 + length ways ≡ length files = omega (arith, many) in e)) change in
      let Long : Type 0 = IsLong known fails selection format (λ _. span) files in
      let short : IsCutIfGood known fails selection format (λ _. span) files change first =
      (λ all held good holds few. moved _ (refused.cut (shard_slices span held)
      (slices_are span files inputs given all held are good holds g))) in
      record {
        why = elim refused.why [
          | inl (memory, same) ↦ inl (inl (memory_found 0 ways fault.input fault (ap (λ f. f.reason) memory)))
          | inr (inl (unread, same)) ↦ absurd (unread_within span files inputs given fault are g unread)
          | inr (inr (read, inl cut)) ↦ of_cut files change Long first (cut_why (length files) change _ first Long
              (long_if_cut selection format (λ _. span) files change first short) (moved _ cut))
          | inr (inr (read, inr f)) ↦ inl (extent_refused span files inputs given ways fault are g many ones f.index f.within f.refusal)
        ];
        cut = short;
      }

-- ---- the inputs that are opened
one_opened : {X Y : Type 0} (P : X → Y → Type 0) (xs : List X) (y : Y) → Pairwise P xs (y ∷ []) → (x : X) × (xs ≡ x ∷ []) × P x y
one_opened P [] y h = absurd h
one_opened P (x ∷ z ∷ xs) y h = absurd h.1
one_opened P (x ∷ []) y h = (x, refl, h.0)

none_opened : {X Y : Type 0} (P : X → Y → Type 0) (xs : List X) → Pairwise P xs [] → xs ≡ []
none_opened P [] h = refl
none_opened P (x ∷ xs) h = absurd h

module _ {F R I : Type 0} (fails : F → Type 0) (bytes : F → Option (List ℕ)) (can : R → InputRest → Type 0)
    (gives : I → InputRest → Type 0) where
  abbrev Known : Bor F → Option (List ℕ)
  Known file = bytes file.now

  abbrev Fails : Bor F → Type 0
  Fails file = fails file.now

  abbrev Opened : List (Bor F) → List FileWay → List (InputFile I) → Type 0
  Opened files ways inputs = OpensFiles fails bytes can gives (map opened_as_whole files) ways inputs

  way_input : (span : Span) (file : Bor F) (way : FileWay) (added : List (InputFile I)) → IsWayWithin (Some span) (bytes file.now) way
      → OpensFile fails bytes can gives (File file rule.Any) way added
      → (input : InputFile I) × (added ≡ input ∷ []) × IsInputOf Known Fails gives span file input
  way_input span file way added (extent, is, fit) opens =
      let Opens = OpensRun gives (fails file.now) (bytes file.now) way.size way.read_as in
      let one = one_opened Opens added extent.run (subst (Pairwise Opens added) fit.runs opens) in (
        one.0,
        one.1,
        record {
          extent = extent;
          is = is;
          how_is = one.2.read_as_is ∙ fit.read_as;
          end_is = one.2.end_is;
          reads = λ c gave. subst (λ (n : ℕ). RunCanGive (fails file.now) (bytes file.now) extent.run n c) fit.size
              (one.2.gives_run c gave);
        },
      )

  some_within : (span : Span) (files : List (Bor F)) (ways : List FileWay) (inputs : List (InputFile I))
      → AreWaysWithin bytes (Some span) files ways → Opened files ways inputs
      → Pairwise (IsInputOf Known Fails gives span) files inputs × (length inputs ≡ run_count ways) × AreOnes (Some span) ways
  some_within span [] [] inputs w opens = (
    subst (λ (xs : List (InputFile I)). Pairwise (IsInputOf Known Fails gives span) [] xs) (sym opens) tt,
    ap length opens,
    tt,
  )
  some_within span [] (way ∷ ways) inputs w opens = absurd w
  some_within span (file ∷ files) [] inputs w opens = absurd w
  some_within span (file ∷ files) (way ∷ ways) inputs w (added, others, is, one, more) =
      let input = way_input span file way added w.0 one in
      let rest = some_within span files ways others w.1 more in
      let all : inputs ≡ input.0 ∷ others = is ∙ ap (λ (xs : List (InputFile I)). xs ++ others) input.1 in (
        subst (λ (xs : List (InputFile I)). Pairwise (IsInputOf Known Fails gives span) (file ∷ files) xs) (sym all) (input.2, rest.0),
        omega (arith, ap length all, rest.1, ap length w.0.2.runs),
        ((w.0.0.run, w.0.2.runs), rest.2),
      )

  none_within : (files : List (Bor F)) (ways : List FileWay) (inputs : List (InputFile I))
      → AreWaysWithin bytes None files ways → Opened files ways inputs
      → (inputs ≡ []) × (length inputs ≡ run_count ways)
  none_within [] [] inputs w opens = (opens, ap length opens)
  none_within [] (way ∷ ways) inputs w opens = absurd w
  none_within (file ∷ files) [] inputs w opens = absurd w
  none_within (file ∷ files) (way ∷ ways) inputs w (added, others, is, one, more) =
      let Opens = OpensRun gives (fails file.now) (bytes file.now) way.size way.read_as in
      let none : added ≡ [] = none_opened Opens added (subst (Pairwise Opens added) w.0 one) in
      let rest = none_within files ways others w.1 more in
      let all : inputs ≡ others = is ∙ ap (λ (xs : List (InputFile I)). xs ++ others) none in (
        all ∙ rest.0,
        omega (arith, ap length all, rest.1, ap length w.0),
      )

  -- the inputs that were opened are the extents of the files
  pub record AreExtents (span : Option Span) (files : List (Bor F)) (ways : List FileWay) (inputs : List (InputFile I)) : Type 0 where
    pub are : AreInputs Known Fails gives span files inputs
    counted : length inputs ≡ run_count ways
    many : length ways ≡ length files
    ones : AreOnes span ways

  opened_within : (span : Option Span) (files : List (Bor F)) (ways : List FileWay) (inputs : List (InputFile I))
      → AreWaysWithin bytes span files ways → Opened files ways inputs → AreExtents span files ways inputs
  opened_within None files ways inputs w opens =
      let all = none_within files ways inputs w opens in
      record { are = all.0; counted = all.1; many = sym (pairwise_length _ files ways w); ones = tt }
  opened_within (Some span) files ways inputs w opens =
      let all = some_within span files ways inputs w opens in
      record { are = all.0; counted = all.1; many = sym (pairwise_length _ files ways w); ones = all.2 }

-- ---- refusals before anything is written
module _ {F : Type 0} (known : F → Option (List ℕ)) (fails : F → Type 0) where
  have_good : (files : List F) (all : List (List ℕ)) → Pairwise (IsGood known fails) files all → HaveBytes known files all
  have_good [] [] good = tt
  have_good [] (b ∷ all) good = absurd good
  have_good (f ∷ files) [] good = absurd good
  have_good (f ∷ files) (b ∷ all) good = (good.0.0, have_good files all good.1)

  -- a good file is refused for memory only
  good_refused : (file : F) (bytes : List ℕ) (set : VersionSet) (fault : Fault) → IsGood known fails file bytes → HoldsSorted bytes set
      → IsFileRefusal (fails file) (known file) fault → fault ≡ memory_fault
  good_refused file bytes set fault good holds (inl (inl memory)) = memory
  good_refused file bytes set fault good holds (inl (inr failed)) = absurd (good.1 failed.0)
  good_refused file bytes set fault good holds (inr none) =
      absurd ((subst (λ (k : Option (List ℕ)). IfSome k (λ all. (held : VersionSet) → HoldsSorted all held → ⊥)) good.0 none) set holds)

  only_memory : (files : List F) (fault : Fault) (all : List (List ℕ)) (held : List VersionSet)
      → Pairwise (IsGood known fails) files all → Pairwise HoldsSorted all held → sum_by opl_size all < 2 ^ 62
      → AreRefused known fails IsFileRefusal files fault → fault ≡ memory_fault
  only_memory files fault all held good holds few (inl memory) = memory
  only_memory files fault all held good holds few (inr (inl (file, at, refused))) =
      let both = chained (IsGood known fails) HoldsSorted (λ file set. (bytes : List ℕ) × IsGood known fails file bytes
      × HoldsSorted bytes set) (λ file bytes set a b. (bytes, a, b)) files all held good holds in
      let one = paired_at (λ file set. (bytes : List ℕ) × IsGood known fails file bytes × HoldsSorted bytes set) files held fault.input file
      both at in
      good_refused file one.1.0 one.0 fault one.1.1 one.1.2 refused
  only_memory files fault all held good holds few (inr (inr (reason, long))) =
      absurd (let many = long all (have_good files all good) in omega (arith, many, few))

  -- Files that are refused before anything is written refuse the job.
  pub nothing_cut : (selection : Selection) (format : Format) (span : List (List ℕ) → Option Span) (files : List F) (change : Change)
      (fault : Fault) → Appends change [] → AreRefused known fails IsFileRefusal files fault
      → RefusesSpan known fails IsFileRefusal selection format span files change fault
  nothing_cut selection format span files change fault nothing refused = record {
    why = inl refused;
    cut = λ all held good holds few. record {
      count = 0;
      within = omega arith;
      appended = nothing;
      why = inl (only_memory files fault all held good holds few refused);
    };
  }

  -- ---- the first fault in place of a fault
  pub first_refuses : (end : EndRule) (selection : Selection) (format : Format) (span other : List (List ℕ)
      → Option Span) (files : List F) (change : Change)
      (fault first : Fault)
      → ((all : List (List ℕ)) (held : List VersionSet) → HaveBytes known files all → Pairwise HoldsSorted all held → span all ≡ other all)
      → (AreRefused known fails IsFileRefusal files fault → AreRefused known fails (IsFaultByRule end) files first)
      → ((fault ≡ memory_fault) ⊎ (length files ≤ fault.input) → first ≡ fault)
      → RefusesSpan known fails IsFileRefusal selection format span files change fault
      → RefusesSpan known fails (IsFaultByRule end) selection format other files change first
  first_refuses end selection format span other files change fault first same_span named same r = record {
    why = elim r.why [
      | inl refused ↦ inl (named refused)
      | inr output ↦ (
          let at = output_number (length files) change _ fault output in
          let is : first ≡ fault = same (inr (omega (arith, at))) in
          inr (subst (IsOutputFault (length files) change (IsLong known fails selection format other files)) (sym is)
          (output_also (length files) change _ _ fault
          (λ long all held good holds few.
          subst (λ (s : Option Span). 2 ^ 62 ≤ length (spell format (selection_of selection (union_of (shard_slices s held)))))
          (same_span all held (have_good files all good) holds) (long all held good holds few)) output)))
    ];
    cut = λ all held good holds few.
        let c = r.cut all held good holds few in
        let Cut : Type 0 = (fault ≡ too_long_fault (length files)) in
        let is : first ≡ fault = ⊎_elim (λ memory. same (inl memory))
        (λ output. same (inr (let at = output_number (length files) change Cut fault output in omega (arith, at))))
        (cut_why (length files) change _ fault Cut (λ e. e) c) in
        let whole = same_span all held (have_good files all good) holds in
        subst (λ (f : Fault). CutShort (length files) change
        (spell format (selection_of selection (union_of (shard_slices (other all) held)))) f) (sym is)
        (subst (λ (s : Option Span). CutShort (length files) change
        (spell format (selection_of selection (union_of (shard_slices s held)))) fault) whole c);
  }

  -- ---- the files in a loop
  -- a fault of the file of a number, which the job puts in
  pub one_refused : (IsOf : Type 0 → Option (List ℕ) → Fault → Type 0) (files : List F) (number : ℕ) (file : F) (fault : Fault)
      → slice_get files number ≡ Some file → IsOf (fails file) (known file) (fault_at number fault.place fault.reason)
      → AreRefused known fails IsOf files (fault_at number fault.place fault.reason)
  one_refused IsOf files number file fault at of =
      ⊎_elim (λ memory. inl memory) (λ is. inr (inl (file, ap (slice_get files) is.input_is ∙ at, of)))
      (at_is number fault.place fault.reason)

-- ---- the job over files that are read in their ways for a span
module _ {F R I : Type 0} (fails : F → Type 0) (bytes : F → Option (List ℕ)) (can : R → InputRest → Type 0)
    (gives : I → InputRest → Type 0) (span : Option Span) (files : List (Bor F)) (ways : List FileWay)
    (within : AreWaysWithin bytes span files ways) (opened : List (JobFile F R)) (are : opened ≡ map opened_as_whole files)
    (job : FilesJob) where
  pub extents : (inputs : List (InputFile I)) → OpensFiles fails bytes can gives opened ways inputs
      → AreExtents fails bytes can gives span files ways inputs
  extents inputs opens =
      opened_within fails bytes can gives span files ways inputs within
      (subst (λ (fs : List (JobFile F R)). OpensFiles fails bytes can gives fs ways inputs) are opens)

  -- The job writes what the files have within the span.
  pub written_within : (change : Change) (counts : Counts) → IsJobInWays fails bytes can gives opened ways job change counts
      → (all : List (List ℕ)) (held : List VersionSet) → HaveBytes (Known fails bytes can gives) files all → Pairwise HoldsSorted all held
      → IsSpanJob job.selection span held job.format change counts
  written_within change counts is all held have holds =
      span_run_is (Known fails bytes can gives) (Fails fails bytes can gives) gives span files is.inputs (extents is.inputs is.opens).are
      job.selection job.format change counts is.done all held have holds

  -- A refused job is one for the span.
  pub refused_within : {O : Type 0} (output : Ghosts O) (before after : O) (fault : Fault)
      → RefusesInWays fails bytes can gives opened ways job output before after fault
      → RefusesSpan (Known fails bytes can gives) (Fails fails bytes can gives) IsFileRefusal job.selection job.format (λ _. span) files
      (change_of output before after) fault
  refused_within output before after fault (inl (memory, same)) =
      subst (λ o. RefusesSpan (Known fails bytes can gives) (Fails fails bytes can gives) IsFileRefusal job.selection job.format
      (λ _. span) files (change_of output before o) fault) (sym same)
      (nothing_cut (Known fails bytes can gives) (Fails fails bytes can gives) job.selection job.format (λ _. span) files
      (change_of output before before) fault (nothing_appended (output.holds before)) (inl memory))
  refused_within output before after fault (inr r) =
      let e = extents r.inputs r.opens in
      subst (RefusesSpan (Known fails bytes can gives) (Fails fails bytes can gives) IsFileRefusal job.selection job.format (λ _. span)
      files (change_of output before after)) (sym r.fault_is)
      (span_refused (Known fails bytes can gives) (Fails fails bytes can gives) gives output span files r.inputs ways e.are e.counted
      e.many e.ones job.selection job.format before after r.found r.refused)
