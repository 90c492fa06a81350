-- The output of the jobs over files, and the reasons why they are refused, from the merge of the files' sources.
use Rattle.std.proofs.Common.{◌≡◌, inl, inr, ℕ, ◌+◌, List, [], ◌∷◌, length, map, refl, sym, ap, ◌∙◌, subst, Some, None, sum_by, Result}
use Rattle.std.proofs.Common.{Ok, Err, IfOk, IfErr}
use Rattle.std.specs.List.{All}
use Rattle.std.proofs.lemmas.List.{length-map}
use Rattle.std.proofs.lemmas.List.Elements.{All-head, All-tail}
use Rattle.osm_model.specs.VersionSet.{VersionSet}
use Rattle.osm_model.specs.Sets.{size}
use Rattle.osm_model.specs.Pairwise.{Pairwise}
use Rattle.osm_files.specs.declared.fault.Fault.{Fault}
use Rattle.osm_files.specs.declared.format.Format.{Format}
use Rattle.osm_files.specs.declared.output.Output.{Ghosts}
use Rattle.osm_files.specs.Change.{change_of}
use Rattle.osm_files.specs.Fault.{memory_fault}
use Rattle.osm_files.specs.Input.{InputRest, GivesOne}
use Rattle.osm_files.specs.Output.{Change, Appends}
use Rattle.osm_files.specs.Sink.{CutShort}
use Rattle.osm_files.specs.Spell.{spell}
use Rattle.osm_merge.specs.declared.merge.Counts.{Counts}
use Rattle.osm_merge.specs.declared.selection.Selection.{Selection}
use Rattle.osm_merge.specs.declared.selection.Selection.TheVariants as selection
use Rattle.osm_merge.specs.Giving.{AllGive, SomeInputsGive}
use Rattle.osm_files.specs.Groups.{sorted_source}
use Rattle.osm_files.proofs.FirstFaultLaws.{sources_give}
use Rattle.osm_merge.specs.Merged as merged
use Rattle.osm_merge.specs.Selected.{selection_of}
use Rattle.osm_merge.specs.ToCome as source
use Rattle.osm_merge.specs.Clashes.{clash_count}
use Rattle.osm_merge.specs.Union as union
use Rattle.osm_merge.proofs.GiveLaws.{give_one, give_size}
use Rattle.osm_mirror.specs.declared.run.input.InputFile.{InputFile}
use Rattle.osm_mirror.specs.declared.run.input.ReadAs.{ReadAs}
use Rattle.osm_mirror.specs.declared.run.files_job.Order.TheVariants.{Sorted, Any}
use Rattle.osm_mirror.specs.declared.run.input.ReadAs.TheVariants.{InOrder}
use Rattle.osm_mirror.specs.declared.run.source.InputSource.{InputSource}
use Rattle.osm_mirror.specs.run.Command.{IsWritten, IsNotWritten}
use Rattle.osm_mirror.specs.run.Given.{GivesFile, GivesAs, IsFileAs, source_of, sources, InputFileCanGive, file_as, IsRead}
use Rattle.osm_mirror.specs.run.Given.{AreOpened}
use Rattle.osm_mirror.specs.run.Given.{CannotBeRead, IsUnread, IsUnopened}
use Rattle.osm_mirror.specs.run.Merge as merge
use Rattle.osm_mirror.specs.run.Job.{union_of, sources_by, IsBoundedFor, IsJobBy, IsCutShort, RefusesJobBy}
use Rattle.osm_mirror.specs.run.SelectedJob.{IsJob, IsJobRefused, RefusesJob}
use Rattle.osm_mirror.specs.run.SourceRest.{SourceCanGive}
use Rattle.osm_mirror.proofs.run_laws.SourceLaws.{members, union_given_is, cut_at_once, all_give, sizes, so_many, as_all_given, not_unread}
use Rattle.osm_mirror.proofs.run_laws.SourceLaws.{opened_give}

module _ (selection : Selection) (format : Format) (change : Change) where
  run_is : (inputs : List (ReadAs × InputRest)) (counts : Counts) → merged.IsMergedAs selection (sources 0 inputs) format change counts
      → IsJob selection inputs format change counts
  run_is inputs counts m =
      let held : List VersionSet = map members (sources 0 inputs) in
      let same : union.union_given (sources 0 inputs) ≡ union_of held = union_given_is (sources 0 inputs) in
      record {
        held = held;
        files = all_give 0 inputs m.whole;
        written = subst (λ (s : VersionSet). Appends change (spell format (selection_of selection s))) same m.appended;
        read_count = m.read ∙ ap union.capped_count (sizes 0 inputs);
        written_count = m.written ∙ ap (λ (s : VersionSet). union.capped_count (size (selection_of selection s))) same;
        compared_count =
            subst (λ (n : ℕ). IsBoundedFor selection n (sum_by size held) counts.compared) (so_many 0 inputs)
            (subst (λ (n : ℕ). IsBoundedFor selection (length (sources 0 inputs)) n counts.compared) (sizes 0 inputs) m.compared);
        clashes_count = m.clashes ∙ ap (λ (s : VersionSet). union.capped_count (clash_count s)) same;
      }

module _ {O : Type 0} (output : Ghosts O) (selection : Selection) (format : Format) (before after : O) where
  -- for files that can be read in their ways, a front of the output was written
  cut_is : (inputs : List (ReadAs × InputRest)) (fault : Fault) → IsJobRefused output selection inputs format before after fault
      → IsCutShort IsFileAs (selection_of selection) inputs format (change_of output before after) fault
  cut_is inputs fault (inl (memory, same)) = λ held h.
      cut_at_once output before after (length inputs) (spell format (selection_of selection (union_of held))) fault memory same
  cut_is inputs fault (inr (inl (unread, same))) = λ held h. absurd (not_unread 0 inputs held fault h unread)
  cut_is inputs fault (inr (inr (read, inl cut))) = λ held h.
      subst (λ (s : VersionSet). CutShort (length inputs) (change_of output before after) (spell format (selection_of selection s)) fault)
      (union_given_is (sources 0 inputs) ∙ ap union_of (as_all_given 0 inputs held h).0) cut
  cut_is inputs fault (inr (inr (read, inr f))) = λ held h.
      absurd (let none : (source.rest_at (sources 0 inputs) f.index).refusal ≡ None = (as_all_given 0 inputs held h).1 f.index _ f.within
      in let e : None ≡ Some fault = sym none ∙ f.refusal in cc)

  -- why a job was refused, with the bytes that it wrote
  pub refuses : (inputs : List (ReadAs × InputRest)) (fault : Fault) → IsJobRefused output selection inputs format before after fault
      → RefusesJob output selection inputs format before after fault
  refuses inputs fault why = record { why = why; cut = cut_is inputs fault why }

-- ---- the results of the sources, in terms of the inputs
module _ {R : Type 0} (can : R → InputRest → Type 0) {O : Type 0} (output : Ghosts O) (selection : Selection) (format : Format)
    (files : List (InputFile R)) where
  -- no source was opened
  pub unopened : (before : O) (fault : Fault) → SomeInputsGive (InputFileCanGive can) files (λ all. IsUnopened 0 all fault)
      → SomeInputsGive (InputFileCanGive can) files (λ all. RefusesJob output selection all format before before fault)
  unopened before fault h = (
    h.0,
    h.1,
    refuses output selection format before before h.0 fault (elim h.2 [
      | inl memory ↦ inl (memory, refl)
      | inr unread ↦ inr (inl (unread, refl))
    ]),
  )

  module _ (opened : List (InputSource R)) (are : AreOpened can 0 files opened) (given : Format) (same : given ≡ format)
      (before after : O) where
    -- A merge of the opened sources writes the same as the job.
    pub ran_written : (result : Result Counts Fault)
        → IfOk result (λ counts. SomeInputsGive (SourceCanGive can) opened
        (λ all. merged.IsMergedAs selection all given (change_of output before after) counts))
        → IfOk result (λ counts. SomeInputsGive (InputFileCanGive can) files
        (λ all. IsJob selection all format (change_of output before after) counts))
    ran_written (Ok counts) h =
        let q = opened_give can 0 files opened h.0 are h.1 in
        let m =
        subst (λ (all : List source.VersionsToCome). merged.IsMergedAs selection all given (change_of output before after) counts) q.2
        h.2 in (
          q.0,
          q.1,
          run_is selection format (change_of output before after) q.0 counts
              (subst (λ (f : Format). merged.IsMergedAs selection (sources 0 q.0) f (change_of output before after) counts) same m),
        )
    ran_written (Err fault) h = tt

    -- A merge of the opened sources that is refused refuses the job.
    pub ran_refused : (number : ℕ) → number ≡ length files → (result : Result Counts Fault)
        → IfErr result (λ fault. SomeInputsGive (SourceCanGive can) opened
        (λ all. merged.IsRefusedAs selection all given number (change_of output before after) fault))
        → IfErr result (λ fault. SomeInputsGive (InputFileCanGive can) files
        (λ all. RefusesJob output selection all format before after fault))
    ran_refused number many (Ok counts) h = tt
    ran_refused number many (Err fault) h =
        let q = opened_give can 0 files opened h.0 are h.1 in
        let m =
        subst (λ (all : List source.VersionsToCome). merged.IsRefusedAs selection all given number (change_of output before after)
        fault) q.2 h.2 in
        let count : number ≡ length q.0 = many ∙ sym (give_size (InputFileCanGive can) files q.0 q.1) in
        let why = subst (λ (n : ℕ). merged.IsRefusedAs selection (sources 0 q.0) format n (change_of output before after) fault) count
        (subst (λ (f : Format). merged.IsRefusedAs selection (sources 0 q.0) f number (change_of output before after) fault) same m) in
        (q.0, q.1, refuses output selection format before after q.0 fault (inr (inr (q.3, why))))

-- ---- jobs whose inputs are all read in one way
-- `as_file` is the input that a job reads for an input of such a job.
module _ {I : Type 0} (as_file : I → ReadAs × InputRest) where
  of_mapped_pairs : (Gives : ReadAs × InputRest → VersionSet → Type 0) (inputs : List I) (held : List VersionSet) →
      Pairwise Gives (map as_file inputs) held → Pairwise (λ c. Gives (as_file c)) inputs held
  of_mapped_pairs Gives [] [] h = h
  of_mapped_pairs Gives [] (s ∷ held) h = h
  of_mapped_pairs Gives (c ∷ inputs) [] h = h
  of_mapped_pairs Gives (c ∷ inputs) (s ∷ held) h = (h.0, of_mapped_pairs Gives inputs held h.1)

  to_mapped_pairs : (Gives : ReadAs × InputRest → VersionSet → Type 0) (inputs : List I) (held : List VersionSet) →
      Pairwise (λ c. Gives (as_file c)) inputs held → Pairwise Gives (map as_file inputs) held
  to_mapped_pairs Gives [] [] h = h
  to_mapped_pairs Gives [] (s ∷ held) h = h
  to_mapped_pairs Gives (c ∷ inputs) [] h = h
  to_mapped_pairs Gives (c ∷ inputs) (s ∷ held) h = (h.0, to_mapped_pairs Gives inputs held h.1)

  mapped_sources : (number : ℕ) (inputs : List I) →
      sources number (map as_file inputs) ≡ sources_by (λ n c. source_of n (as_file c)) number inputs
  mapped_sources number [] = refl
  mapped_sources number (c ∷ inputs) = ap (λ all. source_of number (as_file c) ∷ all) (mapped_sources (number + 1) inputs)

  -- what such a job wrote and counted
  mapped_run : (choice : VersionSet → VersionSet) (Compared : ℕ → ℕ → ℕ → Type 0) (inputs : List I) (format : Format) (change : Change)
      (counts : Counts) → IsJobBy GivesAs choice Compared (map as_file inputs) format change counts →
      IsJobBy (λ c. GivesAs (as_file c)) choice Compared inputs format change counts
  mapped_run choice Compared inputs format change counts r = record {
    held = r.held;
    files = of_mapped_pairs GivesAs inputs r.held r.files;
    written = r.written;
    read_count = r.read_count;
    written_count = r.written_count;
    compared_count = subst (λ n. Compared n (sum_by size r.held) counts.compared) (length-map inputs as_file) r.compared_count;
    clashes_count = r.clashes_count;
  }

  mapped_cut : (choice : VersionSet → VersionSet) (inputs : List I) (format : Format) (change : Change) (fault : Fault) →
      IsCutShort IsFileAs choice (map as_file inputs) format change fault →
      IsCutShort (λ c. IsFileAs (as_file c)) choice inputs format change fault
  mapped_cut choice inputs format change fault cut = λ held h.
      subst (λ n. CutShort n change (spell format (choice (union_of held))) fault) (length-map inputs as_file)
      (cut held (to_mapped_pairs IsFileAs inputs held h))

  -- jobs that read no input to its end first
  module _ (never : (number : ℕ) (c : I) (fault : Fault) → CannotBeRead number (as_file c) fault → ⊥) where
    none_unread : (number : ℕ) (inputs : List I) (fault : Fault) → IsUnread number (map as_file inputs) fault → ⊥
    none_unread number [] fault h = h
    none_unread number (c ∷ inputs) fault (inl one) = never number c fault one
    none_unread number (c ∷ inputs) fault (inr others) = none_unread (number + 1) inputs fault others

    module _ {O : Type 0} (output : Ghosts O) (selection : Selection) (format : Format) (before after : O) (fault : Fault) where
      mapped_why : (inputs : List I) → IsJobRefused output selection (map as_file inputs) format before after fault →
          merged.IsRefusedAs selection (sources_by (λ n c. source_of n (as_file c)) 0 inputs) format (length inputs)
          (change_of output before after) fault
      mapped_why inputs (inl (memory, same)) =
          inl (cut_at_once output before after (length inputs)
          (spell format (selection_of selection (union.union_given (sources_by (λ n c. source_of n (as_file c)) 0 inputs)))) fault
          memory same)
      mapped_why inputs (inr (inl (unread, same))) = absurd (none_unread 0 inputs fault unread)
      mapped_why inputs (inr (inr (read, refused))) =
          subst (λ all. merged.IsRefusedAs selection all format (length inputs) (change_of output before after) fault)
          (mapped_sources 0 inputs)
          (subst (λ n. merged.IsRefusedAs selection (sources 0 (map as_file inputs)) format n (change_of output before after) fault)
          (length-map inputs as_file) refused)

      -- why such a job was refused, and the bytes that it wrote
      mapped_refuses : (inputs : List I) → RefusesJob output selection (map as_file inputs) format before after fault →
          RefusesJobBy (merged.IsRefusedAs selection (sources_by (λ n c. source_of n (as_file c)) 0 inputs) format (length inputs)
          (change_of output before after) fault) (λ c. IsFileAs (as_file c)) (selection_of selection) inputs format
          (change_of output before after) fault
      mapped_refuses inputs r = record {
        why = mapped_why inputs r.why;
        cut = mapped_cut (selection_of selection) inputs format (change_of output before after) fault r.cut;
      }

-- The files of a job, which are read for these items: what the files can give, the items can give.
module _ {R X I : Type 0} (can : R → InputRest → Type 0) (file : X → InputFile R) (gives : X → I → Type 0)
    (as_file : I → ReadAs × InputRest)
    (back : (x : X) (input : ReadAs × InputRest) → InputFileCanGive can (file x) input → (c : I) × gives x c × (input ≡ as_file c)) where
  mapped_give : (items : List X) (all : List (ReadAs × InputRest)) → AllGive (InputFileCanGive can) (map file items) all →
      (given : List I) × AllGive gives items given × (all ≡ map as_file given)
  mapped_give [] [] g = ([], tt, refl)
  mapped_give [] (c ∷ all) g = absurd g
  mapped_give (x ∷ items) [] g = absurd g
  mapped_give (x ∷ items) (c ∷ all) g =
      let one = back x c g.0 in
      let others = mapped_give items all g.1 in
      (one.0 ∷ others.0, (one.1, others.1), (λ i. one.2 i ∷ others.2 i))

  some_mapped : (items : List X) (files : List (InputFile R)) → files ≡ map file items → (P : List (ReadAs × InputRest) → Type 0) →
      SomeInputsGive (InputFileCanGive can) files P → SomeInputsGive gives items (λ given. P (map as_file given))
  some_mapped items files are P h =
      let q = mapped_give items h.0 (subst (λ (fs : List (InputFile R)). AllGive (InputFileCanGive can) fs h.0) are h.1) in
      (q.0, q.1, subst P q.2 h.2)

-- the files of readers that are all read in the way `how`
of_readers : {R : Type 0} (can : R → InputRest → Type 0) (how : ReadAs) (readers : List R) (files : List (InputFile R)) →
    files ≡ map (file_as how) readers → (P : List (ReadAs × InputRest) → Type 0) → SomeInputsGive (InputFileCanGive can) files P →
    SomeInputsGive can readers (λ given. P (map (λ c. (how, c)) given))
of_readers can how =
    some_mapped can (file_as how) can (λ c. (how, c)) (λ reader input h. (h.1.0, h.1.1, (λ i. (sym h.0 i, h.1.2 i))))

-- the sets of the files that were read to their ends
sets : (all : List InputRest) → All IsRead (map (λ c. (InOrder Any, c)) all) → (held : List VersionSet) × Pairwise GivesFile all held
sets [] h = ([], tt)
sets (c ∷ all) h =
    let one : IsRead (InOrder Any, c) = All-head IsRead (InOrder Any, c) (map (λ d. (InOrder Any, d)) all) h in
    let others = sets all (All-tail IsRead (InOrder Any, c) (map (λ d. (InOrder Any, d)) all) h) in
    (one.0 ∷ others.0, (one.1, others.1))

-- what the sources of sorted files give
given_by : (number : ℕ) (inputs : List InputRest) → merge.AreGivenBy number inputs (sources_by sorted_source number inputs)
given_by number [] = tt
given_by number (c ∷ inputs) = (sources_give number c, given_by (number + 1) inputs)

module _ {O : Type 0} (output : Ghosts O) (format : Format) (before after : O) where
  merge_refuses : (all : List InputRest) (fault : Fault) →
      RefusesJob output selection.All (map (λ c. (InOrder Sorted, c)) all) format before after fault →
      merge.Refuses all format (change_of output before after) fault
  merge_refuses all fault refused =
      let r =
      mapped_refuses (λ c. (InOrder Sorted, c)) (λ number c fault h. h) output selection.All format before after fault all refused in
      record { why = (sources_by sorted_source 0 all, given_by 0 all, r.why); cut = r.cut }

  command_refuses : (selection : Selection) (all : List InputRest) (fault : Fault) →
      RefusesJob output selection (map (λ c. (InOrder Any, c)) all) format before after fault →
      IsNotWritten output (selection_of selection) all format before after fault
  command_refuses selection all fault r =
      elim r.why [
        | inl memory ↦ inl memory
        | inr (inl unread) ↦ inr (inl unread)
        | inr (inr (read, refused)) ↦ inr (inr (
          (sets all read).0,
          (sets all read).1,
          mapped_cut (λ c. (InOrder Any, c)) (selection_of selection) all format (change_of output before after) fault r.cut
              (sets all read).0 (sets all read).1,
        ))
      ]

  module _ {R : Type 0} (can : R → InputRest → Type 0) (readers : List R) (files : List (InputFile R)) where
    -- A job over files that are all sorted is a merge of their readers.
    pub merge_done : files ≡ map (file_as (InOrder Sorted)) readers → (counts : Counts) →
        SomeInputsGive (InputFileCanGive can) files (λ all. IsJob selection.All all format (change_of output before after) counts) →
        SomeInputsGive can readers (λ all. merge.IsMerged all format (change_of output before after) counts)
    merge_done are counts h =
        let q = of_readers can (InOrder Sorted) readers files are
        (λ all. IsJob selection.All all format (change_of output before after) counts) h in (
          q.0,
          q.1,
          mapped_run (λ c. (InOrder Sorted, c)) (λ set. set) merged.IsBounded q.0 format (change_of output before after) counts q.2,
        )

    pub merge_stops : files ≡ map (file_as (InOrder Sorted)) readers → (fault : Fault) →
        SomeInputsGive (InputFileCanGive can) files (λ all. RefusesJob output selection.All all format before after fault) →
        SomeInputsGive can readers (λ all. merge.Refuses all format (change_of output before after) fault)
    merge_stops are fault h =
        let q = of_readers can (InOrder Sorted) readers files are
        (λ all. RefusesJob output selection.All all format before after fault) h in
        (q.0, q.1, merge_refuses q.0 fault q.2)

    -- A job over files that may all have any order is a command over their readers.
    pub command_done : (selection : Selection) → files ≡ map (file_as (InOrder Any)) readers → (counts : Counts) →
        SomeInputsGive (InputFileCanGive can) files (λ all. IsJob selection all format (change_of output before after) counts) →
        SomeInputsGive can readers (λ all. IsWritten (selection_of selection) all format (change_of output before after)
        (record { read = counts.read; written = counts.written; compared = 0; clashes = counts.clashes }))
    command_done selection are counts h =
        let q = of_readers can (InOrder Any) readers files are
        (λ all. IsJob selection all format (change_of output before after) counts) h in
        let r = mapped_run (λ c. (InOrder Any, c)) (selection_of selection) (IsBoundedFor selection) q.0 format
        (change_of output before after) counts q.2 in (
          q.0,
          q.1,
          record {
            held = r.held;
            files = r.files;
            written = r.written;
            read_count = r.read_count;
            written_count = r.written_count;
            compared_count = refl;
            clashes_count = r.clashes_count;
          },
        )

    pub command_stops : (selection : Selection) → files ≡ map (file_as (InOrder Any)) readers → (fault : Fault) →
        SomeInputsGive (InputFileCanGive can) files (λ all. RefusesJob output selection all format before after fault) →
        SomeInputsGive can readers (λ all. IsNotWritten output (selection_of selection) all format before after fault)
    command_stops selection are fault h =
        let q = of_readers can (InOrder Any) readers files are (λ all. RefusesJob output selection all format before after fault) h in
        (q.0, q.1, command_refuses selection q.0 fault q.2)

-- ---- jobs for which memory ran out before a file was opened
module _ {R : Type 0} (can : R → InputRest → Type 0) (one : R → InputRest) (possible : (r : R) → can r (one r)) {O : Type 0}
    (output : Ghosts O) (format : Format) (before : O) (fault : Fault) (memory : fault ≡ memory_fault) where
  at_once : (selection : Selection) (inputs : List (ReadAs × InputRest)) → RefusesJob output selection inputs format before before fault
  at_once selection inputs = refuses output selection format before before inputs fault (inl (memory, refl))

  pub merge_at_once : (readers : List R) →
      SomeInputsGive can readers (λ all. merge.Refuses all format (change_of output before before) fault)
  merge_at_once readers =
      let all = map one readers in (
        all,
        give_one can one possible readers,
        merge_refuses output format before before all fault (at_once selection.All (map (λ c. (InOrder Sorted, c)) all)),
      )

  -- A command that runs out of memory before it reads wrote nothing.
  pub command_at_once : (choice : VersionSet → VersionSet) (readers : List R) →
      SomeInputsGive can readers (λ all. IsNotWritten output choice all format before before fault)
  command_at_once choice readers = (map one readers, give_one can one possible readers, inl (memory, refl))

-- ---- the commands over one input
-- a property of a list of one input
one_of : {R : Type 0} (can : R → InputRest → Type 0) (input : R) (P : List InputRest → Type 0) (all : List InputRest) →
    AllGive can (input ∷ []) all
    → P all → GivesOne (can input) (λ c. P (c ∷ []))
one_of can input P [] g h = absurd g
one_of can input P (c ∷ []) g h = (c, g.0, h)
one_of can input P (c ∷ d ∷ all) g h = absurd g.1

-- A property of a list of one input is one of the input.
pub one_written : {R : Type 0} (can : R → InputRest → Type 0) (items : List R) (input : R) → items ≡ input ∷ []
    → (P : List InputRest → Counts → Type 0) (result : Result Counts Fault) →
    IfOk result (λ counts. SomeInputsGive can items (λ all. P all counts))
    → IfOk result (λ counts. GivesOne (can input) (λ c. P (c ∷ []) counts))
one_written can items input is P (Ok counts) h = one_of can input (λ all. P all counts) h.0 (subst (λ xs. AllGive can xs h.0) is h.1) h.2
one_written can items input is P (Err fault) h = tt

-- A property of the refusal of a list of one input is one of the refusal of the input.
pub one_refused : {R : Type 0} (can : R → InputRest → Type 0) (items : List R) (input : R) → items ≡ input ∷ []
    → (P : List InputRest → Fault → Type 0) (result : Result Counts Fault) →
    IfErr result (λ fault. SomeInputsGive can items (λ all. P all fault))
    → IfErr result (λ fault. GivesOne (can input) (λ c. P (c ∷ []) fault))
one_refused can items input is P (Ok counts) h = tt
one_refused can items input is P (Err fault) h = one_of can input (λ all. P all fault) h.0 (subst (λ xs. AllGive can xs h.0) is h.1) h.2
